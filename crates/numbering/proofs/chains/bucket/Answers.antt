-- The marks there and back and the hashes of the list give `bucket_of` by its definition; a remainder by n·n is below n·n.
use native.Mathlib.Nat.{mod-lt}
use native.Mathlib.Omega.{arith}
use Rattle.rules.proofs.Laws.Places.{row_lt, column_lt}
use Rattle.twins.proofs.Laws.Signature.{bucket_is}
use Rattle.numbering.proofs.chains.bucket.Goals as goal

pub mark_at-there-requires : goal.mark_at-there-requires
mark_at-there-requires c = rw (c.at-e.ensures.0, c.at-e.ensures.1) (record { first = row_lt _ _ c.requires; second = column_lt _ _ c.requires })

pub mark_at-back-requires : goal.mark_at-back-requires
mark_at-back-requires c = rw (c.at-e.ensures.0, c.at-e.ensures.1) (record { first = column_lt _ _ c.requires; second = row_lt _ _ c.requires })

pub returns : goal.returns
returns c = (
  λ i levels h. (bucket_is _ _ _ _ _ c.requires c.args.steps.bytes (rw (c.at-e.ensures.0, c.at-e.ensures.1) at c.mark_at-there.ensures.0) (rw (c.at-e.ensures.0, c.at-e.ensures.1) at c.mark_at-back.ensures.0) (c.most_at-h.ensures.0 _ i _ levels h)).0,
  mod-lt _ (omega (arith, c.requires)),
)
