-- Without a split nothing is to be laid out; else the rows of the level directly below are, which serve every split (`laid_some`).
use native.Mathlib.Omega.{arith}
use Rattle.twins.proofs.Laws.Below.{split_above, below_stands, laid_some}
use Rattle.twins.proofs.Laws.Skips.{laid_none}
use Rattle.twins.proofs.skips.lay_out.Goals as goal

pub returns-then-splits-eq0 : goal.returns-then-splits-eq0
returns-then-splits-eq0 c = laid_none _ _ _ _ c.splits.ensures.0 c.if-splits-eq0.true c.requires.area_room

pub of-requires : goal.of-requires
of-requires c =
    let h = split_above _ c.splits.ensures.0 c.if-splits-eq0.false in
    below_stands _ _ _ _ c.requires _ (omega (arith, h)) (omega (arith, h))

pub skip_rows-requires : goal.skip_rows-requires
skip_rows-requires c = rw c.of.ensures.0 (c.requires.few, c.requires.area_room)

pub returns : goal.returns
returns c =
    let r = c.requires in
    let s = rw (c.of.ensures.0, c.of.ensures.1) at c.skip_rows.ensures in
    (laid_some _ _ _ _ r _ s.0, s.1)
