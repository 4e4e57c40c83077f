-- A list of midpoints has their four largest hashes (`listed_most`); each is below 2^32, so the sum fits.
use native.Mathlib.Omega.{arith}
use Rattle.twins.proofs.Laws.Signature.{listed_most, most_small}
use Rattle.twins.proofs.hashes.most_at.Goals as goal

pub overflow_add-result : goal.overflow_add-result
overflow_add-result c = omega (arith, most_small _ _ _ c.of-m.ensures.none, most_small _ _ _ c.of-m.ensures.quarter)

pub overflow_add-result-2 : goal.overflow_add-result-2
overflow_add-result-2 c = omega (arith, most_small _ _ _ c.of-m.ensures.none, most_small _ _ _ c.of-m.ensures.quarter, most_small _ _ _ c.of-m.ensures.half)

pub overflow_add-result-3 : goal.overflow_add-result-3
overflow_add-result-3 c = omega (arith, most_small _ _ _ c.of-m.ensures.none, most_small _ _ _ c.of-m.ensures.quarter, most_small _ _ _ c.of-m.ensures.half, most_small _ _ _ c.of-m.ensures.most)

pub returns : goal.returns
returns c =
    let m = c.of-m.ensures in (
      λ n i p levels h. listed_most n i levels p _ _ h m,
      omega (arith, most_small _ _ _ m.none, most_small _ _ _ m.quarter, most_small _ _ _ m.half, most_small _ _ _ m.most),
    )
