-- The outer invariant: the first items of the list have a twin; the inner: none of the first items of the other is one of the item.
-- Without a twin the answer is false.
use mathlib.Core.Path.{◌≡◌}
use mathlib.Core.Bool.{true, false}
use lib.ListN.{length}
use Rattle.rules.specs.Finite.{any_below, all_below}
use Rattle.twins.specs.Halves.{is_same, has_same}
use Rattle.twins.proofs.halves.within.Given as goal

abbrev pub invariant-candidates : goal.invariant-candidates
invariant-candidates l = any_below l.y-index (is_same l.list l.other l.x-index) ≡ false

abbrev pub invariant-midpoints : goal.invariant-midpoints
invariant-midpoints l = (l.all ≡ true) × (all_below l.x-index (has_same l.list l.other (length l.other)) ≡ true)
