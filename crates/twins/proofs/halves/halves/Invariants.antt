-- The invariant: what stands behind the first k of the list is just the midpoints among the first m items; one equal to the last is listed already.
use Prim.Native.Nat.{◌-◌, ◌≤◌}
use mathlib.Core.Path.{◌≡◌}
use lib.ListN.{length}
use Rattle.twins.specs.Halves.{Halves}
use Rattle.twins.proofs.halves.halves.Given as goal

abbrev pub invariant-loop-m : goal.invariant-loop-m
invariant-loop-m l = (l.m ≤ l.n) × (Halves l.n l.first.numbers.now l.second.numbers.now l.c l.v l.u l.m l.k l.initial.list l.at l.list) × (length l.list ≡ length l.initial.list)

abbrev pub decreases-loop-m : goal.decreases-loop-m
decreases-loop-m l = l.n - l.m
