-- The invariant: the first v rows behind the marks are written. All n rows are one fill of n·n bytes (`fill_rows`).
use Prim.Native.Nat.{◌+◌, ◌*◌}
use mathlib.Core.Path.{◌≡◌}
use Rattle.rules.specs.Writing.{rows}
use Rattle.twins.specs.Standing.{near_byte}
use Rattle.twins.proofs.near.mark_near.Given as goal

abbrev pub invariant-loop-v : goal.invariant-loop-v
invariant-loop-v l = l.area ≡ rows l.initial.area (l.n * l.n) l.n l.v (λ x u. near_byte l.n l.i l.initial.area (x * l.n + u))
