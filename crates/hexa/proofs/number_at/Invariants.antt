-- The i digits passed are the number x, below 16 ^ i, so that a turn cannot wrap.
use mathlib.Core.Path.{◌≡◌}
use Prim.Native.Nat.{◌<◌, ◌^◌}
use Rattle.std.specs.Prelude.{Some}
use Rattle.hexa.specs.Digits.{number_at}
use Rattle.hexa.proofs.number_at.Given as goal

abbrev pub invariant-loop-i : goal.invariant-loop-i
invariant-loop-i l = (number_at l.s l.at l.i ≡ Some l.x) × (l.x < 16 ^ l.i)
