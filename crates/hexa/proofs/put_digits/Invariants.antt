-- The digits that are left, stored over what stands there now, give the whole result.
use mathlib.Core.Path.{◌≡◌}
use lib.ListN.{length}
use lib.Seq.{sets}
use Rattle.hexa.specs.Digits.{spelling}
use Rattle.hexa.proofs.put_digits.Given as goal

abbrev pub invariant-loop-i : goal.invariant-loop-i
invariant-loop-i l = (length l.out ≡ length l.initial.out) × (sets l.out l.at (spelling l.i l.left) ≡ sets l.initial.out l.at (spelling l.d l.x))
