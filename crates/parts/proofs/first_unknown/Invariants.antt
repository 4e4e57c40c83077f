-- The invariant: the first i symbols are known. An unknown one at i, 0 or above 16, is then the first.
use Rattle.std.proofs.Common.{◌≡◌, false}
use Rattle.rules.specs.Finite.{any_below}
use Rattle.parts.specs.Parts.{is_unknown}
use Rattle.parts.proofs.first_unknown.Given as goal

abbrev pub invariant-loop-i : goal.invariant-loop-i
invariant-loop-i l = any_below l.i (is_unknown l.symbols) ≡ false
