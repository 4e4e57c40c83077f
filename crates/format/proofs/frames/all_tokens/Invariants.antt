-- The first i are tokens.
use Rattle.std.proofs.Common.{◌≡◌, true}
use Rattle.rules.specs.Finite.{all_below}
use Rattle.format.specs.Frames.{is_token}
use Rattle.format.proofs.frames.all_tokens.Given as goal

abbrev pub invariant-loop-i : goal.invariant-loop-i
invariant-loop-i l = all_below l.i (is_token l.line) ≡ true
