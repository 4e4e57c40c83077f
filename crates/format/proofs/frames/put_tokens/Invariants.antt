-- The first i tokens of the line stand at the front, the rest of the list is as before.
use Rattle.std.proofs.Common.{◌≡◌, length}
use Rattle.rules.specs.Writing.{fill}
use Rattle.format.specs.Frames.{token_at}
use Rattle.format.proofs.frames.put_tokens.Given as goal

abbrev pub invariant-loop-i : goal.invariant-loop-i
invariant-loop-i l = (l.tokens ≡ fill l.initial.tokens 0 l.i (token_at l.line)) × (length l.tokens ≡ length l.initial.tokens)
