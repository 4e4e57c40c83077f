-- A run has a number at least, so that what is left of the list falls.
use Rattle.std.proofs.Common.{length, ◌-◌, ◌≡◌}
use Rattle.cases.proofs.reading_on.read_words.Given as goal

abbrev pub invariant-loop-at : goal.invariant-loop-at
invariant-loop-at g l = length l.numbers ≡ length l.initial.numbers

abbrev pub decreases-loop-at : goal.decreases-loop-at
decreases-loop-at g l = length l.initial.numbers - l.at
