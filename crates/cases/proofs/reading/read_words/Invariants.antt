-- A run has a number at least, so that what is left of the list falls; and no word notes a fault.
use Rattle.std.proofs.Common.{length, ◌-◌, ◌≡◌}
use Rattle.cases.specs.Noting.{is_sound}
use Rattle.cases.proofs.reading.read_words.Given as goal

abbrev pub invariant-loop-at : goal.invariant-loop-at
invariant-loop-at g l = (length l.numbers ≡ length l.initial.numbers) × (is_sound l.input ≡ is_sound l.fn.input)

abbrev pub decreases-loop-at : goal.decreases-loop-at
decreases-loop-at g l = length l.initial.numbers - l.at
