-- No number and no list notes a fault.
use Rattle.std.proofs.Common.{◌≡◌}
use Rattle.cases.specs.Noting.{is_sound}
use Rattle.cases.proofs.reading.next_case.Given as goal

abbrev pub invariant-loop-number : goal.invariant-loop-number
invariant-loop-number g l =
    (goal.iterator-loop-number g).can_next l.number-iterator ×
    (goal.iterator-loop-number g).is_finite l.number-iterator ×
    (is_sound l.input ≡ is_sound l.fn.input)

abbrev pub invariant-loop-list : goal.invariant-loop-list
invariant-loop-list g l = is_sound l.input ≡ is_sound l.fn.input
