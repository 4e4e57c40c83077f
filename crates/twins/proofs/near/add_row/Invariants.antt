-- The invariant: the first u numbers are the or of the row as it was and of row m of level 1, the rest as before.
use mathlib.Core.Path.{◌≡◌}
use Rattle.rules.specs.Writing.{fill}
use lib.Bits.{bit_or}
use lib.ListN.{get_or}
use Rattle.rules.specs.Levels.{number_at}
use Rattle.twins.proofs.near.add_row.Given as goal

abbrev pub invariant-loop-u : goal.invariant-loop-u
invariant-loop-u l = l.row ≡ fill l.initial.row 0 l.u (λ x. bit_or (get_or l.initial.row x 0) (number_at l.first.n l.first.numbers.now l.m x))
