-- The invariant: the first u bytes from `at` on are the signs of the row, the rest of the area is as before.
use mathlib.Core.Path.{◌≡◌}
use Rattle.rules.specs.Writing.{fill}
use mathlib.Core.Bool.{not}
use lib.Dec.{eqb}
use lib.ListN.{get_or}
use Rattle.twins.specs.Marks.{one_if}
use Rattle.twins.proofs.near.put_row.Given as goal

abbrev pub invariant-loop-u : goal.invariant-loop-u
invariant-loop-u l = l.area ≡ fill l.initial.area l.at l.u (λ x. one_if (not (eqb (get_or l.row x 0) 0)))
