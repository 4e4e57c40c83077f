-- The invariant: the first u numbers tell which items are within one step of v, the rest are as before.
use mathlib.Core.Path.{◌≡◌}
use Rattle.rules.specs.Writing.{fill}
use Rattle.rules.specs.Graph.{connected}
use Rattle.twins.specs.Marks.{marked_graph, one_if}
use Rattle.twins.proofs.near.first_row.Given as goal

abbrev pub invariant-loop-u : goal.invariant-loop-u
invariant-loop-u l = l.row ≡ fill l.initial.row 0 l.u (λ x. one_if (connected (marked_graph l.steps.n l.steps.area.now) 1 l.v x))
