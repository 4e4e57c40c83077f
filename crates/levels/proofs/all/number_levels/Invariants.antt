-- The invariant: the built levels 1 to i stand at the front, top is the largest number of level i, and the marks are kept.
use mathlib.Core.Path.{◌≡◌}
use Rattle.rules.specs.Rule.{rule}
use Rattle.rules.specs.Levels.{max_of, built_level, built_levels}
use Rattle.rules.specs.Outcomes.{front}
use Rattle.twins.specs.Marks.{marked_graph}
use Rattle.twins.specs.Standing.{Kept}
use Rattle.levels.proofs.all.number_levels.Given as goal

abbrev pub invariant-loop-i : goal.invariant-loop-i
invariant-loop-i l = record {
  written : l.levels ≡ front (built_levels rule (marked_graph l.n l.initial.area) l.i) l.initial.levels;
  count : l.top ≡ max_of (built_level rule (marked_graph l.n l.initial.area) l.i);
  kept : Kept l.n l.initial.area l.area;
}
