-- The invariant: levels 1 to i are right and the marks are kept; the first faulty level ends the check with its first position.
use mathlib.Core.Path.{◌≡◌}
use Rattle.rules.specs.Rule.{rule}
use Rattle.rules.specs.Levels.{level_of}
use Rattle.rules.specs.Accept.{levels_right}
use Rattle.rules.specs.Verdict.{good}
use Rattle.twins.specs.Marks.{marked_graph}
use Rattle.twins.specs.Standing.{Kept}
use Rattle.levels.proofs.all.judge_levels.Given as goal

abbrev pub invariant-loop-i : goal.invariant-loop-i
invariant-loop-i l = record {
  right : levels_right rule (marked_graph l.n l.initial.area) l.i (level_of l.n l.levels) ≡ good;
  kept : Kept l.n l.initial.area l.area;
}
