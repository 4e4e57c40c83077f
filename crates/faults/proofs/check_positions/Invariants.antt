-- The invariant: no fault before p, top is the largest number before p, and the first position of each number up to top is kept.
use Prim.Native.Nat.{ℕ, ◌≤◌, ◌<◌}
use mathlib.Core.Path.{◌≡◌}
use mathlib.Core.Bool.{false}
use lib.ListN.{get_or, take}
use Rattle.rules.specs.Finite.{any_below}
use Rattle.rules.specs.Rule.{rule}
use Rattle.rules.specs.Levels.{level_of, max_of}
use Rattle.twins.specs.Marks.{marked_graph}
use Rattle.numbering.specs.Needs.{Steady}
use Rattle.faults.specs.Needs.{Firsts}
use Rattle.twins.specs.Held.{Held}
use Rattle.faults.proofs.Laws.Right.{is_fault}
use Rattle.faults.proofs.check_positions.Given as goal

abbrev pub invariant-loop-p : goal.invariant-loop-p
invariant-loop-p l = record {
  bytes : (q : ℕ) → get_or l.area q 0 < 256;
  small : l.top ≤ l.p;
  largest : l.top ≡ max_of (take l.p (level_of l.n l.levels l.i));
  right : any_below l.p (is_fault rule (marked_graph l.n l.initial.area) l.i (level_of l.n l.levels)) ≡ false;
  firsts : Firsts l.n l.i l.levels l.area l.top;
  steady : Steady l.n l.initial.area l.area;
  mine : Held l.n l.i l.levels l.mine;
  other : Held l.n l.i l.levels l.other;
}
