-- The invariant: the first p numbers of level i are the numbering, top is the largest, and the chains have one alike each connected pair before p.
use Prim.Native.Nat.{◌≤◌}
use mathlib.Core.Path.{◌≡◌}
use Rattle.rules.specs.Levels.{numbering, max_of}
use Rattle.rules.specs.Writing.{put}
use Rattle.twins.specs.Chains.{Chains, bucket_of}
use Rattle.twins.specs.Held.{Held}
use Rattle.twins.specs.Standing.{is_in, alike, base}
use Rattle.numbering.specs.Needs.{Steady}
use Rattle.numbering.proofs.number.number_positions.Given as goal

abbrev pub invariant-loop-p : goal.invariant-loop-p
invariant-loop-p l = record {
  small : l.top ≤ l.p;
  largest : l.top ≡ max_of (numbering (is_in l.n l.i l.initial.area) (alike l.n l.i l.initial.levels l.initial.area) l.p);
  written : l.levels ≡ put l.initial.levels (base l.n l.i) (numbering (is_in l.n l.i l.initial.area) (alike l.n l.i l.initial.levels l.initial.area) l.p);
  chains : Chains (is_in l.n l.i l.initial.area) (alike l.n l.i l.initial.levels l.initial.area) (bucket_of l.n l.i l.initial.levels l.initial.area) l.n l.area l.p;
  steady : Steady l.n l.initial.area l.area;
  other : Held l.n l.i l.initial.levels l.other;
}
