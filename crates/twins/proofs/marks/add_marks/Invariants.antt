-- The invariant: bit l of byte q says whether one of the first e edges joins the pair at q by label l; past n·n all is as before.
use Prim.Native.Nat.{ℕ, ◌*◌, ◌/◌, ◌%◌, ◌<◌}
use mathlib.Core.Path.{◌≡◌}
use lib.ListN.{get_or, drop}
use Rattle.rules.specs.Finite.{any_below}
use Rattle.rules.specs.Graph.{edge_is}
use Rattle.twins.specs.Marks.{bit_at}
use Rattle.twins.proofs.marks.add_marks.Given as goal

abbrev pub invariant-loop-e : goal.invariant-loop-e
invariant-loop-e live = record {
  rest : drop (live.n * live.n) live.area ≡ drop (live.n * live.n) live.initial.area;
  bits : (q l : ℕ) → q < live.n * live.n → l < 8 → bit_at l (get_or live.area q 0) ≡ any_below live.e (λ k. edge_is live.edges k (q / live.n) (q % live.n) l);
}
