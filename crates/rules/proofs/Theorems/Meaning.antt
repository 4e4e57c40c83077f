-- Demand 2 for answers: an answer list is exactly the positions of the pairs that meet the query as published, each once, ascending.
use Prim.Native.Nat.{ℕ, ◌*◌, ◌/◌, ◌%◌, ◌<◌}
use mathlib.Core.Path.{◌≡◌}
use mathlib.Core.Logic.{◌↔◌}
use mathlib.Core.List.{Memᴰ}
use mathlib.Core.Bool.{true}
use lib.ListN.{length, get_or}
use Rattle.rules.specs.Graph.{Graph, connected}
use Rattle.rules.specs.Query.{Query, meets, meets_by, answer_of, answer_by}
use Rattle.rules.specs.Published.{Meets, Walk}
use Rattle.rules.proofs.Laws.Query.{meets_find, meets_here}
use Rattle.rules.proofs.Laws.Graph.{conn_iff}
use Rattle.rules.proofs.Laws.Listing.{list_find, list_here, list_ascending}

module _ (g : Graph) (q : Query) where
  -- the test of a query is its published meaning
  pub meets_published : (v u : ℕ) → (meets g q v u ≡ true) ↔ Meets g q v u
  meets_published v u = (meets_find g q v u, meets_here g q v u)

  -- a position is in the answer exactly if its pair meets the query
  pub answer_exact : (p : ℕ) → Memᴰ p (answer_of g q) ↔ ((p < g.items * g.items) × Meets g q (p / g.items) (p % g.items))
  unfolding answer_of answer_by meets
  answer_exact p = (
    λ m. let r = list_find (λ p. meets g q (p / g.items) (p % g.items)) (g.items * g.items) p m in
        (r.0, meets_find g q (p / g.items) (p % g.items) r.1),
    λ r. list_here (λ p. meets g q (p / g.items) (p % g.items)) (g.items * g.items) p r.0 (meets_here g q (p / g.items) (p % g.items) r.1),
  )

  -- each once, ascending
  pub answer_ascends : (i j : ℕ) → i < j → j < length (answer_of g q) → get_or (answer_of g q) i 0 < get_or (answer_of g q) j 0
  unfolding answer_of answer_by
  answer_ascends i j l h = list_ascending (λ p. meets_by g.items (Rattle.rules.specs.Graph.leads g) q (p / g.items) (p % g.items)) (g.items * g.items) i j l h

-- connected within i is to be joined by a walk of at most i steps, forward or backward
pub connected_walk : (g : Graph) (i v u : ℕ) → (connected g i v u ≡ true) ↔ Walk g v i u
connected_walk g i v u = conn_iff g i v u
