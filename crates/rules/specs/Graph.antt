-- The edge table, the steps that it gives, and which items are connected within i.
use Rattle.std.specs.Prelude.{ℕ, zero, suc, ◌+◌, ◌*◌, ◌/◌, ◌%◌, List, Bool, false, ◌&&◌, ◌||◌, cond, eqb, length, get_or}
use Rattle.rules.specs.Finite.{any_below}

-- items 0..V-1, labels 0..L-1, and whether some edge goes from v to u along label l
pub record Graph : Type 0 where
  pub items : ℕ
  pub labels : ℕ
  pub edge : ℕ → ℕ → ℕ → Bool

-- edge e of the table goes from v to u along label l: source, target, label
unfoldable pub edge_is : List ℕ → ℕ → ℕ → ℕ → ℕ → Bool
edge_is edges e v u l = eqb (get_or edges (3 * e) 0) v && eqb (get_or edges (3 * e + 1) 0) u && eqb (get_or edges (3 * e + 2) 0) l

-- some edge of the table goes from v to u along label l
unfoldable pub has_edge : List ℕ → ℕ → ℕ → ℕ → Bool
has_edge edges v u l = any_below (length edges / 3) (λ e. edge_is edges e v u l)

-- the graph that an edge table gives
unfoldable pub graph_of : ℕ → ℕ → List ℕ → Graph
graph_of items labels edges = record { items = items; labels = labels; edge = has_edge edges }

-- a step of symbol s leads from v to u: label l forward is 2l+1, backward 2l+2, and 0 is no symbol
unfoldable pub leads : Graph → ℕ → ℕ → ℕ → Bool
leads g zero v u = false
leads g (suc s) v u = cond (eqb (s % 2) 0) (g.edge v u (s / 2)) (g.edge u v (s / 2))

-- some step leads from v to u
unfoldable pub adjacent : Graph → ℕ → ℕ → Bool
adjacent g v u = any_below (2 * g.labels) (λ s. leads g (suc s) v u)

-- at most i steps, forward or backward, lead from v to u; no step at all connects an item with itself
unfoldable pub connected : Graph → ℕ → ℕ → ℕ → Bool
connected g zero v u = eqb v u
connected g (suc i) v u = connected g i v u || any_below g.items (λ m. connected g i v m && adjacent g m u)
