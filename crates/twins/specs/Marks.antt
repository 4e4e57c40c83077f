-- Step marks: a byte for each pair of n items at the front of the area, with bit l set where an edge of label l goes from its first item to its second.
use Rattle.std.specs.Prelude.{ℕ, ◌*◌, ◌+◌, ◌/◌, ◌%◌, ◌<◌, ◌≡◌, List, Bool, cond, get_or, take}
use Rattle.rules.specs.Graph.{Graph, has_edge}
unfoldable pub use Rattle.rules.specs.Bits.{bit_at}

-- the marks say that an edge of label l goes from v to u
unfoldable pub marked_edge : ℕ → List ℕ → ℕ → ℕ → ℕ → Bool
marked_edge n area v u l = bit_at l (get_or (take (n * n) area) (v * n + u) 0)

-- the graph that the marks give: the rules of levels are applied to it, and a law leads back to the edge table
abbrev pub marked_graph : ℕ → List ℕ → Graph
marked_graph n area = record { items = n; labels = 8; edge = marked_edge n area }

-- the marks are those of the edge table
pub record Marked (n : ℕ) (edges area : List ℕ) : Type 0 where
  pub bit_at_lem : (q l : ℕ) → q < n * n → l < 8 → bit_at l (get_or area q 0) ≡ has_edge edges (q / n) (q % n) l

-- the byte of a test
unfoldable pub one_if : Bool → ℕ
one_if b = cond b 1 0
