-- Rows of numbers, one for each item: not 0 where the item is connected.
use Rattle.std.specs.Prelude.{ℕ, ◌≤◌, ◌<◌, ◌≡◌, List, Bool, not, ◌&&◌, eqb, length, get_or}
use Rattle.rules.specs.Finite.{any_below}
use Rattle.rules.specs.Graph.{connected}
use Rattle.rules.specs.Levels.{number_at}
use Rattle.twins.specs.Marks.{marked_graph}

-- m is a midpoint of (v,u): the table s connects v with m, and the table t connects m with u
unfoldable pub is_mid : ℕ → List ℕ → List ℕ → ℕ → ℕ → ℕ → Bool
is_mid n s t v u m = not (eqb (number_at n s v m) 0) && not (eqb (number_at n t m u) 0)

-- a row of n zeros
pub record Empty (n : ℕ) (row : List ℕ) : Type 0 where
  pub room : n ≤ length row
  pub zero_at : (u : ℕ) → u < n → get_or row u 0 ≡ 0

-- the row tells which items have a midpoint with v among the first k
pub record Reached (n : ℕ) (s t : List ℕ) (v k : ℕ) (row : List ℕ) : Type 0 where
  pub room : n ≤ length row
  pub told : (u : ℕ) → u < n → not (eqb (get_or row u 0) 0) ≡ any_below k (is_mid n s t v u)

-- the row tells which items are connected with v within i
pub record RowOf (n i : ℕ) (area : List ℕ) (v : ℕ) (row : List ℕ) : Type 0 where
  pub room : n ≤ length row
  pub told : (u : ℕ) → u < n → not (eqb (get_or row u 0) 0) ≡ connected (marked_graph n area) i v u
