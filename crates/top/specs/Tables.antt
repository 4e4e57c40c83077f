-- The levels that stand in a list, and what writing or comparing the lists of a table asks.
use Rattle.std.specs.Prelude.{ℕ, ◌*◌, ◌≤◌, ◌<◌, ◌≡◌, List, length}
use Rattle.sorting.specs.Sort.{Contiguous}
use Rattle.relations.specs.Relations.{EdgesIn}

-- k levels of n items stand among the levels
pub record Standing (n k : ℕ) (levels : List ℕ) : Type 0 where
  pub few_items : n ≤ 128
  pub some_level : 0 < k
  pub few_levels : k ≤ 4
  pub room : k * (n * n) ≤ length levels

-- the lists of a table of n items can be compared with stored ones
pub record ListsStored (n labels k : ℕ) (edges t area : List ℕ) : Type 0 where
  pub few_items : n ≤ 128
  pub few_labels : labels ≤ 8
  pub few_levels : k ≤ 4
  pub square : length t ≡ n * n
  pub numbered : Contiguous t
  pub inside : EdgesIn edges n
  pub area_room : 9 * (n * n) ≤ length area
