-- What callers show, as records with named parts, and what the functions of levels leave.
use Rattle.rules.specs.declared.Refusal.{Refusal}
use Rattle.std.specs.Prelude.{Result, ℕ, ◌*◌, ◌≤◌, ◌≡◌, List, length, drop}
use Rattle.rules.specs.Graph.{graph_of}
use Rattle.rules.specs.Rule.{rule}
use Rattle.rules.specs.Levels.{built_level, built_levels, level_of, max_of}
use Rattle.rules.specs.Accept.{levels_right}
use Rattle.rules.specs.Outcomes.{front, told}
use Rattle.twins.specs.Marks.{marked_graph}
use Rattle.twins.specs.Standing.{EdgesFit, Kept}

-- there is room for k levels of n items, and for the work
pub record Room (n k : ℕ) (levels area : List ℕ) : Type 0 where
  pub few : n ≤ 128
  pub short : k ≤ 4
  pub levels_room : k * (n * n) ≤ length levels
  pub area_room : 9 * (n * n) ≤ length area

-- levels 1 to k are numbered over the marks
pub record Stacked (n k : ℕ) (levels area : List ℕ) (r : ℕ) (levels' area' : List ℕ) : Type 0 where
  pub count : r ≡ max_of (built_level rule (marked_graph n area) k)
  pub written : levels' ≡ front (built_levels rule (marked_graph n area) k) levels
  pub kept : Kept n area area'

-- levels 1 to k are checked over the marks
pub record Judged (n k : ℕ) (levels area : List ℕ) (r : Result Unit Refusal) (area' : List ℕ) : Type 0 where
  pub verdict : r ≡ told (levels_right rule (marked_graph n area) k (level_of n levels))
  pub kept : Kept n area area'

-- past its first 9·n² bytes the area is as it was
pub record Past (n : ℕ) (area area' : List ℕ) : Type 0 where
  pub rest : drop (9 * (n * n)) area' ≡ drop (9 * (n * n)) area
  pub size : length area' ≡ length area

-- build_levels: the levels of the edge table stand at the front, and the answer is how many classes level k has
pub record LevelsBuilt (n k : ℕ) (edges levels area : List ℕ) (r : ℕ) (levels' area' : List ℕ) : Type 0 where
  pub count : (labels : ℕ) → labels ≤ 8 → EdgesFit n labels edges → r ≡ max_of (built_level rule (graph_of n labels edges) k)
  pub written : (labels : ℕ) → labels ≤ 8 → EdgesFit n labels edges → levels' ≡ front (built_levels rule (graph_of n labels edges) k) levels
  pub past : Past n area area'

-- check_levels: 15 with the first faulty level and position, or none
pub record LevelsChecked (n k : ℕ) (edges levels area : List ℕ) (r : Result Unit Refusal) (area' : List ℕ) : Type 0 where
  pub verdict : (labels : ℕ) → labels ≤ 8 → EdgesFit n labels edges → r ≡ told (levels_right rule (graph_of n labels edges) k (level_of n levels))
  pub past : Past n area area'
