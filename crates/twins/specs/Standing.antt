-- What stands in the lent lists before the work on a level, and what is kept.
use Rattle.std.specs.Prelude.{ℕ, ◌+◌, ◌*◌, ◌/◌, ◌-◌, ◌≤◌, ◌<◌, ◌≡◌, List, Bool, length, get_or, take, drop}
use Rattle.rules.specs.Rule.{rule}
use Rattle.rules.specs.Levels.{connected_at, agree_at, level_of, max_of, level_over}
use Rattle.rules.specs.Accept.{LevelsAccepted}
use Rattle.rules.specs.Writing.{put}
use Rattle.twins.specs.Marks.{marked_graph, one_if}

-- a pair of items
pub record Pair (n v u : ℕ) : Type 0 where
  pub first : v < n
  pub second : u < n

-- the marks of n items stand at the front of the area
pub record Marks (n : ℕ) (area : List ℕ) : Type 0 where
  pub room : n * n ≤ length area

-- levels 1 to i of n items stand among the levels
pub record Stands (n : ℕ) (levels : List ℕ) (i : ℕ) : Type 0 where
  pub some : 0 < i
  pub room : i * (n * n) ≤ length levels

-- every edge joins two of n items along one of so many labels
pub record EdgesFit (n labels : ℕ) (edges : List ℕ) : Type 0 where
  pub source : (e : ℕ) → e < length edges / 3 → get_or edges (3 * e) 0 < n
  pub target : (e : ℕ) → e < length edges / 3 → get_or edges (3 * e + 1) 0 < n
  pub label : (e : ℕ) → e < length edges / 3 → get_or edges (3 * e + 2) 0 < labels

-- level i can be numbered or checked: there is room, and the levels below are right
pub record Ready (n i : ℕ) (levels area : List ℕ) : Type 0 where
  pub few : n ≤ 128
  pub some : 0 < i
  pub short : i ≤ 4
  pub room : i * (n * n) ≤ length levels
  pub area_room : 9 * (n * n) ≤ length area
  pub below : LevelsAccepted rule (marked_graph n area) (i - 1) (level_of n levels)

-- where level i begins among the levels
abbrev pub base : ℕ → ℕ → ℕ
base n i = (i - 1) * (n * n)

-- the positions that level i numbers, and which of them are alike
abbrev pub is_in : ℕ → ℕ → List ℕ → ℕ → Bool
is_in n i area = connected_at (marked_graph n area) i

abbrev pub alike : ℕ → ℕ → List ℕ → List ℕ → ℕ → ℕ → Bool
alike n i levels area = agree_at rule (marked_graph n area) i (level_of n levels)

-- the byte that says whether the pair at p is connected within i
abbrev pub near_byte : ℕ → ℕ → List ℕ → ℕ → ℕ
near_byte n i area p = one_if (connected_at (marked_graph n area) i p)

-- these bytes stand behind the marks
pub record Near (n i : ℕ) (area : List ℕ) : Type 0 where
  pub byte_at : (p : ℕ) → p < n * n → get_or area (n * n + p) 0 ≡ near_byte n i area p

-- of the area the marks and what lies past the first 9·n² bytes are as they were
pub record Kept (n : ℕ) (area area' : List ℕ) : Type 0 where
  pub marks : take (n * n) area' ≡ take (n * n) area
  pub rest : drop (9 * (n * n)) area' ≡ drop (9 * (n * n)) area
  pub size : length area' ≡ length area

-- level i is numbered: the count of its classes, and the levels with its numbers in their place
pub record Placed (n i : ℕ) (levels area : List ℕ) (r : ℕ) (levels' : List ℕ) : Type 0 where
  pub count : r ≡ max_of (level_over rule (marked_graph n area) i levels)
  pub written : levels' ≡ put levels (base n i) (level_over rule (marked_graph n area) i levels)

-- there is room for the marks, and none is set yet
pub record Cleared (n : ℕ) (area : List ℕ) : Type 0 where
  pub room : n * n ≤ length area
  pub zero_at : (q : ℕ) → q < n * n → get_or area q 0 ≡ 0
