-- The midpoints of a pair as a list of numbers, each made of a split and the numbers of the two halves.
use Rattle.std.specs.Prelude.{ℕ, ◌+◌, ◌*◌, ◌≤◌, ◌<◌, ◌≡◌, List, Bool, eqb, length, get_or}
use Rattle.rules.specs.Finite.{any_below}
use Rattle.rules.specs.Rule.{rule}
use Rattle.rules.specs.Levels.{number_at, level_of}
use Rattle.twins.specs.Skips.{Skips}

-- a split and two numbers in one; they can be told from it while the first number is below 2^15 and the second below 2^32
abbrev pub midpoint_of : ℕ → ℕ → ℕ → ℕ
midpoint_of c a b = (c * 32768 + a) * 4294967296 + b

-- x is the number of a midpoint of (v,u) in split c, among the first m items
pub record Half (n : ℕ) (s t : List ℕ) (c v u m x : ℕ) : Type 0 where
  pub item : ℕ
  pub below : item < m
  pub first : 0 < number_at n s v item
  pub second : 0 < number_at n t item u
  pub is : x ≡ midpoint_of c (number_at n s v item) (number_at n t item u)

-- x stands among the first k of the list
pub record Listed (k : ℕ) (list : List ℕ) (x : ℕ) : Type 0 where
  pub place : ℕ
  pub below : place < k
  pub is : get_or list place 0 ≡ x

-- the midpoints of split c can be looked for: the numbers of the level of the first halves are small, and the area tells which items it
-- does not connect
pub record Searchable (n : ℕ) (s area : List ℕ) (c : ℕ) : Type 0 where
  pub few : c < 3
  pub small : (w y : ℕ) → number_at n s w y < 32768
  pub skips : Skips n s area

-- behind the first k of a list stand, up to place at, midpoints of (v,u) in split c among the first m items; those that are missing stand before
pub record Halves (n : ℕ) (s t : List ℕ) (c v u m k : ℕ) (before : List ℕ) (at : ℕ) (list : List ℕ) : Type 0 where
  pub up : k ≤ at
  pub few : at ≤ k + m
  pub room : k + n ≤ length list
  pub kept : (j : ℕ) → j < k → get_or list j 0 ≡ get_or before j 0
  pub sound : (j : ℕ) → k ≤ j → j < at → Half n s t c v u m (get_or list j 0)
  pub complete : (w : ℕ) → w < m → 0 < number_at n s v w → 0 < number_at n t w u → Listed at list (midpoint_of c (number_at n s v w) (number_at n t w u))

-- x is the number of a midpoint of (v,u) in one of the first c splits of level i
pub record Midpoint (n i : ℕ) (levels : List ℕ) (v u c x : ℕ) : Type 0 where
  pub split : ℕ
  pub before : split < c
  pub half : Half n (level_of n levels (rule.first i split)) (level_of n levels (rule.second i split)) split v u n x

-- the first k of the list are the midpoints of (v,u) in the first c splits of level i
pub record Listing (n i : ℕ) (levels : List ℕ) (v u c k : ℕ) (list : List ℕ) : Type 0 where
  pub few : k ≤ c * 128
  pub sound : (j : ℕ) → j < k → Midpoint n i levels v u c (get_or list j 0)
  pub complete : (d w : ℕ) → d < c → w < n → 0 < number_at n (level_of n levels (rule.first i d)) v w → 0 < number_at n (level_of n levels (rule.second i d)) w u
      → Listed k list (midpoint_of d (number_at n (level_of n levels (rule.first i d)) v w) (number_at n (level_of n levels (rule.second i d)) w u))

-- the first k of the list are the midpoints of (v,u) in every split of level i; the numbers of the levels below are small enough to be
-- told from theirs
pub record Midpoints (n i : ℕ) (levels : List ℕ) (v u k : ℕ) (list : List ℕ) : Type 0 where
  pub few : k ≤ length list
  pub short : k ≤ 384
  pub small : (j : ℕ) → 0 < j → j < i → (w y : ℕ) → number_at n (level_of n levels j) w y < 32768
  pub listing : Listing n i levels v u (rule.many i) k list

-- place w of the other list has what place m of the list has
unfoldable pub is_same : List ℕ → List ℕ → ℕ → ℕ → Bool
is_same list other m w = eqb (get_or other w 0) (get_or list m 0)

-- what stands at place m of the list stands among the first j of the other
unfoldable pub has_same : List ℕ → List ℕ → ℕ → ℕ → Bool
has_same list other j m = any_below j (is_same list other m)
