-- What numbering a level asks and leaves, and what its check leaves.
use Rattle.std.specs.Prelude.{ℕ, ◌+◌, ◌*◌, ◌≤◌, ◌<◌, ◌≡◌, List, Option, Some, None, length, take, drop}
use Rattle.rules.specs.Rule.{rule}
use Rattle.rules.specs.Levels.{next_number, level_of, max_of, numbering}
use Rattle.rules.specs.Accept.{first_fault}
use Rattle.twins.specs.Marks.{marked_graph}
use Rattle.twins.specs.Chains.{Chains, bucket_of}
use Rattle.twins.specs.Standing.{base, is_in, alike, Kept, Placed}

-- the first p numbers of level i stand, and top is the largest
pub record Begun (n i : ℕ) (levels area : List ℕ) (p top : ℕ) : Type 0 where
  pub numbers : take p (drop (base n i) levels) ≡ numbering (is_in n i area) (alike n i levels area) p
  pub largest : top ≡ max_of (take p (drop (base n i) levels))
  pub small : top ≤ p

-- level i is numbered: its numbers stand in their place
pub record Numbered (n i : ℕ) (levels area : List ℕ) (r : ℕ) (levels' area' : List ℕ) : Type 0 where
  pub placed : Placed n i levels area r levels'
  pub kept : Kept n area area'

-- the first faulty position of level i, or none
pub record Fault (n i : ℕ) (levels area : List ℕ) (r : Option ℕ) : Type 0 where
  pub found : (p : ℕ) → r ≡ Some p → (p < n * n) × (p ≡ first_fault rule (marked_graph n area) i (level_of n levels))
  pub none : r ≡ None → n * n ≡ first_fault rule (marked_graph n area) i (level_of n levels)

-- level i is checked: its first faulty position, or none
pub record Faulty (n i : ℕ) (levels area : List ℕ) (r : Option ℕ) (area' : List ℕ) : Type 0 where
  pub fault : Fault n i levels area r
  pub kept : Kept n area area'

-- of the area the marks, the bytes of connected pairs, and what lies past the first 6·n² bytes are as they were
pub record Steady (n : ℕ) (area area' : List ℕ) : Type 0 where
  pub front : take (2 * (n * n)) area' ≡ take (2 * (n * n)) area
  pub rest : drop (6 * (n * n)) area' ≡ drop (6 * (n * n)) area
  pub size : length area' ≡ length area

-- the number of position p, and the chains with p in them
pub record Taken (n i : ℕ) (levels area : List ℕ) (p r : ℕ) (area' : List ℕ) : Type 0 where
  pub number : r ≡ next_number (is_in n i area) (alike n i levels area) (take p (drop (base n i) levels)) p
  pub chains : Chains (is_in n i area) (alike n i levels area) (bucket_of n i levels area) n area' (p + 1)
  pub steady : Steady n area area'

-- the numbers of level i in their place
pub record Positioned (n i : ℕ) (levels area : List ℕ) (r : ℕ) (levels' area' : List ℕ) : Type 0 where
  pub placed : Placed n i levels area r levels'
  pub steady : Steady n area area'

-- the positions of level i are checked: the first faulty one, or none
pub record Passed (n i : ℕ) (levels area : List ℕ) (r : Option ℕ) (area' : List ℕ) : Type 0 where
  pub fault : Fault n i levels area r
  pub steady : Steady n area area'
