-- What the check of a level asks and keeps.
use Rattle.std.specs.Prelude.{ℕ, suc, ◌+◌, ◌*◌, ◌≤◌, ◌<◌, max, ◌≡◌, List, take}
use Rattle.rules.specs.Levels.{first_of, level_of, max_of}
use Rattle.twins.specs.Chains.{word, set_word}

-- top is the largest of the first p numbers of level i, and not above p
pub record Seen (n i : ℕ) (levels : List ℕ) (p top : ℕ) : Type 0 where
  pub inside : p < n * n
  pub largest : top ≡ max_of (take p (level_of n levels i))
  pub small : top ≤ p

-- the first position of each number up to top stands in the area
pub record Firsts (n i : ℕ) (levels area : List ℕ) (top : ℕ) : Type 0 where
  pub first_at : (k : ℕ) → k < top → word area (2 * (n * n) + 2 * k) ≡ first_of (n * n) (level_of n levels i) (suc k)

-- the largest of top and c; where c is larger, p is stored for it
pub record Noted (n : ℕ) (area : List ℕ) (p c top r : ℕ) (area' : List ℕ) : Type 0 where
  pub largest : r ≡ max top c
  pub old : c ≤ top → area' ≡ area
  pub new : top < c → area' ≡ set_word area (2 * (n * n) + 2 * top) p
