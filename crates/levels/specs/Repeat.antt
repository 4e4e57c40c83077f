-- Levels that repeat: where condition C looks at the level directly below only, a level is a function of it.
use Rattle.std.specs.Prelude.{ℕ, ◌-◌, ◌<◌, ◌≡◌, List}
use Rattle.rules.specs.Rule.{rule}
use Rattle.rules.specs.Levels.{level_of, level_over, max_of}
use Rattle.twins.specs.Marks.{marked_graph}

-- level i looks at the level directly below only
pub record LooksBelow (i : ℕ) : Type 0 where
  pub first : (c : ℕ) → c < rule.many i → rule.first i c ≡ i - 1
  pub second : (c : ℕ) → c < rule.many i → rule.second i c ≡ i - 1

-- level i and the level below it do so, in equally many splits
pub record LooksAlike (i : ℕ) : Type 0 where
  pub upper : LooksBelow i
  pub lower : LooksBelow (i - 1)
  pub many : rule.many i ≡ rule.many (i - 1)

-- there are two levels below level i, and they are the same; level i looks at the one as that at the other
pub record Repeats (n i : ℕ) (levels : List ℕ) : Type 0 where
  pub deep : 2 < i
  pub looks : LooksAlike i
  pub same : level_of n levels (i - 1) ≡ level_of n levels (i - 1 - 1)

-- the level below level i is numbered over those below it, and top is its largest number
pub record Topped (n i : ℕ) (levels area : List ℕ) (top : ℕ) : Type 0 where
  pub numbers : 1 < i → level_of n levels (i - 1) ≡ level_over rule (marked_graph n area) (i - 1) levels
  pub largest : top ≡ max_of (level_of n levels (i - 1))
