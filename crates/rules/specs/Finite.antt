-- Tests, counts and lists over the numbers below a bound. Each recurses on the bound, so that a loop that counts up meets one more clause a turn.
use Rattle.std.specs.Prelude.{ℕ, zero, suc, ◌+◌, List, [], ◌∷◌, ◌++◌, Bool, true, false, ◌&&◌, ◌||◌, cond}

-- some number below the bound passes
unfoldable pub any_below : ℕ → (ℕ → Bool) → Bool
any_below zero f = false
any_below (suc n) f = any_below n f || f n

-- every number below the bound passes
unfoldable pub all_below : ℕ → (ℕ → Bool) → Bool
all_below zero f = true
all_below (suc n) f = all_below n f && f n

-- how many numbers below the bound pass
unfoldable pub count_below : ℕ → (ℕ → Bool) → ℕ
count_below zero f = zero
count_below (suc n) f = count_below n f + cond (f n) 1 0

-- the numbers below the bound that pass, ascending
unfoldable pub list_below : ℕ → (ℕ → Bool) → List ℕ
list_below zero f = []
list_below (suc n) f = list_below n f ++ cond (f n) (n ∷ []) []

-- the list of f 0, f 1, .. for the numbers below the bound
unfoldable pub table_below : ℕ → (ℕ → ℕ) → List ℕ
table_below zero f = []
table_below (suc n) f = table_below n f ++ (f n ∷ [])

-- the first number below the bound that passes, or the bound
unfoldable pub first_below : ℕ → (ℕ → Bool) → ℕ
first_below zero f = zero
first_below (suc n) f = let r = first_below n f in cond (any_below n f) r (cond (f n) n (suc n))
