-- Parts of a list, and the symbols that lookup knows.
use Rattle.rules.specs.declared.Part.{Part}
use Rattle.rules.specs.declared.Refusal.{Refusal}
use Rattle.rules.specs.Outcomes.{span}
use Rattle.std.specs.Prelude.{Ok, Result, ℕ, ◌≤◌, ◌≡◌, List, Bool, ◌||◌, eqb, ltb, length, get_or}
use Rattle.rules.specs.Finite.{first_below}

-- if the bounds are those of a part, it lies in the list
pub record Inside (bounds : Result Part Refusal) (list : List ℕ) : Type 0 where
  pub within : (from to : ℕ) → bounds ≡ Ok (span from to) → (from ≤ to) × (to ≤ length list)

-- the symbol at place i is not 1 to 16
unfoldable pub is_unknown : List ℕ → ℕ → Bool
is_unknown symbols i = eqb (get_or symbols i 0) 0 || ltb 16 (get_or symbols i 0)

-- the first such place, or as many as there are
unfoldable pub first_unknown : List ℕ → ℕ
first_unknown symbols = first_below (length symbols) (is_unknown symbols)
