-- A reader with no limits gives each query back from its tokens.
use Prim.Native.Nat.{ℕ, ◌≤◌}
use mathlib.Core.Path.{◌≡◌, refl, sym, ap, ◌∙◌}
use mathlib.Core.List.{List, [], ◌∷◌, ◌++◌, append-nil, append_assoc}
use mathlib.Core.Bool.{cond}
use native.Mathlib.Omega.{arith}
use borrow.Author.Tests.{ne_eqb}
use lib.Dec.{eqb}
use Rattle.rules.specs.Query.{Atom, identity, step, Query, atom, join, both}
use Rattle.rules.specs.Reading.{spell, tokens}
use Rattle.rules.specs.Published.{AtomFormed, WellFormed}

-- the last two that wait become one
pair : (Query → Query → Query) → List Query → List Query
pair f [] = []
pair f (q ∷ []) = []
pair f (q ∷ (p ∷ ws)) = f p q ∷ ws

-- what waits behind one token more
behind_one : ℕ → List Query → List Query
behind_one t ws = cond (eqb t 0) (atom identity ∷ ws) (cond (eqb t 32) (pair join ws) (cond (eqb t 33) (pair both ws) (atom (step t) ∷ ws)))

-- what waits behind a list of tokens
pub behind : List ℕ → List Query → List Query
behind [] ws = ws
behind (t ∷ ts) ws = behind ts (behind_one t ws)

module _ (l : ℕ) (few : l ≤ 8) where
  one_atom : (a : Atom) → AtomFormed l a → (ws : List Query) → behind_one (spell a) ws ≡ atom a ∷ ws
  unfolding spell AtomFormed behind_one
  one_atom identity w ws = refl
  one_atom (step s) w ws = let h = w.1 in rw (ne_eqb s 0 (λ e. omega (arith, w.0)), ne_eqb s 32 (λ e. omega arith), ne_eqb s 33 (λ e. omega arith))

  back : (q : Query) → WellFormed l q → (rest : List ℕ) (ws : List Query) → behind (tokens q ++ rest) ws ≡ behind rest (q ∷ ws)
  unfolding tokens WellFormed behind behind_one pair
  back (atom a) w rest ws = ap (behind rest) (one_atom a w ws)
  back (join p q) w rest ws =
      ap (λ (z : List ℕ). behind z ws) (append_assoc (tokens p) (tokens q ++ (32 ∷ [])) rest)
      ∙ back p w.0 ((tokens q ++ (32 ∷ [])) ++ rest) ws
      ∙ ap (λ (z : List ℕ). behind z (p ∷ ws)) (append_assoc (tokens q) (32 ∷ []) rest)
      ∙ back q w.1 (32 ∷ rest) (p ∷ ws)
  back (both p q) w rest ws =
      ap (λ (z : List ℕ). behind z ws) (append_assoc (tokens p) (tokens q ++ (33 ∷ [])) rest)
      ∙ back p w.0 ((tokens q ++ (33 ∷ [])) ++ rest) ws
      ∙ ap (λ (z : List ℕ). behind z (p ∷ ws)) (append_assoc (tokens q) (33 ∷ []) rest)
      ∙ back q w.1 (33 ∷ rest) (p ∷ ws)

  pub given_back : (q : Query) → WellFormed l q → behind (tokens q) [] ≡ q ∷ []
  unfolding behind
  given_back q w = ap (λ (z : List ℕ). behind z []) (sym (append-nil (tokens q))) ∙ back q w [] []
