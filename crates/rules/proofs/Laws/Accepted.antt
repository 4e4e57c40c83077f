-- Accepted level tables: a pair has a number exactly if it is connected, and pairs with one number agree.
use Prim.Native.Nat.{ℕ, zero, suc, ◌+◌, ◌*◌, ◌/◌, ◌%◌, ◌≤◌, ◌<◌}
use mathlib.Core.Path.{◌≡◌, refl, sym, ap, ◌∙◌}
use mathlib.Core.Logic.{⊎_elim}
use mathlib.Core.List.{List}
use mathlib.Core.Bool.{true, not}
use native.Mathlib.Nat.{eq-zero-or-pos}
use native.Mathlib.Omega.{arith}
use borrow.Author.Tests.{eq-eqb, ne_eqb, not-false}
use lib.Dec.{eqb}
use lib.ListN.{get_or}
use Rattle.rules.specs.Graph.{Graph, connected}
use Rattle.rules.specs.Rule.{Rule}
use Rattle.rules.specs.Levels.{number_at, agree_at, connected_at, first_of}
use Rattle.rules.specs.Accept.{level_ok, LevelAccepted, LevelsAccepted}
use Rattle.rules.proofs.Laws.Tests.{not_both}
use Rattle.rules.proofs.Laws.Finite.{first_is}
use Rattle.rules.proofs.Laws.Places.{place_lt, place_row, place_column}
use Rattle.rules.proofs.Laws.Numbered.{Right, number_find}
use Rattle.rules.proofs.Laws.Agree.{Agree, agree_find, agree_sym, agree_trans}

-- the first of a number that stands in the table
pub first_of_lt : (n : ℕ) (t : List ℕ) (p : ℕ) → p < n → first_of n t (get_or t p 0) < n
unfolding first_of
first_of_lt n t p h = (first_is n (λ q. eqb (get_or t q 0) (get_or t p 0)) p h (eq-eqb (get_or t p 0) (get_or t p 0) refl)).below

module _ (ρ : Rule) (g : Graph) (i : ℕ) (T : ℕ → List ℕ) where
  -- the conditions of one position of a level, read
  abbrev pub LevelRight : ℕ → Type 0
  LevelRight = Right (connected_at g i) (agree_at ρ g i T) (g.items * g.items) (T i)

  pub right_find : (p : ℕ) → level_ok ρ g i T p ≡ true → LevelRight p
  unfolding level_ok
  right_find p e = number_find (connected_at g i) (agree_at ρ g i T) (g.items * g.items) (T i) p e

  module _ (ok : LevelAccepted ρ g i T) where
    pub right_at : (p : ℕ) → p < g.items * g.items → LevelRight p
    unfolding LevelAccepted
    right_at p h = right_find p (ok p h)

    right_pair : (v u : ℕ) → v < g.items → u < g.items → LevelRight (v * g.items + u)
    right_pair v u hv hu = right_at (v * g.items + u) (place_lt g.items v u hv hu)

    -- a pair has a number exactly if it is connected
    pub connected_number : (v u : ℕ) → v < g.items → u < g.items → connected g i v u ≡ true → 0 < number_at g.items (T i) v u
    unfolding number_at connected_at
    connected_number v u hv hu e =
        let z = (right_pair v u hv hu).zeros in
        let z' : eqb (get_or (T i) (v * g.items + u) 0) 0 ≡ not (connected g i v u) = rw (place_row g.items v u hu, place_column g.items v u hu) at z in
        ⊎_elim (λ q. not_both true refl (sym (eq-eqb _ _ q) ∙ z' ∙ ap not e)) (λ l. l) (eq-zero-or-pos (get_or (T i) (v * g.items + u) 0))

    pub number_connected : (v u : ℕ) → v < g.items → u < g.items → 0 < number_at g.items (T i) v u → connected g i v u ≡ true
    unfolding number_at connected_at
    number_connected v u hv hu l =
        let z = (right_pair v u hv hu).zeros in
        let z' : eqb (get_or (T i) (v * g.items + u) 0) 0 ≡ not (connected g i v u) = rw (place_row g.items v u hu, place_column g.items v u hu) at z in
        not-false (connected g i v u) (sym z' ∙ ne_eqb (get_or (T i) (v * g.items + u) 0) 0 (λ q. omega arith))

    -- two pairs with one number agree
    pub same_agree : (v u x y : ℕ) → v < g.items → u < g.items → x < g.items → y < g.items
        → number_at g.items (T i) v u ≡ number_at g.items (T i) x y → 0 < number_at g.items (T i) v u → Agree ρ g i T v u x y
    unfolding number_at agree_at
    same_agree v u x y hv hu hx hy e l =
        agree_trans ρ g i T (first v u hv hu (number_at g.items (T i) v u) refl l) (agree_sym ρ g i T (first x y hx hy (number_at g.items (T i) v u) (sym e) l))
      where
        first : (v u : ℕ) → v < g.items → u < g.items → (c : ℕ) → number_at g.items (T i) v u ≡ c → 0 < c
            → Agree ρ g i T v u (first_of (g.items * g.items) (T i) c / g.items) (first_of (g.items * g.items) (T i) c % g.items)
        first v u hv hu c e l =
            let a = (right_pair v u hv hu).agrees (rw e l) in
            agree_find ρ g i T v u (first_of (g.items * g.items) (T i) c / g.items) (first_of (g.items * g.items) (T i) c % g.items)
            (rw (place_row g.items v u hu, place_column g.items v u hu, e) at a)

module _ (ρ : Rule) (g : Graph) (k : ℕ) (T : ℕ → List ℕ) (ok : LevelsAccepted ρ g k T) where
  pub accepted_at : (i : ℕ) → 0 < i → i ≤ k → LevelAccepted ρ g i T
  unfolding LevelsAccepted
  accepted_at zero p h = absurd (omega arith)
  accepted_at (suc i) p h = ok i h
