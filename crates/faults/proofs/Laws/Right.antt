-- What the check of one position has learnt when it is left.
use Prim.Native.Nat.{ℕ, suc, ◌+◌, ◌*◌, ◌≤◌, ◌<◌, max}
use mathlib.Core.Path.{◌≡◌, refl, sym, ◌∙◌}
use mathlib.Core.List.{List}
use mathlib.Core.Bool.{Bool, true, false, not, ◌&&◌, ◌||◌, beq}
use native.Mathlib.Numerals.{add-one}
use native.Mathlib.Omega.{arith}
use lib.Dec.{eqb}
use lib.ListN.{length, get_or, take}
use lib.Seq.{take-suc}
use Rattle.std.specs.Prelude.{Some, None}
use borrow.Author.Tests.{eq-eqb, ne_eqb, le-leb, lt-leb, not-false}
use Rattle.rules.specs.Finite.{any_below}
use Rattle.rules.specs.Graph.{Graph}
use Rattle.rules.specs.Rule.{Rule, rule}
use Rattle.rules.specs.Levels.{level_of, first_of, max_of, connected_at, agree_at}
use Rattle.rules.specs.Accept.{number_ok, level_ok, first_fault}
use Rattle.twins.specs.Marks.{marked_graph}
use Rattle.numbering.specs.Needs.{Fault}
use Rattle.rules.proofs.Laws.Finite.{first_none}
use Rattle.rules.proofs.Laws.Loops.{first_found}
use Rattle.rules.proofs.Laws.Accepted.{right_find}
use Rattle.rules.proofs.Laws.Dense.{max_snoc}

-- position q has number c
unfoldable pub has_number : List ℕ → ℕ → ℕ → Bool
has_number t c q = eqb (get_or t q 0) c

pub first_self : (n : ℕ) (t : List ℕ) (p : ℕ) → p < n * n → any_below p (has_number t (get_or t p 0)) ≡ false → p ≡ first_of (n * n) t (get_or t p 0)
unfolding has_number first_of
first_self n t p hp none = first_found (has_number t (get_or t p 0)) (n * n) p hp none (eq-eqb (get_or t p 0) (get_or t p 0) refl)

-- the tests of one position, one after the other
module _ (ρ : Rule) (g : Graph) (i : ℕ) (T : ℕ → List ℕ) (p : ℕ) {c : ℕ} (ec : c ≡ get_or (T i) p 0) where
  pub right_out : connected_at g i p ≡ false → eqb c 0 ≡ level_ok ρ g i T p
  unfolding level_ok number_ok
  right_out e = rw (ec, e) (go (eqb (get_or (T i) p 0) 0) _)
    where
      go : (b x : Bool) → b ≡ (beq b true && (b || x))
      go true x = refl
      go false x = refl

  pub right_zero : connected_at g i p ≡ true → c ≡ 0 → false ≡ level_ok ρ g i T p
  unfolding level_ok number_ok
  right_zero e z = rw (e, eq-eqb (get_or (T i) p 0) 0 (sym ec ∙ z)) refl

  pub right_high : connected_at g i p ≡ true → (c ≡ 0 → ⊥) → suc (max_of (take p (T i))) < c → false ≡ level_ok ρ g i T p
  unfolding level_ok number_ok
  right_high e k h =
      rw (e, ne_eqb (get_or (T i) p 0) 0 (λ z. k (ec ∙ z)), lt-leb (get_or (T i) p 0) (suc (max_of (take p (T i)))) (rw ec at h)) refl

  pub right_agree : connected_at g i p ≡ true → (c ≡ 0 → ⊥) → c ≤ suc (max_of (take p (T i))) → {b : Bool}
      → b ≡ agree_at ρ g i T p (first_of (g.items * g.items) (T i) (get_or (T i) p 0)) → b ≡ level_ok ρ g i T p
  unfolding level_ok number_ok
  right_agree e k h f =
      rw (e, ne_eqb (get_or (T i) p 0) 0 (λ z. k (ec ∙ z)), le-leb (get_or (T i) p 0) (suc (max_of (take p (T i)))) (rw ec at h)) f

-- position p is faulty
unfoldable pub is_fault : Rule → Graph → ℕ → (ℕ → List ℕ) → ℕ → Bool
is_fault ρ g i T p = not (level_ok ρ g i T p)

module _ (ρ : Rule) (g : Graph) (i : ℕ) (T : ℕ → List ℕ) where
  pub fault_yes : (p : ℕ) {b : Bool} → b ≡ level_ok ρ g i T p → not b ≡ true → is_fault ρ g i T p ≡ true
  unfolding is_fault
  fault_yes p e k = rw (← e) k

  pub fault_no : (p : ℕ) {b : Bool} → b ≡ level_ok ρ g i T p → not b ≡ false → is_fault ρ g i T p ≡ false
  unfolding is_fault
  fault_no p e k = rw (← e) k

  first_found_lem : (p : ℕ) → p < g.items * g.items → any_below p (is_fault ρ g i T) ≡ false → is_fault ρ g i T p ≡ true → p ≡ first_fault ρ g i T
  unfolding is_fault first_fault
  first_found_lem p h none e = first_found (is_fault ρ g i T) (g.items * g.items) p h none e

  none_found : any_below (g.items * g.items) (is_fault ρ g i T) ≡ false → g.items * g.items ≡ first_fault ρ g i T
  unfolding is_fault first_fault
  none_found none = sym (first_none (g.items * g.items) (is_fault ρ g i T) none)

  -- a right number is at most one above the largest before it
  pub right_small : (p : ℕ) {b : Bool} {c : ℕ} → b ≡ level_ok ρ g i T p → not b ≡ false → c ≡ get_or (T i) p 0 → c ≤ suc (max_of (take p (T i)))
  right_small p {b} {c} e k ec = rw ec (right_find ρ g i T p (sym e ∙ not-false b k)).next

-- what the search of a level answers
module _ (n i : ℕ) (levels area : List ℕ) where
  abbrev faulty : ℕ → Bool
  faulty = is_fault rule (marked_graph n area) i (level_of n levels)

  pub fault_at : (p : ℕ) → p < n * n → any_below p faulty ≡ false → faulty p ≡ true → Fault n i levels area (Some p)
  fault_at p h none e =
      record {
        found = λ q k. let s : q ≡ p = (let z : Some p ≡ Some q = k in cc) in rw s (h, first_found_lem rule (marked_graph n area) i (level_of n levels) p h none e);
        none = λ k. absurd (let z : Some p ≡ None = k in cc);
      }

  pub fault_none : (p : ℕ) → p ≤ n * n → n * n ≤ p → any_below p faulty ≡ false → Fault n i levels area None
  fault_none p h k none =
      let e : p ≡ n * n = omega arith in
      record {
        found = λ q k. absurd (let z : None ≡ Some q = k in cc);
        none = λ k. none_found rule (marked_graph n area) i (level_of n levels) (rw e at none);
      }

-- the largest of one number more
pub max_take : (t : List ℕ) (p top c : ℕ) → p < length t → top ≡ max_of (take p t) → c ≡ get_or t p 0 → max top c ≡ max_of (take (p + 1) t)
max_take t p top c h m ec = rw (add-one, take-suc t p 0 h, max_snoc (take p t) (get_or t p 0), m, ec) refl
