-- Which tables the check accepts at a level, whoever made them: those numbered by any equivalence that gives agreement; and one table only for each way of putting the connected pairs into classes.
use Prim.Native.Nat.{ℕ, ◌*◌, ◌≤◌, ◌<◌}
use mathlib.Core.Path.{◌≡◌, sym, ◌∙◌}
use mathlib.Core.Logic.{◌↔◌}
use mathlib.Core.List.{List}
use mathlib.Core.Bool.{Bool, true}
use native.Mathlib.Omega.{arith}
use borrow.Author.Tests.{eqb-true, eq-eqb}
use lib.ListN.{length, get_or}
use lib.Seq.{take_all}
use Rattle.rules.specs.Graph.{Graph}
use Rattle.rules.specs.Rule.{Rule, RuleLaws}
use Rattle.rules.specs.Levels.{number_at, connected_at, agree_at, numbering, built_level}
use Rattle.rules.specs.Accept.{number_ok, level_ok, LevelAccepted, LevelsAccepted}
use Rattle.rules.proofs.Laws.Accepted.{accepted_at, right_at, number_connected}
use Rattle.rules.proofs.Laws.Numbered.{Equivalence, number_here, numbered_right}
use Rattle.rules.proofs.Laws.AllOrNone.{accepted_bisim}
use Rattle.rules.proofs.Laws.Builder.{agree_same, bisim_agree}
use Rattle.rules.proofs.Laws.Fixed.{Dense, SameClasses, front_same}

-- a table numbered by first position, by an equivalence that gives the relation which the test asks for, is right at each position
pub any_numbering_right : (is_in : ℕ → Bool) (same : ℕ → ℕ → Bool) → Equivalence same → (alike : ℕ → ℕ → Bool) (n : ℕ)
    → ((p q : ℕ) → p < n → q < n → is_in p ≡ true → is_in q ≡ true → same p q ≡ true → alike p q ≡ true)
    → (p : ℕ) → p < n → number_ok is_in alike n (numbering is_in same n) p ≡ true
any_numbering_right is_in same eqv alike n gives p h = number_here is_in alike n (numbering is_in same n) p (numbered_right is_in same eqv alike n gives p h)

-- a level numbered by an equivalence that gives agreement is accepted
pub any_level_accepted : (ρ : Rule) (g : Graph) (i : ℕ) (T : ℕ → List ℕ) (same : ℕ → ℕ → Bool) → Equivalence same
    → ((p q : ℕ) → p < g.items * g.items → q < g.items * g.items → connected_at g i p ≡ true → connected_at g i q ≡ true
    → same p q ≡ true → agree_at ρ g i T p q ≡ true)
    → T i ≡ numbering (connected_at g i) same (g.items * g.items) → LevelAccepted ρ g i T
unfolding LevelAccepted level_ok
any_level_accepted ρ g i T same eqv gives own p h =
    rw own (any_numbering_right (connected_at g i) same eqv (agree_at ρ g i T) (g.items * g.items) gives p h)

-- zeros, classes and "at most one above the largest before" fix a table
pub classes_fix_table : (s t : List ℕ) → Dense s → Dense t → SameClasses s t → s ≡ t
classes_fix_table s t a b like =
    sym (take_all (length s) s (omega arith)) ∙ front_same s t a b like (length s) (omega arith) ∙ take_all (length s) t (omega (arith, like.size))

-- so two accepted tables of a level with the same classes are equal
module _ (ρ : Rule) (g : Graph) (i : ℕ) (S T : ℕ → List ℕ) (s_ok : LevelAccepted ρ g i S) (t_ok : LevelAccepted ρ g i T) where
  pub accepted_fixed : length (S i) ≡ g.items * g.items → length (T i) ≡ g.items * g.items
      → ((p q : ℕ) → p < length (S i) → q < length (S i) → 0 < get_or (S i) p 0 → 0 < get_or (S i) q 0
      → (get_or (S i) p 0 ≡ get_or (S i) q 0) ↔ (get_or (T i) p 0 ≡ get_or (T i) q 0))
      → S i ≡ T i
  accepted_fixed ss ts like =
      classes_fix_table (S i) (T i)
      (record { next = λ p h. (right_at ρ g i S s_ok p (omega arith)).next })
      (record { next = λ p h. (right_at ρ g i T t_ok p (omega arith)).next })
      (record {
        size = ss ∙ sym ts;
        zeros = λ p h. (
          λ z. eqb-true (get_or (T i) p 0) 0 ((right_at ρ g i T t_ok p (omega arith)).zeros ∙ sym (right_at ρ g i S s_ok p (omega arith)).zeros ∙ eq-eqb (get_or (S i) p 0) 0 z),
          λ z. eqb-true (get_or (S i) p 0) 0 ((right_at ρ g i S s_ok p (omega arith)).zeros ∙ sym (right_at ρ g i T t_ok p (omega arith)).zeros ∙ eq-eqb (get_or (T i) p 0) 0 z),
        );
        classes = like;
      })

-- accepted classes are the builder's or finer: two pairs with one number in an accepted level have one number in the builder's
pub accepted_or_finer : (ρ : Rule) (law : RuleLaws ρ) (g : Graph) (k : ℕ) (T : ℕ → List ℕ) → LevelsAccepted ρ g k T → (i : ℕ) → 0 < i → i ≤ k
    → (v u x y : ℕ) → v < g.items → u < g.items → x < g.items → y < g.items
    → number_at g.items (T i) v u ≡ number_at g.items (T i) x y → 0 < number_at g.items (T i) v u
    → number_at g.items (built_level ρ g i) v u ≡ number_at g.items (built_level ρ g i) x y
accepted_or_finer ρ law g k T ok i o b v u x y hv hu hx hy e l =
    let right = accepted_at ρ g k T ok i o b in
    agree_same ρ law g i v u x y o hv hu hx hy
    (number_connected ρ g i T right v u hv hu l)
    (number_connected ρ g i T right x y hx hy (rw e at l))
    (bisim_agree ρ law g i v u x y hv hu hx hy (accepted_bisim ρ law g k T ok i o b v u x y hv hu hx hy e l))
