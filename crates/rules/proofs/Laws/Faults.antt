-- The check's tests: a level without a first fault is right at each position, and two lists without a difference are the same.
use Prim.Native.Nat.{ℕ, zero, suc, ◌*◌, ◌≤◌, ◌<◌, min}
use mathlib.Core.Path.{◌≡◌, refl, sym, ap, ◌∙◌, subst}
use mathlib.Core.Logic.{⊎_elim}
use mathlib.Core.List.{List}
use mathlib.Core.Bool.{Bool, ◌&&◌, not}
use native.Mathlib.Nat.{eq-or-lt_of_le}
use native.Mathlib.Omega.{arith}
use borrow.Author.Tests.{eqb-true, eq-eqb, ltb-false, le-ltb, not-false}
use lib.Dec.{eqb, ltb}
use lib.ListN.{length, get_or}
use lib.Seq.{ext_get_or}
use Rattle.rules.specs.declared.Refusal.{Refusal}
use Rattle.rules.specs.declared.Refusal.TheVariants.{LevelFault}
use Rattle.rules.specs.Graph.{Graph}
use Rattle.rules.specs.Rule.{Rule}
use Rattle.rules.specs.Verdict.{good, when}
use Rattle.rules.specs.Accept.{level_ok, LevelAccepted, LevelsAccepted, first_fault, levels_right, difference, same_list}
use Rattle.rules.proofs.Laws.Tests.{and_left, and_right}
use Rattle.rules.proofs.Laws.Finite.{none_any, first_none, first_before}
use Rattle.rules.proofs.Laws.Verdict.{or_else_good, both_good, when_good, good_when}

module _ (ρ : Rule) (g : Graph) (T : ℕ → List ℕ) where
  abbrev faulty : ℕ → ℕ → Bool
  faulty i p = not (level_ok ρ g i T p)

  no_fault : (i : ℕ) → g.items * g.items ≤ first_fault ρ g i T → LevelAccepted ρ g i T
  unfolding first_fault LevelAccepted
  no_fault i h p l = not-false (level_ok ρ g i T p) (first_before (g.items * g.items) (faulty i) p l (omega arith))

  fault_none : (i : ℕ) → LevelAccepted ρ g i T → first_fault ρ g i T ≡ g.items * g.items
  unfolding first_fault LevelAccepted
  fault_none i ok = first_none (g.items * g.items) (faulty i) (none_any (g.items * g.items) (faulty i) (λ p l. ap not (ok p l)))

  pub right_accepted : (k : ℕ) → levels_right ρ g k T ≡ good → LevelsAccepted ρ g k T
  unfolding levels_right LevelsAccepted
  right_accepted zero e i h = absurd (omega arith)
  right_accepted (suc k) e i h =
      let n = g.items * g.items in
      let f = first_fault ρ g (suc k) T in
      let r = or_else_good (levels_right ρ g k T) (when (ltb f n) (LevelFault (suc k) f)) e in
      ⊎_elim
      (λ (q : i ≡ k). subst (λ (j : ℕ). LevelAccepted ρ g (suc j) T) (sym q) (no_fault (suc k) (ltb-false f n (when_good (ltb f n) (LevelFault (suc k) f) r.1))))
      (λ (l : i < k). right_accepted k r.0 i l)
      (eq-or-lt_of_le (omega arith))

  pub accepted_right : (k : ℕ) → LevelsAccepted ρ g k T → levels_right ρ g k T ≡ good
  unfolding levels_right LevelsAccepted
  accepted_right zero ok = refl
  accepted_right (suc k) ok =
      let n = g.items * g.items in
      let f = first_fault ρ g (suc k) T in
      both_good (levels_right ρ g k T) (when (ltb f n) (LevelFault (suc k) f))
      (accepted_right k (λ i h. ok i (omega arith)))
      (good_when (ltb f n) (LevelFault (suc k) f) (le-ltb f n (omega (arith, fault_none (suc k) (ok k (omega arith))))))

-- two lists
module _ (xs ys : List ℕ) where
  abbrev differ : ℕ → Bool
  differ j = not (eqb (get_or xs j 0) (get_or ys j 0))

  pub same_equal : (r : ℕ → Refusal) → same_list xs ys r ≡ good → xs ≡ ys
  unfolding same_list difference
  same_equal r e =
      let d = difference xs ys in
      let t = not-false _ (when_good (not (eqb d (length xs) && eqb d (length ys))) (r d) e) in
      let dx : d ≡ length xs = eqb-true d (length xs) (and_left (eqb d (length xs)) (eqb d (length ys)) t) in
      let dy : d ≡ length ys = eqb-true d (length ys) (and_right (eqb d (length xs)) (eqb d (length ys)) t) in
      ext_get_or 0 xs ys (sym dx ∙ dy)
      (λ j h. eqb-true (get_or xs j 0) (get_or ys j 0)
      (not-false (eqb (get_or xs j 0) (get_or ys j 0)) (first_before (min (length xs) (length ys)) differ j (omega arith) (omega arith))))

pub equal_same : (xs ys : List ℕ) (r : ℕ → Refusal) → xs ≡ ys → same_list xs ys r ≡ good
equal_same xs ys r e = subst (λ (zs : List ℕ). same_list xs zs r ≡ good) e (self xs)
  where
    twice : (n : ℕ) → min n n ≡ n
    twice n = omega arith

    none : (xs : List ℕ) → difference xs xs ≡ length xs
    none xs =
        unfold difference in
        (first_none (min (length xs) (length xs)) (differ xs xs)
        (none_any (min (length xs) (length xs)) (differ xs xs) (λ j h. ap not (eq-eqb (get_or xs j 0) (get_or xs j 0) refl))) ∙ twice (length xs))

    self : (xs : List ℕ) → same_list xs xs r ≡ good
    self xs =
        unfold same_list in
        (good_when _ (r (difference xs xs)) (rw (eq-eqb (difference xs xs) (length xs) (none xs)) refl))
