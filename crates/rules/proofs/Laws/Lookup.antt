-- Sequence lookup in entries that ascend finds all entries of the code.
use Prim.Native.Nat.{ℕ, zero, suc, ◌+◌, ◌*◌, ◌/◌, ◌≤◌, ◌<◌}
use mathlib.Core.Path.{◌≡◌, refl, sym, ap, subst, subst₂}
use mathlib.Core.Logic.{⊎_elim}
use mathlib.Core.List.{List, [], ◌∷◌}
use mathlib.Core.Bool.{Bool, true, false, ◌&&◌, not}
use native.Mathlib.Nat.{le_refl, eq-or-lt_of_le, mul-le-mul_right, suc-mul}
use native.Mathlib.Omega.{arith}
use borrow.Author.Tests.{eqb-true, eq-eqb, leb-true, le-leb, ltb-true, lt-ltb, not-true}
use lib.Dec.{eqb, leb, ltb}
use lib.ListN.{length}
use Rattle.rules.specs.Stored.{code_at, class_at, part_from, part_to, stands}
use Rattle.rules.proofs.Laws.Tests.{either, order, not_both, and_left, and_right, and_intro}
use Rattle.rules.proofs.Laws.Finite.{any_find, any_here, first_is, first_some, first_le, first_lt, first_before}
use Rattle.rules.proofs.Laws.Entries.{Rising, none, more, Entered, here, there}

twice : (j : ℕ) → 2 * suc j ≡ suc (suc (2 * j))
twice j = omega arith

twice_one : (j : ℕ) → 2 * suc j + 1 ≡ suc (suc (2 * j + 1))
twice_one j = omega arith

-- the key of an entry, and its class, where entries ascend
pub rising_from : {m a b : ℕ} {l : List ℕ} → Rising m a b l → (j : ℕ) → j < length l / 2 → a ≤ code_at l j * m + class_at l j
unfolding code_at class_at
rising_from (none h) j k = absurd (omega arith)
rising_from (more o h t r) zero k = h
rising_from (more o h t r) (suc j) k = let ih = rising_from r j (omega arith) in rw (twice_one, twice) (omega (arith, ih, h))

pub rising_class : {m a b : ℕ} {l : List ℕ} → Rising m a b l → (j : ℕ) → j < length l / 2 → class_at l j < m
unfolding class_at
rising_class (none h) j k = absurd (omega arith)
rising_class (more o h t r) zero k = o
rising_class (more o h t r) (suc j) k = rw twice_one (rising_class r j (omega arith))

-- entries ascend strictly by code, then class
pub rising_strict : {m a b : ℕ} {l : List ℕ} → Rising m a b l → (i j : ℕ) → i < j → j < length l / 2
    → code_at l i * m + class_at l i < code_at l j * m + class_at l j
unfolding code_at class_at
rising_strict (none h) i j o k = absurd (omega arith)
rising_strict (more s h t r) i zero o k = absurd (omega arith)
rising_strict (more s h t r) zero (suc j) o k = let ih = rising_from r j (omega arith) in rw (twice_one, twice) ih
rising_strict (more s h t r) (suc i) (suc j) o k = rw (twice_one i, twice i, twice_one j, twice j) (rising_strict r i j (omega arith) (omega arith))

-- and so by code
pub rising_order : {m a b : ℕ} {l : List ℕ} → Rising m a b l → (i j : ℕ) → i ≤ j → j < length l / 2 → code_at l i ≤ code_at l j
rising_order {m} {a} {b} {l} r i j o k =
    ⊎_elim
    (λ (q : i ≡ j). rw q (le_refl (code_at l j)))
    (λ (h : i < j). ⊎_elim
    (λ (c : code_at l j < code_at l i).
    absurd (omega (arith, rising_strict r i j h k, rising_class r j k, mul-le-mul_right m c, suc-mul (code_at l j) m)))
    (λ (c : code_at l i ≤ code_at l j). c)
    (order (code_at l j) (code_at l i)))
    (eq-or-lt_of_le o)

pub entered_at : {x c : ℕ} {l : List ℕ} → Entered x c l → (j : ℕ) × (j < length l / 2) × (code_at l j ≡ x) × (class_at l j ≡ c)
unfolding code_at class_at
entered_at (here p q) = (0, omega arith, sym p, sym q)
entered_at (there m) =
    let r = entered_at m in
    (suc r.0, omega (arith, r.1), rw twice r.2, rw twice_one r.3)

pub at_entered : (l : List ℕ) (j : ℕ) → j < length l / 2 → Entered (code_at l j) (class_at l j) l
unfolding code_at class_at
at_entered [] j h = absurd (omega arith)
at_entered (x ∷ []) j h = absurd (omega arith)
at_entered (x ∷ (c ∷ l)) zero h = here refl refl
at_entered (x ∷ (c ∷ l)) (suc j) h = rw (twice_one, twice) (there (at_entered l j (omega arith)))

module _ {m a b : ℕ} (es : List ℕ) (up : Rising m a b es) (x : ℕ) where
  abbrev is_code : ℕ → Bool
  is_code j = eqb (code_at es j) x

  abbrev is_other : ℕ → Bool
  is_other j = ltb (part_from es x) j && not (is_code j)

  -- the part holds nothing but entries of the code
  part_code : (j : ℕ) → j < length es / 2 → part_from es x ≤ j → j < part_to es x → code_at es j ≡ x
  unfolding part_from part_to
  part_code j h f t =
      let n = length es / 2 in
      ⊎_elim
      (λ (q : part_from es x ≡ j). subst (λ (i : ℕ). code_at es i ≡ x) q
      (eqb-true (code_at es (part_from es x)) x (first_some n is_code (first_lt n is_code (omega arith))).passes))
      (λ (l : part_from es x < j). ⊎_elim
      (λ (c : is_code j ≡ true). eqb-true (code_at es j) x c)
      (λ (c : is_code j ≡ false).
      not_both (is_other j) (and_intro (ltb (part_from es x) j) (not (is_code j)) (lt-ltb (part_from es x) j l) (ap not c)) (first_before n is_other j h t))
      (either (is_code j)))
      (eq-or-lt_of_le f)

  -- and all of them
  code_part : (j : ℕ) → j < length es / 2 → code_at es j ≡ x → (part_from es x ≤ j) × (j < part_to es x)
  unfolding part_from part_to
  code_part j h e =
      let n = length es / 2 in
      let F = part_from es x in
      let P = part_to es x in (
        first_le n is_code j h (eq-eqb (code_at es j) x e),
        ⊎_elim (λ (l : j < P). l)
            (λ (l : P ≤ j).
            let is = first_some n is_other (first_lt n is_other (omega arith)) in
            let FP : F < P = ltb-true F P (and_left (ltb F P) (not (is_code P)) is.passes) in
            let eF : code_at es F ≡ x = eqb-true (code_at es F) x (first_is n is_code j h (eq-eqb (code_at es j) x e)).passes in
            let nP : is_code P ≡ false = not-true (is_code P) (and_right (ltb F P) (not (is_code P)) is.passes) in
            let lo = rising_order up F P (omega arith) (omega arith) in
            let hi = rising_order up P j l h in
            not_both (is_code P) (eq-eqb (code_at es P) x (omega arith)) nP)
            (order j P),
      )

  pub stands_find : (c : ℕ) → stands es x c ≡ true → Entered x c es
  unfolding stands
  stands_find c e =
      let r = any_find (length es / 2) (λ j. (leb (part_from es x) j && ltb j (part_to es x)) && eqb (class_at es j) c) e in
      let j = r.0 in
      let ab = and_left (leb (part_from es x) j && ltb j (part_to es x)) (eqb (class_at es j) c) r.2 in
      let ex = part_code j r.1 (leb-true (part_from es x) j (and_left (leb (part_from es x) j) (ltb j (part_to es x)) ab))
      (ltb-true j (part_to es x) (and_right (leb (part_from es x) j) (ltb j (part_to es x)) ab)) in
      let ec = eqb-true (class_at es j) c (and_right (leb (part_from es x) j && ltb j (part_to es x)) (eqb (class_at es j) c) r.2) in
      subst₂ (λ (y d : ℕ). Entered y d es) ex ec (at_entered es j r.1)

  pub stands_here : (c : ℕ) → Entered x c es → stands es x c ≡ true
  unfolding stands
  stands_here c e =
      let r = entered_at e in
      let j = r.0 in
      let w = code_part j r.1 r.2 in
      any_here (length es / 2) (λ j. (leb (part_from es x) j && ltb j (part_to es x)) && eqb (class_at es j) c) j r.1
      (and_intro _ _ (and_intro _ _ (le-leb (part_from es x) j w.0) (lt-ltb j (part_to es x) w.1)) (eq-eqb (class_at es j) c r.3))
