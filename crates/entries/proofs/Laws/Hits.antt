-- Counting the entries of a row without making them.
use Prim.Native.Nat.{ℕ, zero, suc, ◌+◌, ◌*◌, ◌≤◌, ◌<◌}
use mathlib.Core.Path.{◌≡◌, refl, ap, ap₂, ◌∙◌}
use mathlib.Core.Logic.{⊎_elim}
use mathlib.Core.List.{List, [], ◌∷◌, ◌++◌}
use mathlib.Core.Bool.{Bool, true, false, cond, not, ◌&&◌}
use native.Mathlib.Numerals.{add-one}
use native.Mathlib.Omega.{arith}
use borrow.Author.Tests.{eqb-true, eqb-false}
use lib.Dec.{eqb}
use lib.ListN.{length, get_or, length-append}
use Rattle.rules.specs.Finite.{count_below}
use Rattle.rules.proofs.Laws.Tests.{either, one_at_most}
use Rattle.rules.proofs.Laws.Places.{place_lt}
use Rattle.relations.specs.Relations.{bit_at, Slot}
use Rattle.entries.specs.Entries.{Went, Firsts, is_first, is_hit, entries_row}
use Rattle.sorting.proofs.Laws.Difference.{difference_is}
use Rattle.entries.proofs.Laws.Went.{went_as, went_none}

-- one position more
pub count_more : (w : List ℕ) (from firsts l u : ℕ) {a x : ℕ} → a ≡ count_below u (is_hit w from firsts l) → a ≤ u
    → x ≡ cond (not (eqb (get_or w (firsts + u) 0) 0) && bit_at l (get_or w (from + u) 0)) 1 0
    → (a + x ≡ count_below (u + 1) (is_hit w from firsts l)) × (a + x ≤ u + 1)
unfolding count_below is_hit
count_more w from firsts l u e h ex = (
  rw (add-one u) (ap₂ ◌+◌ e ex),
  omega (arith, ex, one_at_most (not (eqb (get_or w (firsts + u) 0) 0) && bit_at l (get_or w (from + u) 0))),
)

-- the hits of a row are its entries
told : (b : Bool) → not (eqb (cond {A = ℕ} b 1 0) 0) ≡ b
told true = refl
told false = refl

module _ (n : ℕ) (t : List ℕ) (J : ℕ → ℕ → Bool) (code v from l : ℕ) (w : List ℕ) (hv : v < n) (slot : Slot n from l w J) (firsts : Firsts n t w) where
  abbrev hits : ℕ → Bool
  hits = is_hit w (from + v * n) (8 * (n * n) + v * n) l

  hit_is : (u : ℕ) → u < n → hits u ≡ (is_first t (v * n + u) && J v u)
  unfolding is_hit
  hit_is u h =
      let a : 8 * (n * n) + v * n + u ≡ 8 * (n * n) + (v * n + u) = omega arith in
      let b : from + v * n + u ≡ from + (v * n + u) = omega arith in
      rw (a, b)
      (ap₂ ◌&&◌ (ap (λ (z : ℕ). not (eqb z 0)) (firsts.mark (v * n + u) (place_lt n v u hv h)) ∙ told (is_first t (v * n + u))) (slot.cell v u hv h))

  row_length : (k : ℕ) → k ≤ n → length (entries_row n t J code v k) ≡ 2 * count_below k hits
  unfolding entries_row count_below
  row_length zero h = refl
  row_length (suc k) h =
      length-append (entries_row n t J code v k) (cond (is_first t (v * n + k) && J v k) (code ∷ (get_or t (v * n + k) 0 ∷ [])) [])
      ∙ ap₂ ◌+◌ (row_length k (omega arith)) (rw (hit_is k (omega arith)) (two (is_first t (v * n + k) && J v k) (get_or t (v * n + k) 0)))
      ∙ sum (count_below k hits) (cond (hits k) 1 0)
    where
      two : (b : Bool) (x : ℕ) → length (cond b (code ∷ (x ∷ [])) []) ≡ 2 * cond b 1 0
      two true x = refl
      two false x = refl

      sum : (a b : ℕ) → 2 * a + 2 * b ≡ 2 * (a + b)
      sum a b = omega arith

  no_length : (xs : List ℕ) → length xs ≡ 0 → [] ≡ xs
  no_length [] e = refl
  no_length (x ∷ xs) e = absurd (omega arith)

  row_missed : (m k : ℕ) {some : ℕ} (s out : List ℕ) → some ≡ count_below n hits → some ≡ 0 → Went k m (k + some) m (entries_row n t J code v n) s out out
  row_missed m k {some} s out e z =
      let q : k + some ≡ k = omega arith in
      rw q (went_as k m k m [] (entries_row n t J code v n) s out out (no_length (entries_row n t J code v n) (row_length n (omega arith) ∙ omega arith)) (went_none k m s out))

  row_some : (m k : ℕ) {some : ℕ} (s out : List ℕ) → some ≡ count_below n hits → (some ≡ 0 → ⊥) → length s + length out ≡ 0
      → Went k m (k + some) m (entries_row n t J code v n) s out out
  row_some m k {some} s out e d z =
      record {
        count = omega (arith, row_length n (omega arith), e);
        size = refl;
        text = λ h. absurd (d (omega arith));
        meets = λ before len q. omega (arith, q, (difference_is before s).right, (difference_is (before ++ entries_row n t J code v n) s).right);
      }

  -- with nothing to write to and nothing to compare with, counting is all
  pub row_counted : (m k : ℕ) {some : ℕ} (s out : List ℕ) → some ≡ count_below n hits → length s + length out ≡ 0
      → Went k m (k + some) m (entries_row n t J code v n) s out out
  row_counted m k {some} s out e z =
      ⊎_elim
      (λ (y : eqb some 0 ≡ true). row_missed m k s out e (eqb-true some 0 y))
      (λ (y : eqb some 0 ≡ false). row_some m k s out e (eqb-false some 0 y) z)
      (either (eqb some 0))
