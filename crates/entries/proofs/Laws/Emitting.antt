-- The entries of one relation, position by position and row by row, and that they are those of the sequence.
use Prim.Native.Nat.{ℕ, zero, suc, ◌+◌, ◌*◌, ◌/◌, ◌%◌, ◌≤◌, ◌<◌}
use mathlib.Core.Path.{◌≡◌, refl, sym, ap, ◌∙◌}
use mathlib.Core.Logic.{⊎_elim}
use mathlib.Core.List.{List, [], ◌∷◌, ◌++◌, append-nil, append_assoc}
use mathlib.Core.Bool.{Bool, true, false, cond, ◌&&◌, and-false}
use native.Mathlib.Nat.{suc-mul, zero-mul}
use native.Mathlib.Numerals.{add-one}
use native.Mathlib.Omega.{arith}
use borrow.Author.Tests.{ltb-true, ltb-false, eq-eqb, ne_eqb}
use lib.Dec.{eqb, ltb}
use lib.ListN.{length, get_or, take}
use Rattle.rules.specs.Graph.{Graph}
use Rattle.rules.specs.Levels.{max_of, first_of}
use Rattle.rules.specs.Lists.{joins, joins_class, code_from, entries_for}
use Rattle.rules.proofs.Laws.Tests.{either}
use Rattle.rules.proofs.Laws.Finite.{any_here, none_any}
use Rattle.rules.proofs.Laws.Loops.{first_found}
use Rattle.rules.proofs.Laws.Places.{place_lt, place_row, place_column}
use Rattle.sorting.proofs.Laws.Numbers.{max_none, max_step, max_all, max_mono}
use Rattle.sorting.specs.Sort.{Contiguous}
use Rattle.relations.specs.Relations.{bit_at, Slot, Kept}
use Rattle.relations.proofs.Laws.Blocks.{digit}
use Rattle.entries.specs.Entries.{is_first, first_row, entries_row, entries_rows, Firsts}

-- ---- the marks of first positions
pub first_mark : (t : List ℕ) (p : ℕ) {most : ℕ} → most ≡ max_of (take p t) → cond {A = ℕ} (ltb most (get_or t p 0)) 1 0 ≡ cond (is_first t p) 1 0
unfolding is_first
first_mark t p e = rw e refl

unmarked : (b : Bool) → cond {A = ℕ} b 1 0 ≡ 0 → b ≡ false
unmarked true e = absurd (no e)
  where
    no : ◌≡◌ {A = ℕ} 1 0 → ⊥
    no q = omega arith
unmarked false e = refl

marked : (b : Bool) → (cond {A = ℕ} b 1 0 ≡ 0 → ⊥) → b ≡ true
marked true e = refl
marked false e = absurd (e refl)

-- ---- one position more
module _ (n : ℕ) (t : List ℕ) (J : ℕ → ℕ → Bool) (code v : ℕ) where
  pub row_none : [] ≡ entries_row n t J code v 0
  unfolding entries_row
  row_none = refl

  step : (u : ℕ) (b : Bool) → (is_first t (v * n + u) && J v u) ≡ b
      → entries_row n t J code v (u + 1) ≡ entries_row n t J code v u ++ cond b (code ∷ (get_or t (v * n + u) 0 ∷ [])) []
  unfolding entries_row
  step u b e = rw (add-one u) (rw e)

  row_miss : (u : ℕ) → (is_first t (v * n + u) && J v u) ≡ false → entries_row n t J code v u ≡ entries_row n t J code v (u + 1)
  row_miss u e = sym (step u false e ∙ append-nil (entries_row n t J code v u))

  module _ (w : List ℕ) (firsts : Firsts n t w) (u : ℕ) (hv : v < n) (hu : u < n) where
    pub row_later : get_or w (8 * (n * n) + (v * n + u)) 0 ≡ 0 → entries_row n t J code v u ≡ entries_row n t J code v (u + 1)
    row_later e = row_miss u (rw (unmarked (is_first t (v * n + u)) (sym (firsts.mark (v * n + u) (place_lt n v u hv hu)) ∙ e)))

    module _ (from l : ℕ) (slot : Slot n from l w J) where
      pub row_without : bit_at l (get_or w (from + (v * n + u)) 0) ≡ false → entries_row n t J code v u ≡ entries_row n t J code v (u + 1)
      row_without e = row_miss u (rw (sym (slot.cell v u hv hu) ∙ e) (and-false (is_first t (v * n + u))))

      pub row_with : (get_or w (8 * (n * n) + (v * n + u)) 0 ≡ 0 → ⊥) → bit_at l (get_or w (from + (v * n + u)) 0) ≡ true
          → entries_row n t J code v u ++ (code ∷ (get_or t (v * n + u) 0 ∷ [])) ≡ entries_row n t J code v (u + 1)
      row_with d e =
          sym (step u true
          (rw (marked (is_first t (v * n + u)) (λ z. d (firsts.mark (v * n + u) (place_lt n v u hv hu) ∙ z)), sym (slot.cell v u hv hu) ∙ e)))

  -- sixteen places without the bit
  past_bits : (w : List ℕ) (from l : ℕ) → Slot n from l w J → v < n → (u k : ℕ) → u + k ≤ n → ((j : ℕ) → j < k → bit_at l (get_or w (from + (v * n + u) + j) 0) ≡ false)
      → entries_row n t J code v u ≡ entries_row n t J code v (u + k)
  past_bits w from l slot hv u zero h none = let e : u ≡ u + 0 = omega arith in ap (λ (x : ℕ). entries_row n t J code v x) e
  past_bits w from l slot hv u (suc k) h none =
      let e : u + k + 1 ≡ u + suc k = omega arith in
      let a : from + (v * n + (u + k)) ≡ from + (v * n + u) + k = omega arith in
      let z : J v (u + k) ≡ false = sym (slot.cell v (u + k) hv (omega arith)) ∙ ap (λ (x : ℕ). bit_at l (get_or w x 0)) a ∙ none k (omega arith) in
      past_bits w from l slot hv u k (omega arith) (λ j m. none j (omega arith))
      ∙ row_miss (u + k) (ap (λ (x : Bool). is_first t (v * n + (u + k)) && x) z ∙ and-false (is_first t (v * n + (u + k))))
      ∙ ap (λ (x : ℕ). entries_row n t J code v x) e

  pub row_past : (w : List ℕ) (from l u : ℕ) → Slot n from l w J → v < n → u + 16 ≤ n → ((j : ℕ) → j < 16 → bit_at l (get_or w (from + (v * n + u) + j) 0) ≡ false)
      → entries_row n t J code v u ≡ entries_row n t J code v (u + 16)
  row_past w from l u slot hv inside none = past_bits w from l slot hv u 16 inside none

  -- a row without the relation has no entries
  empty_row : (k : ℕ) → ((u : ℕ) → u < k → J v u ≡ false) → entries_row n t J code v k ≡ []
  unfolding entries_row
  empty_row zero h = refl
  empty_row (suc k) h = rw (empty_row k (λ u l. h u (omega arith)), h k (omega arith), and-false (is_first t (v * n + k)))

  pub rows_more : entries_rows n t J code v ++ entries_row n t J code v n ≡ entries_rows n t J code (v + 1)
  unfolding entries_rows
  rows_more = rw (add-one v)

  pub rows_skip : ((u : ℕ) → u < n → J v u ≡ false) → entries_rows n t J code v ≡ entries_rows n t J code (v + 1)
  rows_skip h = sym (sym rows_more ∙ rw (empty_row n h) (append-nil (entries_rows n t J code v)))

pub rows_none : (n : ℕ) (t : List ℕ) (J : ℕ → ℕ → Bool) (code : ℕ) → [] ≡ entries_rows n t J code 0
unfolding entries_rows
rows_none n t J code = refl

-- ---- only what the relation is at first positions counts
gate : (a b d : Bool) → (a ≡ true → b ≡ d) → (a && b) ≡ (a && d)
gate true b d h = h refl
gate false b d h = refl

module _ (n : ℕ) (t : List ℕ) (J S : ℕ → ℕ → Bool) (code : ℕ) where
  row_same : (v k : ℕ) → ((u : ℕ) → u < k → is_first t (v * n + u) ≡ true → J v u ≡ S v u) → entries_row n t J code v k ≡ entries_row n t S code v k
  unfolding entries_row
  row_same v zero h = refl
  row_same v (suc k) h = rw (row_same v k (λ u l. h u (omega arith)), gate (is_first t (v * n + k)) (J v k) (S v k) (h k (omega arith)))

  pub rows_same : (k : ℕ) → ((v u : ℕ) → v < k → u < n → is_first t (v * n + u) ≡ true → J v u ≡ S v u) → entries_rows n t J code k ≡ entries_rows n t S code k
  unfolding entries_rows
  rows_same zero h = refl
  rows_same (suc k) h = rw (rows_same k (λ v u l. h v u (omega arith)), row_same k n (λ u. h k u (omega arith)))

pub rows_empty : (n : ℕ) (t : List ℕ) (code k : ℕ) → entries_rows n t (λ _ _. false) code k ≡ []
unfolding entries_rows
rows_empty n t code zero = refl
rows_empty n t code (suc k) = rw (rows_empty n t code k) (empty_row n t (λ _ _. false) code k n (λ u l. refl))

-- ---- the rows that have a first position
pub first_row_lem : (n : ℕ) (t : List ℕ) (v u : ℕ) → u < n → is_first t (v * n + u) ≡ true → first_row n t v ≡ true
unfolding first_row
first_row_lem n t v u hu e = any_here n (λ x. is_first t (v * n + x)) u hu e

pub rows_marked : (n : ℕ) (t w : List ℕ) → Firsts n t w → Kept n (first_row n t) w
unfolding first_row
rows_marked n t w f = record {
  row = λ v hv none. none_any n (λ u. is_first t (v * n + u))
      (λ u hu.
      let e : 8 * (n * n) + v * n + u ≡ 8 * (n * n) + (v * n + u) = omega arith in
      sym (digit (is_first t (v * n + u))) ∙ ap (λ (x : ℕ). bit_at 0 x) (sym (f.mark (v * n + u) (place_lt n v u hv hu))) ∙ rw e at (none u hu));
}

-- ---- position order is class order
module _ (t : List ℕ) (whole : Contiguous t) (p : ℕ) (hp : p < length t) where
  new_number : is_first t p ≡ true → get_or t p 0 ≡ suc (max_of (take p t))
  unfolding is_first
  new_number e = omega (arith, ltb-true (max_of (take p t)) (get_or t p 0) e, whole p hp)

  old_number : is_first t p ≡ false → get_or t p 0 ≤ max_of (take p t)
  unfolding is_first
  old_number e = ltb-false (max_of (take p t)) (get_or t p 0) e

  first_place : is_first t p ≡ true → p ≡ first_of (length t) t (suc (max_of (take p t)))
  unfolding first_of
  first_place e =
      first_found (λ q. eqb (get_or t q 0) (suc (max_of (take p t)))) (length t) p hp
      (none_any p (λ q. eqb (get_or t q 0) (suc (max_of (take p t))))
      (λ q h. ne_eqb (get_or t q 0) (suc (max_of (take p t)))
      (λ (x : get_or t q 0 ≡ suc (max_of (take p t))). omega (arith, max_step t q (omega arith), max_mono t (q + 1) p (omega arith) (omega arith)))))
      (eq-eqb (get_or t p 0) (suc (max_of (take p t))) (new_number e))

module _ (g : Graph) (t symbols : List ℕ) (whole : Contiguous t) (square : length t ≡ g.items * g.items) where
  joins_first : (p v u : ℕ) → p < length t → p / g.items ≡ v → p % g.items ≡ u → is_first t p ≡ true
      → joins_class g t symbols (suc (max_of (take p t))) ≡ joins g symbols v u
  unfolding joins_class
  joins_first p v u hp ev eu e = rw (← first_place t whole p hp e, ev, eu)

  max_new : (p : ℕ) → p < length t → is_first t p ≡ true → max_of (take (suc p) t) ≡ suc (max_of (take p t))
  max_new p hp e = rw (← add-one p) (omega (arith, max_step t p hp, new_number t whole p hp e))

  max_old : (p : ℕ) → p < length t → is_first t p ≡ false → max_of (take (suc p) t) ≡ max_of (take p t)
  max_old p hp e = rw (← add-one p) (omega (arith, max_step t p hp, old_number t whole p hp e))

  one_more : (p v u : ℕ) → p < length t → p / g.items ≡ v → p % g.items ≡ u
      → entries_for g t symbols (max_of (take p t)) ++ cond (is_first t p && joins g symbols v u) (code_from 0 symbols ∷ (get_or t p 0 ∷ [])) []
      ≡ entries_for g t symbols (max_of (take (suc p) t))
  unfolding entries_for
  one_more p v u hp ev eu =
      ⊎_elim
      (λ (e : is_first t p ≡ true). rw (max_new p hp e, joins_first p v u hp ev eu e, new_number t whole p hp e, e))
      (λ (e : is_first t p ≡ false). rw (max_old p hp e, e) (append-nil (entries_for g t symbols (max_of (take p t)))))
      (either (is_first t p))

  abbrev so_far : ℕ → List ℕ
  so_far v = entries_rows g.items t (joins g symbols) (code_from 0 symbols) v

  row_order : (v : ℕ) → v < g.items → so_far v ≡ entries_for g t symbols (max_of (take (v * g.items) t)) → (u : ℕ) → u ≤ g.items
      → so_far v ++ entries_row g.items t (joins g symbols) (code_from 0 symbols) v u ≡ entries_for g t symbols (max_of (take (v * g.items + u) t))
  unfolding entries_row
  row_order v hv h zero l = let z : v * g.items + 0 ≡ v * g.items = omega arith in rw z (append-nil (so_far v) ∙ h)
  row_order v hv h (suc u) l =
      let p : ℕ = v * g.items + u in
      let z : v * g.items + suc u ≡ suc (v * g.items + u) = omega arith in
      rw z
      (sym (append_assoc (so_far v) (entries_row g.items t (joins g symbols) (code_from 0 symbols) v u) _)
      ∙ rw (row_order v hv h u (omega arith))
      (one_more (v * g.items + u) v u (omega (arith, square, place_lt g.items v u hv l)) (place_row g.items v u l) (place_column g.items v u l)))

  rows_order : (v : ℕ) → v ≤ g.items → so_far v ≡ entries_for g t symbols (max_of (take (v * g.items) t))
  unfolding entries_rows entries_for
  rows_order zero l = rw (zero-mul g.items, ← max_none t)
  rows_order (suc v) l = rw (suc-mul v g.items) (row_order v l (rows_order v (omega arith)) g.items (omega arith))

  -- the rows of the relation that a sequence joins give the sequence's entries
  pub rows_all : entries_rows g.items t (joins g symbols) (code_from 0 symbols) g.items ≡ entries_for g t symbols (max_of t)
  rows_all = rows_order g.items (omega arith) ∙ ap (λ (c : ℕ). entries_for g t symbols c) (max_all t (g.items * g.items) (omega (arith, square)) (omega (arith, square)))

-- a row none of whose bytes has bit l
pub row_lacks : (n from l v : ℕ) (w : List ℕ) (J : ℕ → ℕ → Bool) → v < n → ((i : ℕ) → i < n → bit_at l (get_or w (from + v * n + i) 0) ≡ false)
    → Slot n from l w J → (u : ℕ) → u < n → J v u ≡ false
row_lacks n from l v w J hv none s u hu =
    let z : from + (v * n + u) ≡ from + v * n + u = omega arith in
    sym (s.cell v u hv hu) ∙ rw z (none u hu)
