-- Rows of connected items: what adding a row of level 1 makes of a row, and what the whole row tells.
use Prim.Native.Nat.{ℕ, zero, suc, ◌+◌, ◌*◌, ◌-◌, ◌≤◌, ◌<◌}
use mathlib.Core.Path.{◌≡◌, refl, sym, ap, ◌∙◌}
use mathlib.Core.Logic.{⊎_elim}
use mathlib.Core.List.{List}
use mathlib.Core.Bool.{Bool, true, false, not, ◌&&◌, ◌||◌, or-false}
use native.Mathlib.Nat.{eq-zero-or-pos}
use native.Mathlib.Omega.{arith}
use lib.Bits.{bit_or, or_add_and, and_le_r}
use mir.Val.{bool_byte}
use lib.Dec.{eqb}
use lib.ListN.{length, get_or, take}
use borrow.Author.Tests.{eq-eqb, ne_eqb, eqb-false, not-true}
use Rattle.rules.specs.Finite.{any_below}
use Rattle.rules.specs.Graph.{connected}
use Rattle.rules.specs.Rule.{rule}
use Rattle.rules.specs.Levels.{number_at, level_of, connected_at}
use Rattle.rules.specs.Accept.{LevelAccepted}
use Rattle.rules.specs.Writing.{fill, rows}
use Rattle.rules.proofs.Laws.Tests.{same}
use Rattle.rules.proofs.Laws.Finite.{any_same}
use Rattle.rules.proofs.Laws.Loops.{any_step}
use Rattle.rules.proofs.Laws.Places.{place_row, place_column}
use Rattle.rules.proofs.Laws.Accepted.{accepted_at, connected_number, number_connected}
use Rattle.rules.proofs.Laws.Writing.{fill_ext, get_or_fill_front, get_or_fill_other, length_fill, rows_more, length_rows}
use Rattle.twins.specs.Marks.{marked_graph, one_if}
use Rattle.twins.specs.Standing.{Ready, near_byte}
use Rattle.twins.specs.Rows.{is_mid, Empty, Reached, RowOf}
use Rattle.twins.proofs.Laws.Areas.{take_fill, byte_kept}
use Rattle.twins.proofs.Laws.Reach.{reach, reach_is}

-- the byte of a test as the library makes it
pub byte_told : (b : Bool) → bool_byte b ≡ one_if b
unfolding one_if
byte_told true = refl
byte_told false = refl

one_told : (b : Bool) → not (eqb (one_if b) 0) ≡ b
unfolding one_if
one_told true = refl
one_told false = refl

-- one number more of a row that is added to
pub add_turn : (n : ℕ) (t row r : List ℕ) (m u : ℕ) → r ≡ fill row 0 u (λ i. bit_or (get_or row i 0) (number_at n t m i))
    → bit_or (get_or r u 0) (get_or t (m * n + u) 0) ≡ bit_or (get_or row u 0) (number_at n t m u)
unfolding number_at
add_turn n t row r m u e =
    let f : ℕ → ℕ = λ i. bit_or (get_or row i 0) (number_at n t m i) in
    ap (λ (z : ℕ). bit_or z (get_or t (m * n + u) 0)) (ap (λ (z : List ℕ). get_or z u 0) e ∙ get_or_fill_other row 0 u f u (λ i l q. omega arith))

or_some : (x y : ℕ) → not (eqb (bit_or x y) 0) ≡ (not (eqb x 0) || not (eqb y 0))
or_some zero y = refl
or_some (suc x) y =
    ap not (ne_eqb (bit_or (suc x) y) 0 (λ q. omega (arith, or_add_and (suc x) y, and_le_r (suc x) y)))
    ∙ sym (ap (λ (b : Bool). not b || not (eqb y 0)) (ne_eqb (suc x) 0 (λ q. omega arith)))

module _ (n : ℕ) (s t : List ℕ) (v : ℕ) where
  pub reached_start : (row : List ℕ) → Empty n row → Reached n s t v 0 row
  unfolding any_below
  reached_start row e = record { room = e.room; told = λ u h. rw (eq-eqb (get_or row u 0) 0 (e.zero_at u h)) refl }

  mid_none : (u m : ℕ) → number_at n s v m ≡ 0 → is_mid n s t v u m ≡ false
  unfolding is_mid
  mid_none u m z = rw (eq-eqb (number_at n s v m) 0 z) refl

  mid_some : (u m : ℕ) → (number_at n s v m ≡ 0 → ⊥) → is_mid n s t v u m ≡ not (eqb (number_at n t m u) 0)
  unfolding is_mid
  mid_some u m k = rw (ne_eqb (number_at n s v m) 0 k) refl

  module _ (m : ℕ) {a : ℕ} (ea : a ≡ number_at n s v m) (row : List ℕ) (r : Reached n s t v m row) where
    pub reached_same : a ≡ 0 → Reached n s t v (m + 1) row
    reached_same z =
        record {
          room = r.room;
          told = λ u h. r.told u h ∙ sym (any_step (is_mid n s t v u) m ∙ ap (λ (b : Bool). any_below m (is_mid n s t v u) || b) (mid_none u m (sym ea ∙ z)) ∙ or-false (any_below m (is_mid n s t v u)));
        }

    pub reached_more : (a ≡ 0 → ⊥) → (row' : List ℕ) → row' ≡ fill row 0 n (λ u. bit_or (get_or row u 0) (number_at n t m u)) → Reached n s t v (m + 1) row'
    reached_more k row' e =
        record {
          room = rw (e, length_fill row 0 n (λ u. bit_or (get_or row u 0) (number_at n t m u))) r.room;
          told = λ u h.
              ap (λ (z : ℕ). not (eqb z 0)) (ap (λ (z : List ℕ). get_or z u 0) e ∙ get_or_fill_front row n (λ i. bit_or (get_or row i 0) (number_at n t m i)) u h r.room)
              ∙ or_some (get_or row u 0) (number_at n t m u)
              ∙ ap (λ (b : Bool). b || not (eqb (number_at n t m u) 0)) (r.told u h)
              ∙ sym (any_step (is_mid n s t v u) m ∙ ap (λ (b : Bool). any_below m (is_mid n s t v u) || b) (mid_some u m (λ z. k (ea ∙ z))));
        }

-- what the rows tell
pub row_first : (n i : ℕ) (area : List ℕ) (v : ℕ) (row row' : List ℕ) → n ≤ length row → i ≡ 1
    → row' ≡ fill row 0 n (λ u. one_if (connected (marked_graph n area) 1 v u)) → RowOf n i area v row'
row_first n i area v row row' h ei e =
    let f : ℕ → ℕ = λ u. one_if (connected (marked_graph n area) 1 v u) in
    record {
      room = rw (e, length_fill row 0 n f) h;
      told = λ u l.
          ap (λ (z : ℕ). not (eqb z 0)) (ap (λ (z : List ℕ). get_or z u 0) e ∙ get_or_fill_front row n f u l h)
          ∙ one_told (connected (marked_graph n area) 1 v u)
          ∙ ap (λ (j : ℕ). connected (marked_graph n area) j v u) (sym ei);
    }

one_step : (n : ℕ) (levels area : List ℕ) → LevelAccepted rule (marked_graph n area) 1 (level_of n levels) → (m u : ℕ) → m < n → u < n
    → not (eqb (number_at n (level_of n levels 1) m u) 0) ≡ connected (marked_graph n area) 1 m u
one_step n levels area ok m u hm hu =
    let x = number_at n (level_of n levels 1) m u in
    let g = marked_graph n area in
    same (not (eqb x 0)) (connected g 1 m u)
    (λ t. number_connected rule g 1 (level_of n levels) ok m u hm hu (⊎_elim (λ z. absurd (eqb-false x 0 (not-true (eqb x 0) t) z)) (λ l. l) (eq-zero-or-pos x)))
    (λ t. ap not (ne_eqb x 0 (λ z. omega (arith, connected_number rule g 1 (level_of n levels) ok m u hm hu t))))

pub row_far : (n i : ℕ) (levels area : List ℕ) (v : ℕ) (row : List ℕ) → Ready n i levels area → (i ≡ 1 → ⊥) → v < n
    → Reached n (level_of n levels (i - 1)) (level_of n levels 1) v n row → RowOf n i area v row
unfolding is_mid reach
row_far n i levels area v row r k hv e =
    let some : 0 < i = r.some in
    let far : 1 ≤ i - 1 = ⊎_elim (λ (z : i - 1 ≡ 0). absurd (k (omega arith))) (λ (l : 0 < i - 1). l) (eq-zero-or-pos (i - 1)) in
    let ok = accepted_at rule (marked_graph n area) (i - 1) (level_of n levels) r.below 1 (omega arith) far in
    record {
      room = e.room;
      told = λ u h.
          e.told u h
          ∙ any_same n (is_mid n (level_of n levels (i - 1)) (level_of n levels 1) v u) (reach n levels area (i - 1) v u)
          (λ m l. ap (λ (b : Bool). not (eqb (number_at n (level_of n levels (i - 1)) v m) 0) && b) (one_step n levels area ok m u l h))
          ∙ reach_is n levels area i v u some k hv h r.below;
    }

-- the bytes of a row, and of all rows
pub row_bytes_lem : (n i : ℕ) (area w : List ℕ) (at v : ℕ) (row w' : List ℕ) → RowOf n i area v row → w' ≡ fill w at n (λ u. one_if (not (eqb (get_or row u 0) 0)))
    → w' ≡ fill w at n (λ u. one_if (connected (marked_graph n area) i v u))
row_bytes_lem n i area w at v row w' r e =
    e ∙ fill_ext w at n (λ u. one_if (not (eqb (get_or row u 0) 0))) (λ u. one_if (connected (marked_graph n area) i v u)) (λ u h. ap one_if (r.told u h))

pub take_rows : (m : ℕ) (w : List ℕ) (b n k : ℕ) (f : ℕ → ℕ → ℕ) → m ≤ b → take m (rows w b n k f) ≡ take m w
unfolding rows
take_rows m w b n zero f h = refl
take_rows m w b n (suc k) f h = take_fill m (rows w b n k f) (b + k * n) n (f k) (omega arith) ∙ take_rows m w b n k f h

module _ (n i : ℕ) (w w' : List ℕ) (v : ℕ) (e : w' ≡ rows w (n * n) n v (λ x u. near_byte n i w (x * n + u))) where
  pub rows_marks : take (n * n) w' ≡ take (n * n) w
  rows_marks = rw e (take_rows (n * n) w (n * n) n v (λ x u. near_byte n i w (x * n + u)) (omega arith))

  pub rows_size : length w' ≡ length w
  rows_size = rw e (length_rows w (n * n) n v (λ x u. near_byte n i w (x * n + u)))

  pub rows_turn : (w'' : List ℕ) → w'' ≡ fill w' (n * n + v * n) n (λ u. one_if (connected (marked_graph n w') i v u))
      → w'' ≡ rows w (n * n) n (v + 1) (λ x u. near_byte n i w (x * n + u))
  unfolding connected_at
  rows_turn w'' e' =
      rows_more w (n * n) n v (λ x u. near_byte n i w (x * n + u)) w' (n * n + v * n) (λ u. one_if (connected (marked_graph n w') i v u)) w'' e e' refl
      (λ u h. byte u h ∙ byte_kept n i w w' (v * n + u) rows_marks)
    where
      byte : (u : ℕ) → u < n → one_if (connected (marked_graph n w') i v u) ≡ near_byte n i w' (v * n + u)
      byte u h = rw (place_row n v u h, place_column n v u h) refl
