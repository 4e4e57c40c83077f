-- What stores in the area leave alone.
use Prim.Native.Nat.{ℕ, zero, suc, ◌+◌, ◌*◌, ◌≤◌, ◌<◌}
use mathlib.Core.Path.{◌≡◌, refl, sym, ap, ◌∙◌, fun_ext}
use mathlib.Core.List.{List, ◌++◌}
use native.Mathlib.Nat.{zero-add}
use native.Mathlib.Omega.{arith}
use native.Mathlib.Numerals.{add-one}
use lib.ListN.{length, get_or, set, take, drop, replicate}
use lib.Seq.{drop-set-lt, take-set-le, length-take-le, drop-drop, paste}
use Rattle.std.proofs.lemmas.List.Edits.{paste_none, paste_all, fill_from_more}
use Rattle.std.proofs.lemmas.List.{length-replicate}
use Rattle.rules.specs.Writing.{fill}
use Rattle.rules.proofs.Laws.Writing.{get_or_fill_front, get_or_fill_in, length_fill}
use Rattle.twins.specs.Marks.{bit_at, marked_edge}
use Rattle.twins.specs.Standing.{Cleared, Ready, Near, Kept, Placed, near_byte}

pub drop_fill_at : (m : ℕ) (w : List ℕ) (b k : ℕ) (f : ℕ → ℕ) → b + k ≤ m → drop m (fill w b k f) ≡ drop m w
unfolding fill
drop_fill_at m w b zero f h = refl
drop_fill_at m w b (suc k) f h = drop-set-lt m (fill w b k f) (b + k) (f k) (omega arith) ∙ drop_fill_at m w b k f (omega arith)

-- the library's fill of a part with zeros: what a loop over the part would write
zeros_paste : (w : List ℕ) (b k : ℕ) → b + k ≤ length w → paste w b (replicate k 0) k ≡ fill w b k (λ _. 0)
unfolding fill
zeros_paste w b zero h = sym (paste_none w b (replicate 0 0))
zeros_paste w b (suc k) h =
    let e = fill_from_more w b k 0 (omega arith) in
    sym (simp add-one at e) ∙ ap (λ (z : List ℕ). set z (b + k) 0) (zeros_paste w b k (omega arith))

zeros_at : (w : List ℕ) (b k : ℕ) (s : List ℕ) {z : ℕ} → b + k ≤ length w → z ≡ k → s ≡ replicate z 0 → take b w ++ (s ++ drop (b + k) w) ≡ fill w b k (λ _. 0)
zeros_at w b k s h d e = rw (e, d) (sym (paste_all w b (replicate k 0) k (sym (length-replicate k 0))) ∙ zeros_paste w b k h)

pub zeros_mid : (w : List ℕ) (b k : ℕ) (s : List ℕ) {z : ℕ} → b + k ≤ length w → z ≡ k → s ≡ replicate z 0 → take b w ++ (s ++ drop k (drop b w)) ≡ fill w b k (λ _. 0)
zeros_mid w b k s h d e = rw (drop-drop k b w) (zeros_at w b k s h d e)

pub zeros_front : (w : List ℕ) (k : ℕ) (s : List ℕ) → k ≤ length w → s ≡ replicate (length (take k w)) 0 → s ++ drop k w ≡ fill w 0 k (λ _. 0)
zeros_front w k s h e = rw zero-add at (zeros_at w 0 k s (omega arith) (length-take-le k w h) e)

pub cleared : (n : ℕ) (w w' : List ℕ) → w' ≡ fill w 0 (n * n) (λ _. 0) → n * n ≤ length w → Cleared n w'
cleared n w w' e r =
    record {
      room = rw (e, length_fill w 0 (n * n) (λ _. 0)) r;
      zero_at = λ q h. ap (λ (z : List ℕ). get_or z q 0) e ∙ get_or_fill_front w (n * n) (λ _. 0) q h r;
    }

-- what is written behind the marks leaves the graph that they give
pub take_fill : (m : ℕ) (w : List ℕ) (b k : ℕ) (f : ℕ → ℕ) → m ≤ b → take m (fill w b k f) ≡ take m w
unfolding fill
take_fill m w b zero f h = refl
take_fill m w b (suc k) f h = take-set-le m (fill w b k f) (b + k) (f k) (omega arith) ∙ take_fill m w b k f h

pub edges_kept : (n : ℕ) (w w' : List ℕ) → take (n * n) w' ≡ take (n * n) w → marked_edge n w' ≡ marked_edge n w
unfolding marked_edge
edges_kept n w w' e = fun_ext (λ v. fun_ext (λ u. fun_ext (λ l. ap (λ (t : List ℕ). bit_at l (get_or t (v * n + u) 0)) e)))

pub byte_kept : (n i : ℕ) (w w' : List ℕ) (p : ℕ) → take (n * n) w' ≡ take (n * n) w → near_byte n i w' p ≡ near_byte n i w p
byte_kept n i w w' p e = rw (edges_kept n w w' e) refl

pub ready_area : (n i : ℕ) (l w w' : List ℕ) → Ready n i l w → take (n * n) w' ≡ take (n * n) w → length w' ≡ length w → Ready n i l w'
ready_area n i l w w' r e s =
    record {
      few = r.few;
      some = r.some;
      short = r.short;
      room = r.room;
      area_room = rw s r.area_room;
      below = rw (edges_kept n w w' e) r.below;
    }

-- the bytes of the connected pairs, while they are written and afterwards
module _ (n i : ℕ) (w w' : List ℕ) (k : ℕ) (e : w' ≡ fill w (n * n) k (near_byte n i w)) where
  pub near_marks : take (n * n) w' ≡ take (n * n) w
  near_marks = rw e (take_fill (n * n) w (n * n) k (near_byte n i w) (omega arith))

  pub near_size : length w' ≡ length w
  near_size = rw e (length_fill w (n * n) k (near_byte n i w))

  pub near_at : (p : ℕ) → p < k → n * n + k ≤ length w → get_or w' (n * n + p) 0 ≡ near_byte n i w' p
  near_at p h r = ap (λ (z : List ℕ). get_or z (n * n + p) 0) e ∙ get_or_fill_in w (n * n) k (near_byte n i w) p h r ∙ sym (byte_kept n i w w' p near_marks)

pub near_kept : (n i : ℕ) (w w' : List ℕ) → w' ≡ fill w (n * n) (n * n) (near_byte n i w) → 9 * (n * n) ≤ length w → (Near n i w') × (Kept n w w')
near_kept n i w w' e r = (
  record { byte_at = λ p h. near_at n i w w' (n * n) e p h (omega arith) },
  record {
    marks = near_marks n i w w' (n * n) e;
    rest = ap (drop (9 * (n * n))) e ∙ drop_fill_at (9 * (n * n)) w (n * n) (n * n) (near_byte n i w) (omega arith);
    size = near_size n i w w' (n * n) e;
  },
)

-- the area with these bytes serves as well
pub near_ready : (n i : ℕ) (l w w' : List ℕ) → Ready n i l w → w' ≡ fill w (n * n) (n * n) (near_byte n i w) → (Ready n i l w') × (Near n i w')
near_ready n i l w w' r e =
    let k = near_kept n i w w' e r.area_room in
    (ready_area n i l w w' r k.1.marks k.1.size, k.0)

pub placed_kept : (n i : ℕ) (l w w' : List ℕ) (r : ℕ) (l' : List ℕ) → take (n * n) w' ≡ take (n * n) w → Placed n i l w' r l' → Placed n i l w r l'
placed_kept n i l w w' r l' e p =
    record { count = rw (edges_kept n w w' e) at p.count; written = rw (edges_kept n w w' e) at p.written }
