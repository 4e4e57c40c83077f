-- One mark more in a list of marks.
use Prim.Native.Nat.{ℕ, ◌+◌, ◌*◌, ◌/◌, ◌%◌, ◌^◌, ◌≤◌, ◌<◌}
use mathlib.Core.Path.{◌≡◌, refl, sym, ap, ap₂, ◌∙◌}
use mathlib.Core.List.{List}
use mathlib.Core.Bool.{false, ◌&&◌, ◌||◌}
use native.Mathlib.Nat.{div-add-mod'}
use native.Mathlib.Decide.{ℕ_discrete}
use native.Mathlib.Omega.{arith}
use lib.Dec.{eqb}
use lib.Bits.{bit_or}
use lib.ListN.{length, get_or, set}
use lib.Seq.{get_or-set_same, get_or-set_other}
use borrow.Author.Tests.{eq-eqb, eqb-true}
use Rattle.rules.specs.Finite.{any_below}
use Rattle.rules.specs.Graph.{edge_is}
use Rattle.rules.proofs.Laws.Tests.{and_left, and_right, or_none, not_true_of}
use Rattle.rules.proofs.Laws.Loops.{any_step}
use Rattle.rules.proofs.Laws.Bits.{bit_or_lem, bit_power}
use Rattle.rules.proofs.Laws.Places.{place_lt, place_row, place_column}
use Rattle.twins.specs.Marks.{bit_at}

-- one edge more: edge e goes from v to u along k
module _ (n : ℕ) (es : List ℕ) (e v u k : ℕ) (ev : v ≡ get_or es (3 * e) 0) (eu : u ≡ get_or es (3 * e + 1) 0) (ek : k ≡ get_or es (3 * e + 2) 0) (hu : u < n) where
  edge_here : (q l : ℕ) → q ≡ v * n + u → edge_is es e (q / n) (q % n) l ≡ eqb k l
  unfolding edge_is
  edge_here q l h =
      rw (h, place_row n v u hu, place_column n v u hu, eq-eqb (get_or es (3 * e) 0) v (sym ev), eq-eqb (get_or es (3 * e + 1) 0) u (sym eu), ek) refl

  edge_other : (q l : ℕ) → (q ≡ v * n + u → ⊥) → edge_is es e (q / n) (q % n) l ≡ false
  unfolding edge_is
  edge_other q l h =
      let a = eqb (get_or es (3 * e) 0) (q / n) in
      let b = eqb (get_or es (3 * e + 1) 0) (q % n) in
      let d = eqb (get_or es (3 * e + 2) 0) l in
      not_true_of (a && b && d)
      (λ t.
      let ab = and_left (a && b) d t in
      let s = eqb-true (get_or es (3 * e) 0) (q / n) (and_left a b ab) in
      let r = eqb-true (get_or es (3 * e + 1) 0) (q % n) (and_right a b ab) in
      h (sym (div-add-mod' q n) ∙ ap (λ (z : ℕ). z * n + q % n) (sym s ∙ sym ev) ∙ ap (λ (z : ℕ). v * n + z) (sym r ∙ sym eu)))

  pub mark_more : (w : List ℕ) (b : ℕ) → v < n → k < 8 → n * n ≤ length w → b ≡ 2 ^ k
      → ((q l : ℕ) → q < n * n → l < 8 → bit_at l (get_or w q 0) ≡ any_below e (λ j. edge_is es j (q / n) (q % n) l))
      → (q l : ℕ) → q < n * n → l < 8
      → bit_at l (get_or (set w (v * n + u) (bit_or (get_or w (v * n + u) 0) b)) q 0) ≡ any_below (e + 1) (λ j. edge_is es j (q / n) (q % n) l)
  mark_more w b hv hk r hb inv q l i j = go (ℕ_discrete q (v * n + u))
    where
      go : Dec (q ≡ v * n + u)
          → bit_at l (get_or (set w (v * n + u) (bit_or (get_or w (v * n + u) 0) b)) q 0) ≡ any_below (e + 1) (λ j. edge_is es j (q / n) (q % n) l)
      go (yes p) =
          ap (λ (z : ℕ). bit_at l (get_or (set w (v * n + u) (bit_or (get_or w (v * n + u) 0) b)) z 0)) p
          ∙ ap (bit_at l) (get_or-set_same w (v * n + u) _ 0 (omega (arith, place_lt n v u hv hu)))
          ∙ bit_or_lem l _ _
          ∙ ap₂ ◌||◌ (ap (λ (z : ℕ). bit_at l (get_or w z 0)) (sym p) ∙ inv q l i j) (ap (bit_at l) hb ∙ bit_power l k hk j ∙ sym (edge_here q l p))
          ∙ sym (any_step _ e)
      go (no p) =
          ap (bit_at l) (get_or-set_other w (v * n + u) q _ 0 p)
          ∙ inv q l i j
          ∙ or_none _ _ (edge_other q l p)
          ∙ sym (any_step _ e)
