-- The list of the midpoints of one split: one item more; and what two lists have in common.
use Prim.Native.Nat.{ℕ, ◌+◌, ◌≤◌, ◌<◌}
use mathlib.Core.Path.{◌≡◌, refl, sym, ap₂, ◌∙◌}
use mathlib.Core.Logic.{⊎_elim}
use mathlib.Core.List.{List}
use mathlib.Core.Bool.{Bool, true, false, not, ◌&&◌}
use native.Mathlib.Nat.{eq-or-lt_of_le}
use native.Mathlib.Omega.{arith}
use lib.ListN.{length, get_or, set, take, length-set}
use lib.Seq.{get_or-set_same, get_or-set_other, get_or-take, length-take-le}
use borrow.Author.Tests.{eq-eqb, ne_eqb, eqb-true, not-true, not-false}
use Rattle.rules.specs.Finite.{any_below}
use Rattle.rules.specs.Levels.{number_at}
use Rattle.rules.proofs.Laws.Tests.{order}
use Rattle.rules.proofs.Laws.Finite.{any_find, any_here}
use Rattle.twins.specs.Halves.{midpoint_of, Half, Listed, Halves, is_same, has_same}
use Rattle.twins.specs.Skips.{Next}

-- what stands in the front of a list stands in the list
pub listed_cut : (k : ℕ) (list : List ℕ) (x : ℕ) → k ≤ length list → Listed (length (take k list)) (take k list) x → Listed k list x
listed_cut k list x h l =
    let e = length-take-le k list h in
    let b : l.place < k = omega (arith, l.below, e) in
    record { place = l.place; below = b; is = sym (get_or-take k list l.place 0 b) ∙ l.is }

module _ (n : ℕ) (s t : List ℕ) (c v u k : ℕ) (before : List ℕ) where
  pub halves_start : k + n ≤ length before → Halves n s t c v u 0 k before k before
  halves_start r =
      record { up = omega arith; few = omega arith; room = r; kept = λ j h. refl; sound = λ j h l. absurd (omega arith); complete = λ w h a b. absurd (omega arith) }

  further : (m m' x : ℕ) → m ≤ m' → Half n s t c v u m x → Half n s t c v u m' x
  further m m' x l h = record { item = h.item; below = omega (arith, h.below); first = h.first; second = h.second; is = h.is }

  module _ (m at : ℕ) (list : List ℕ) (hs : Halves n s t c v u m k before at list) where
    -- nothing new at m
    halves_next : (0 < number_at n s v m → 0 < number_at n t m u → Listed at list (midpoint_of c (number_at n s v m) (number_at n t m u)))
        → Halves n s t c v u (m + 1) k before at list
    halves_next f =
        record {
          up = hs.up;
          few = omega (arith, hs.few);
          room = hs.room;
          kept = hs.kept;
          sound = λ j h l. further m (m + 1) (get_or list j 0) (omega arith) (hs.sound j h l);
          complete = λ w h. ⊎_elim
              (λ (e : w ≡ m). rw e f)
              (λ (l : w < m). hs.complete w l)
              (eq-or-lt_of_le (omega arith));
        }

    -- nothing at the items before the next one
    pub halves_skip : (w : ℕ) → Next n s v m w → Halves n s t c v u w k before at list
    halves_skip w d =
        record {
          up = hs.up;
          few = omega (arith, hs.few, d.up);
          room = hs.room;
          kept = hs.kept;
          sound = λ j h l. further m w (get_or list j 0) d.up (hs.sound j h l);
          complete = λ x h a b. ⊎_elim
              (λ (l : x < m). hs.complete x l a b)
              (λ (g : m ≤ x). absurd (omega (arith, d.zeros x g h)))
              (order x m);
        }

    pub halves_first : {a : ℕ} → a ≡ number_at n s v m → a ≡ 0 → Halves n s t c v u (m + 1) k before at list
    halves_first e z = halves_next (λ a b. absurd (omega arith))

    pub halves_second : {b : ℕ} → b ≡ number_at n t m u → b ≡ 0 → Halves n s t c v u (m + 1) k before at list
    halves_second e z = halves_next (λ a b. absurd (omega arith))

    module _ {a b x : ℕ} (ea : a ≡ number_at n s v m) (eb : b ≡ number_at n t m u) (ex : x ≡ midpoint_of c a b) where
      is_midpoint : x ≡ midpoint_of c (number_at n s v m) (number_at n t m u)
      is_midpoint = ex ∙ ap₂ (midpoint_of c) ea eb

      pub halves_old : Listed at list x → Halves n s t c v u (m + 1) k before at list
      halves_old l = halves_next (λ p q. record { place = l.place; below = l.below; is = l.is ∙ is_midpoint })

      pub halves_new : (a ≡ 0 → ⊥) → (b ≡ 0 → ⊥) → m < n → Halves n s t c v u (m + 1) k before (at + 1) (set list at x)
      halves_new ka kb l =
          record {
            up = omega (arith, hs.up);
            few = omega (arith, hs.few);
            room = rw (length-set list at x) hs.room;
            kept = λ j h. get_or-set_other list at j x 0 (λ e. omega (arith, hs.up)) ∙ hs.kept j h;
            sound = λ j g h. ⊎_elim
                (λ (e : j ≡ at).
                rw (e, get_or-set_same list at x 0 (omega (arith, hs.few, hs.room)))
                (record { item = m; below = omega arith; first = omega (arith, ka, ea); second = omega (arith, kb, eb); is = is_midpoint }))
                (λ (h : j < at). rw (get_or-set_other list at j x 0 (λ e. omega arith)) (further m (m + 1) (get_or list j 0) (omega arith) (hs.sound j g h)))
                (eq-or-lt_of_le (omega arith));
            complete = λ w h p q. ⊎_elim
                (λ (e : w ≡ m). record { place = at; below = omega arith; is = get_or-set_same list at x 0 (omega (arith, hs.few, hs.room)) ∙ is_midpoint ∙ rw e refl })
                (λ (h : w < m).
                let d = hs.complete w h p q in
                record { place = d.place; below = omega (arith, d.below); is = get_or-set_other list at d.place x 0 (λ e. omega (arith, d.below)) ∙ d.is })
                (eq-or-lt_of_le (omega arith));
          }

-- whether two places have the same
pub same_yes : (list other : List ℕ) (m w : ℕ) → get_or other w 0 ≡ get_or list m 0 → is_same list other m w ≡ true
unfolding is_same
same_yes list other m w e = eq-eqb _ _ e

pub same_no : (list other : List ℕ) (m w : ℕ) → (get_or other w 0 ≡ get_or list m 0 → ⊥) → is_same list other m w ≡ false
unfolding is_same
same_no list other m w k = ne_eqb _ _ k

pub found_same : (list other : List ℕ) (j m w : ℕ) → w < j → get_or other w 0 ≡ get_or list m 0 → has_same list other j m ≡ true
unfolding has_same
found_same list other j m w h e = any_here j (is_same list other m) w h (same_yes list other m w e)

pub none_same : (list other : List ℕ) (j m : ℕ) → any_below j (is_same list other m) ≡ false → has_same list other j m ≡ false
unfolding has_same
none_same list other j m e = e

pub find_same : (list other : List ℕ) (j m : ℕ) → has_same list other j m ≡ true → Listed j other (get_or list m 0)
unfolding has_same is_same
find_same list other j m e =
    let r = any_find j (is_same list other m) e in
    record { place = r.0; below = r.1; is = eqb-true (get_or other r.0 0) (get_or list m 0) r.2 }

-- two tests, one after the other
pub both_no : {r a : Bool} (b : Bool) → r ≡ a → not r ≡ true → false ≡ (a && b)
both_no {r} {a} b e k = rw (sym e ∙ not-true r k) refl

pub both_yes : {r s a b : Bool} → r ≡ a → not r ≡ false → s ≡ b → s ≡ (a && b)
both_yes {r} {s} {a} {b} e k f = rw (sym e ∙ not-false r k) f
