-- Rows of next items: one written from its end down, all of them, and what they are for.
use Prim.Native.Nat.{ℕ, ◌+◌, ◌*◌, ◌-◌, ◌≤◌, ◌<◌}
use mathlib.Core.Path.{◌≡◌, refl, sym, ap, ◌∙◌}
use mathlib.Core.Logic.{⊎_elim}
use mathlib.Core.List.{List}
use native.Mathlib.Nat.{eq-or-lt_of_le}
use native.Mathlib.Omega.{arith}
use lib.ListN.{length, get_or, take, drop, set, length-set}
use lib.Seq.{get_or-set_same, get_or-set_other, get_or-take, get_or-drop, take-take, drop-drop, take-set-le, drop-set-lt}
use Rattle.rules.specs.Rule.{rule}
use Rattle.rules.specs.Levels.{number_at, level_of}
use Rattle.rules.proofs.Laws.Places.{place_lt, row_fits}
use Rattle.rules.proofs.Laws.Lawful.{rule_laws}
use Rattle.twins.specs.Skips.{Next, Skips, Laid, SkipRow, Aside}

module _ (n : ℕ) (s : List ℕ) (v : ℕ) where
  pub next_end : Next n s v n n
  next_end = record { up = omega arith; few = omega arith; zeros = λ x a b. absurd (omega arith) }

  -- from one item further down, where that is not connected, and where it is
  pub next_passed : (m w : ℕ) {x : ℕ} → Next n s v (m + 1) w → x ≡ number_at n s v m → x ≡ 0 → Next n s v m w
  next_passed m w {x} d e z =
      record {
        up = omega (arith, d.up);
        few = d.few;
        zeros = λ y a b. ⊎_elim
            (λ (f : m ≡ y). rw (← f) (sym e ∙ z))
            (λ (l : m < y). d.zeros y (omega arith) b)
            (eq-or-lt_of_le a);
      }

  pub next_here : (m : ℕ) → m < n → Next n s v m m
  next_here m h = record { up = omega arith; few = omega arith; zeros = λ y a b. absurd (omega arith) }

-- the row of v is written from item m on
pub record From (n : ℕ) (s : List ℕ) (v m : ℕ) (area area' : List ℕ) : Type 0 where
  pub next_at : (j : ℕ) → m ≤ j → j < n → Next n s v j (get_or area' (8 * (n * n) + (v * n + j)) 0)
  pub front : take (8 * (n * n) + v * n) area' ≡ take (8 * (n * n) + v * n) area
  pub behind : drop (8 * (n * n) + (v * n + n)) area' ≡ drop (8 * (n * n) + (v * n + n)) area
  pub size : length area' ≡ length area

module _ (n : ℕ) (s : List ℕ) (v : ℕ) (area : List ℕ) where
  pub from_start : From n s v n area area
  from_start = record { next_at = λ j a b. absurd (omega arith); front = refl; behind = refl; size = refl }

  pub from_down : (m : ℕ) (area' : List ℕ) (x : ℕ) → 0 < m → m ≤ n → v < n → 9 * (n * n) ≤ length area → From n s v m area area' → Next n s v (m - 1) x
      → From n s v (m - 1) area (set area' (8 * (n * n) + (v * n + (m - 1))) x)
  from_down m area' x p h hv room f d =
      let at = 8 * (n * n) + (v * n + (m - 1)) in
      let inside : at < length area' = omega (arith, place_lt n v (m - 1) hv (omega arith), f.size) in
      record {
        next_at = λ j a b. ⊎_elim
            (λ (e : m - 1 ≡ j). rw (← e, get_or-set_same area' at x 0 inside) d)
            (λ (l : m - 1 < j). rw (get_or-set_other area' at (8 * (n * n) + (v * n + j)) x 0 (λ e. omega arith)) (f.next_at j (omega arith) b))
            (eq-or-lt_of_le a);
        front = take-set-le (8 * (n * n) + v * n) area' at x (omega arith) ∙ f.front;
        behind = drop-set-lt (8 * (n * n) + (v * n + n)) area' at x (omega arith) ∙ f.behind;
        size = length-set area' at x ∙ f.size;
      }

  pub from_done : (m : ℕ) (area' : List ℕ) → m ≡ 0 → From n s v m area area' → SkipRow n s v area area'
  from_done m area' e f = record { next_at = λ j h. f.next_at j (omega arith) h; front = f.front; behind = f.behind; size = f.size }

-- the first v rows are written
pub record RowsTo (n : ℕ) (s : List ℕ) (v : ℕ) (area area' : List ℕ) : Type 0 where
  pub next_at : (x m : ℕ) → x < v → m < n → Next n s x m (get_or area' (8 * (n * n) + (x * n + m)) 0)
  pub aside : Aside n area area'

module _ (n : ℕ) (s area : List ℕ) where
  pub rows_start : RowsTo n s 0 area area
  rows_start = record { next_at = λ x m a b. absurd (omega arith); aside = record { front = refl; rest = refl; size = refl } }

  pub rows_turn : (v : ℕ) (area' area'' : List ℕ) → v < n → RowsTo n s v area area' → SkipRow n s v area' area'' → RowsTo n s (v + 1) area area''
  rows_turn v area' area'' hv r k =
      record {
        next_at = λ x m a b. ⊎_elim
            (λ (e : x ≡ v). rw e (k.next_at m b))
            (λ (l : x < v). rw (old x m l b) (r.next_at x m l b))
            (eq-or-lt_of_le (omega arith));
        aside = record {
          front = sym (take-take (8 * (n * n)) (8 * (n * n) + v * n) area'' (omega arith)) ∙ ap (take (8 * (n * n))) k.front ∙ take-take (8 * (n * n)) (8 * (n * n) + v * n) area' (omega arith)
              ∙ r.aside.front;
          rest = far area'' ∙ ap (drop (9 * (n * n) - at)) k.behind ∙ sym (far area') ∙ r.aside.rest;
          size = k.size ∙ r.aside.size;
        };
      }
    where
      at : ℕ
      at = 8 * (n * n) + (v * n + n)

      fits : at ≤ 9 * (n * n)
      fits = omega (arith, row_fits n hv)

      far : (z : List ℕ) → drop (9 * (n * n)) z ≡ drop (9 * (n * n) - at) (drop at z)
      far z = let e : 9 * (n * n) ≡ at + (9 * (n * n) - at) = omega (arith, fits) in ap (λ (m : ℕ). drop m z) e ∙ sym (drop-drop (9 * (n * n) - at) at z)

      old : (x m : ℕ) → x < v → m < n → get_or area'' (8 * (n * n) + (x * n + m)) 0 ≡ get_or area' (8 * (n * n) + (x * n + m)) 0
      old x m l b =
          let h : 8 * (n * n) + (x * n + m) < 8 * (n * n) + v * n = omega (arith, row_fits n l) in
          sym (get_or-take (8 * (n * n) + v * n) area'' (8 * (n * n) + (x * n + m)) 0 h) ∙ ap (λ (z : List ℕ). get_or z (8 * (n * n) + (x * n + m)) 0) k.front
          ∙ get_or-take (8 * (n * n) + v * n) area' (8 * (n * n) + (x * n + m)) 0 h

  pub rows_done : (v : ℕ) (area' : List ℕ) → v ≤ n → n ≤ v → 9 * (n * n) ≤ length area → RowsTo n s v area area' → (Skips n s area') × (Aside n area area')
  rows_done v area' a b room r = (record { room = rw r.aside.size room; next_at = λ x m h k. r.next_at x m (omega arith) k }, r.aside)

pub aside_refl : (n : ℕ) (area : List ℕ) → Aside n area area
aside_refl n area = record { front = refl; rest = refl; size = refl }

-- no split, nothing to lay out
pub laid_none : (n i : ℕ) (levels area : List ℕ) {k : ℕ} → k ≡ rule.many i → k ≡ 0 → 9 * (n * n) ≤ length area → (Laid n i levels area) × (Aside n area area)
laid_none n i levels area e z room = (record { room = room; skips = λ c h. absurd (omega (arith, e)) }, aside_refl n area)

-- bytes from 6·n² on stay
pub far_same : (n : ℕ) (w w' : List ℕ) → drop (6 * (n * n)) w' ≡ drop (6 * (n * n)) w → (q : ℕ) → 6 * (n * n) ≤ q → get_or w' q 0 ≡ get_or w q 0
far_same n w w' e q h =
    let p : q ≡ 6 * (n * n) + (q - 6 * (n * n)) = omega arith in
    let at : (z : List ℕ) → get_or z q 0 ≡ get_or (drop (6 * (n * n)) z) (q - 6 * (n * n)) 0 =
    λ z. ap (λ (j : ℕ). get_or z j 0) p ∙ sym (get_or-drop (6 * (n * n)) z (q - 6 * (n * n)) 0) in
    at w' ∙ ap (λ (z : List ℕ). get_or z (q - 6 * (n * n)) 0) e ∙ sym (at w)

skips_kept : (n : ℕ) (s w w' : List ℕ) → drop (6 * (n * n)) w' ≡ drop (6 * (n * n)) w → length w' ≡ length w → Skips n s w → Skips n s w'
skips_kept n s w w' e z k =
    record {
      room = rw z k.room;
      next_at = λ v m a b. rw (far_same n w w' e (8 * (n * n) + (v * n + m)) (omega arith)) (k.next_at v m a b);
    }

-- what is laid out stays while the levels below and the end of the area do
pub laid_kept : (n i : ℕ) (l l' w w' : List ℕ) → drop (6 * (n * n)) w' ≡ drop (6 * (n * n)) w → length w' ≡ length w
    → ((j : ℕ) → j < i → level_of n l' j ≡ level_of n l j) → Laid n i l w → Laid n i l' w'
laid_kept n i l l' w w' e z below k =
    record {
      room = rw z k.room;
      skips = λ c h. rw (below (rule.first i c) (rule_laws.first_below i c h)) (skips_kept n (level_of n l (rule.first i c)) w w' e z (k.skips c h));
    }
