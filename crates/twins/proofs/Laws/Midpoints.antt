-- Lists of midpoints in every split: split by split, kept for the next search, and what two of them tell of agreement.
use Prim.Native.Nat.{ℕ, ◌+◌, ◌/◌, ◌%◌, ◌≤◌, ◌<◌}
use mathlib.Core.Path.{◌≡◌, sym, ap, ap₂, ◌∙◌}
use mathlib.Core.Logic.{⊎_elim}
use mathlib.Core.List.{List}
use mathlib.Core.Bool.{Bool, true, false, not, ◌&&◌}
use native.Mathlib.Nat.{eq-or-lt_of_le}
use native.Mathlib.Omega.{arith}
use Rattle.std.specs.Prelude.{Some, None}
use lib.ListN.{length, get_or, take}
use lib.Seq.{get_or-take, length-take-le}
use borrow.Author.Tests.{not-false}
use Rattle.rules.specs.Finite.{all_below}
use Rattle.rules.specs.Rule.{rule}
use Rattle.rules.specs.Levels.{number_at, level_of, same_ends, same_steps, twins, split_ok, agree}
use Rattle.rules.proofs.Laws.Agree.{Twins, twins_find, twins_here}
use Rattle.rules.proofs.Laws.Finite.{all_at, all_intro}
use Rattle.rules.proofs.Laws.Tests.{same, order, and_left, and_right, and_intro}
use Rattle.rules.proofs.Laws.Lawful.{rule_laws}
use Rattle.twins.specs.Marks.{marked_graph}
use Rattle.twins.specs.Standing.{Ready}
use Rattle.twins.specs.Halves.{midpoint_of, Halves, Listing, Midpoints, has_same}
use Rattle.twins.specs.Held.{Held}
use Rattle.twins.specs.declared.kept.Kept.{Kept}
use Rattle.twins.proofs.Laws.Below.{below_small}
use Rattle.twins.proofs.Laws.Halves.{find_same, found_same}

-- split by split
module _ (n i : ℕ) (levels : List ℕ) (v u : ℕ) where
  pub listing_start : (list : List ℕ) → Listing n i levels v u 0 0 list
  listing_start list = record { few = omega arith; sound = λ j h. absurd (omega arith); complete = λ d w h l a b. absurd (omega arith) }

  pub listing_more : (c k k' : ℕ) (list list' : List ℕ) {a b : ℕ} → n ≤ 128 → a ≡ rule.first i c → b ≡ rule.second i c → Listing n i levels v u c k list
      → Halves n (level_of n levels a) (level_of n levels b) c v u n k list k' list' → Listing n i levels v u (c + 1) k' list'
  listing_more c k k' list list' {a} {b} few ea eb ls hs =
      let s = level_of n levels (rule.first i c) in
      let t = level_of n levels (rule.second i c) in
      let hs' : Halves n s t c v u n k list k' list' = rw (← ea, ← eb) hs in
      record {
        few = omega (arith, ls.few, hs.few);
        sound = λ j h. ⊎_elim
            (λ (l : j < k).
            let r = ls.sound j l in
            rw (hs.kept j l) (record { split = r.split; before = omega (arith, r.before); half = r.half }))
            (λ (g : k ≤ j). record { split = c; before = omega arith; half = hs'.sound j g h })
            (order j k);
        complete = λ d w h l. ⊎_elim
            (λ (e : d ≡ c). rw e (hs'.complete w l))
            (λ (g : d < c) p q.
            let r = ls.complete d w g l p q in
            record { place = r.place; below = omega (arith, r.below, hs.up); is = hs.kept r.place r.below ∙ r.is })
            (eq-or-lt_of_le (omega arith));
      }

  -- all splits are listed
  pub listing_done : (area : List ℕ) (c k : ℕ) (list : List ℕ) {count : ℕ} → Ready n i levels area → count ≡ rule.many i → (i ≤ 4 → count ≤ 3) → c ≤ count → count ≤ c
      → 384 ≤ length list → Listing n i levels v u c k list → Midpoints n i levels v u k list
  listing_done area c k list {count} r many few a b room ls =
      let e : c ≡ rule.many i = omega (arith, many) in
      record {
        few = omega (arith, ls.few, few r.short);
        short = omega (arith, ls.few, few r.short);
        small = below_small n i levels area r;
        listing = rw e at ls;
      }

-- a list with the same at the front
pub midpoints_same : (n i : ℕ) (levels : List ℕ) (v u k : ℕ) (list list' : List ℕ) → k ≤ length list' → ((j : ℕ) → j < k → get_or list' j 0 ≡ get_or list j 0)
    → Midpoints n i levels v u k list → Midpoints n i levels v u k list'
midpoints_same n i levels v u k list list' z e h =
    record {
      few = z;
      short = h.short;
      small = h.small;
      listing = record {
        few = h.listing.few;
        sound = λ j l. rw (e j l) (h.listing.sound j l);
        complete = λ d w l g a b.
            let r = h.listing.complete d w l g a b in
            record { place = r.place; below = r.below; is = e r.place r.below ∙ r.is };
      };
    }

-- the list cut to their number
pub midpoints_cut : (n i : ℕ) (levels : List ℕ) (v u k : ℕ) (list : List ℕ) → Midpoints n i levels v u k list → Midpoints n i levels v u (length (take k list)) (take k list)
midpoints_cut n i levels v u k list h =
    let e : length (take k list) ≡ k = length-take-le k list h.few in
    rw e (midpoints_same n i levels v u k list (take k list) (omega (arith, e)) (λ j l. get_or-take k list j 0 l) h)

-- a list that tells nothing yet
pub held_none : (n i : ℕ) (levels : List ℕ) (kept : Kept) → kept.position ≡ None → Held n i levels kept
held_none n i levels kept e = record { listed = λ q h. absurd (let z : Some q ≡ None = sym h ∙ e in cc) }

-- the list tells of p
pub held_new : (n i : ℕ) (levels : List ℕ) (kept : Kept) (p : ℕ) → kept.position ≡ Some p → Midpoints n i levels (p / n) (p % n) kept.many kept.list → Held n i levels kept
held_new n i levels kept p e m = record { listed = λ q h. let d : q ≡ p = (let z : Some q ≡ Some p = sym h ∙ e in cc) in rw d m }

-- what the levels below give stays while they do
pub held_kept : (n i : ℕ) (l l' : List ℕ) (kept : Kept) → ((j : ℕ) → j < i → level_of n l' j ≡ level_of n l j) → Held n i l kept → Held n i l' kept
held_kept n i l l' kept below h = record { listed = λ q e. stays (q / n) (q % n) kept.many (h.listed q e) }
  where
    stays : (v u k : ℕ) → Midpoints n i l v u k kept.list → Midpoints n i l' v u k kept.list
    stays v u k m =
        record {
          few = m.few;
          short = m.short;
          small = λ j p h. rw (below j h) (m.small j p h);
          listing = record {
            few = m.listing.few;
            sound = λ j h.
                let r = m.listing.sound j h in
                record {
                  split = r.split;
                  before = r.before;
                  half = rw (below (rule.first i r.split) (rule_laws.first_below i r.split r.before), below (rule.second i r.split) (rule_laws.second_below i r.split r.before)) r.half;
                };
            complete = λ d w h. rw (below (rule.first i d) (rule_laws.first_below i d h), below (rule.second i d) (rule_laws.second_below i d h)) (m.listing.complete d w h);
          };
        }

-- split and numbers are told from the number of a midpoint
apart : (c a b d e f : ℕ) → a < 32768 → b < 32768 → e < 32768 → f < 32768 → midpoint_of c a b ≡ midpoint_of d e f → (c ≡ d) × (a ≡ e) × (b ≡ f)
apart c a b d e f ha hb he hf h = (omega arith, omega arith, omega arith)

-- a list stands within another exactly if in every split each midpoint has a twin
module _ (n i : ℕ) (levels : List ℕ) (v u x y k j : ℕ) (mine other : List ℕ) (hm : Midpoints n i levels v u k mine) (ho : Midpoints n i levels x y j other) where
  abbrev first : ℕ → List ℕ
  first c = level_of n levels (rule.first i c)

  abbrev second : ℕ → List ℕ
  second c = level_of n levels (rule.second i c)

  pub within_twins : all_below k (has_same mine other j) ≡ true → (c : ℕ) → c < rule.many i → Twins n (first c) (second c) v u x y
  within_twins t c h = record { twin = twin }
    where
      small_first : (d : ℕ) → d < rule.many i → (w z : ℕ) → number_at n (first d) w z < 32768
      small_first d l = hm.small (rule.first i d) (rule_laws.first_some i d l) (rule_laws.first_below i d l)

      small_second : (d : ℕ) → d < rule.many i → (w z : ℕ) → number_at n (second d) w z < 32768
      small_second d l = hm.small (rule.second i d) (rule_laws.second_some i d l) (rule_laws.second_below i d l)

      twin : (m : ℕ) → m < n → 0 < number_at n (first c) v m → 0 < number_at n (second c) m u
          → (w : ℕ) × (w < n) × (number_at n (first c) v m ≡ number_at n (first c) x w) × (number_at n (second c) m u ≡ number_at n (second c) w y)
      twin m l a b =
          let p = hm.listing.complete c m h l a b in
          let q = find_same mine other j p.place (all_at k (has_same mine other j) t p.place p.below) in
          let r = ho.listing.sound q.place q.below in
          let d = r.split in
          let w = r.half.item in
          let e = apart c (number_at n (first c) v m) (number_at n (second c) m u) d (number_at n (first d) x w) (number_at n (second d) w y)
          (small_first c h v m) (small_second c h m u) (small_first d r.before x w) (small_second d r.before w y)
          (sym p.is ∙ sym q.is ∙ r.half.is) in (
            w,
            r.half.below,
            e.1 ∙ ap (λ (z : ℕ). number_at n (first z) x w) (sym e.0),
            e.2 ∙ ap (λ (z : ℕ). number_at n (second z) w y) (sym e.0),
          )

  pub twins_within : ((c : ℕ) → c < rule.many i → Twins n (first c) (second c) v u x y) → all_below k (has_same mine other j) ≡ true
  twins_within f = all_intro k (has_same mine other j) here
    where
      here : (p : ℕ) → p < k → has_same mine other j p ≡ true
      here p l =
          let r = hm.listing.sound p l in
          let c = r.split in
          let w = (f c r.before).twin r.half.item r.half.below r.half.first r.half.second in
          let q = ho.listing.complete c w.0 r.before w.1 (omega (arith, w.2, r.half.first)) (omega (arith, w.3, r.half.second)) in
          found_same mine other j p q.place q.below (q.is ∙ ap₂ (midpoint_of c) (sym w.2) (sym w.3) ∙ sym r.half.is)

-- the search over the lists is that over the splits
module _ (n : ℕ) (area : List ℕ) (i : ℕ) (levels : List ℕ) (v u x y k j : ℕ) (mine other : List ℕ)
    (hm : Midpoints n i levels v u k mine) (ho : Midpoints n i levels x y j other) where
  abbrev lists : Bool
  lists = all_below k (has_same mine other j) && all_below j (has_same other mine k)

  splits_lists : all_below (rule.many i) (split_ok rule (marked_graph n area) i (level_of n levels) v u x y) ≡ lists
  unfolding split_ok
  splits_lists =
      let s : ℕ → List ℕ = λ c. level_of n levels (rule.first i c) in
      let t : ℕ → List ℕ = λ c. level_of n levels (rule.second i c) in
      let ok = split_ok rule (marked_graph n area) i (level_of n levels) v u x y in
      let there = all_below k (has_same mine other j) in
      let back = all_below j (has_same other mine k) in
      same (all_below (rule.many i) ok) lists
      (λ a. and_intro there back
      (twins_within n i levels v u x y k j mine other hm ho
      (λ c h. twins_find n (s c) (t c) v u x y (and_left (twins n (s c) (t c) v u x y) (twins n (s c) (t c) x y v u) (all_at (rule.many i) ok a c h))))
      (twins_within n i levels x y v u j k other mine ho hm
      (λ c h. twins_find n (s c) (t c) x y v u (and_right (twins n (s c) (t c) v u x y) (twins n (s c) (t c) x y v u) (all_at (rule.many i) ok a c h)))))
      (λ a. all_intro (rule.many i) ok
      (λ c h. and_intro (twins n (s c) (t c) v u x y) (twins n (s c) (t c) x y v u)
      (twins_here n (s c) (t c) v u x y (within_twins n i levels v u x y k j mine other hm ho (and_left there back a) c h))
      (twins_here n (s c) (t c) x y v u (within_twins n i levels x y v u j k other mine ho hm (and_right there back a) c h))))

  pub agree_lists : {r s b : Bool} → r ≡ same_ends (marked_graph n area) v u x y → not r ≡ false → s ≡ same_steps (marked_graph n area) v u x y → not s ≡ false
      → b ≡ lists → b ≡ agree rule (marked_graph n area) i (level_of n levels) v u x y
  unfolding agree
  agree_lists {r} {s} {b} h k' h' k'' e = rw (sym h ∙ not-false r k', sym h' ∙ not-false s k'', splits_lists) e
