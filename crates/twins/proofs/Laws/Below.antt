-- The levels below one that is ready: how large their numbers are, and that the level directly below connects what any of them connects.
use Prim.Native.Nat.{ℕ, suc, ◌+◌, ◌*◌, ◌-◌, ◌≤◌, ◌<◌}
use mathlib.Core.Path.{◌≡◌}
use mathlib.Core.Logic.{⊎_elim}
use mathlib.Core.List.{List}
use native.Mathlib.Nat.{eq-zero-or-pos, mul-le-mul_right}
use native.Mathlib.Omega.{arith}
use lib.ListN.{length, get_or, take}
use Rattle.rules.specs.Rule.{rule}
use Rattle.rules.specs.Levels.{number_at, level_of, max_of}
use Rattle.rules.specs.Stored.{leader}
use Rattle.rules.specs.Accept.{LevelAccepted}
use Rattle.rules.proofs.Laws.Accepted.{accepted_at, right_at, connected_number, number_connected}
use Rattle.rules.proofs.Laws.ClassCount.{classes_counted}
use Rattle.rules.proofs.Laws.Graph.{conn_le}
use Rattle.rules.proofs.Laws.Listing.{count_le}
use Rattle.rules.proofs.Laws.Numbering.{max_bounds}
use Rattle.rules.proofs.Laws.Places.{square_le}
use Rattle.rules.proofs.Laws.Lawful.{rule_laws}
use Rattle.twins.specs.Marks.{marked_graph}
use Rattle.twins.specs.Standing.{Stands, Ready}
use Rattle.twins.specs.Halves.{Searchable}
use Rattle.twins.specs.Skips.{Laid, Skips}
use Rattle.twins.proofs.Laws.Tables.{level_length}

-- a level with a split is above level 1
pub split_above : (i : ℕ) {count : ℕ} → count ≡ rule.many i → (count ≡ 0 → ⊥) → 1 < i
split_above i many k =
    let h : 0 < rule.many i = omega (arith, many, k) in
    omega (arith, rule_laws.first_some i 0 h, rule_laws.first_below i 0 h)

module _ (n i : ℕ) (levels area : List ℕ) (r : Ready n i levels area) where
  right : (j : ℕ) → 0 < j → j < i → LevelAccepted rule (marked_graph n area) j (level_of n levels)
  right j p h = accepted_at rule (marked_graph n area) (i - 1) (level_of n levels) r.below j p (omega arith)

  pub below_stands : (j : ℕ) → 0 < j → j < i → Stands n levels j
  below_stands j p h = record { some = p; room = omega (arith, mul-le-mul_right {m = j} {n = i} (n * n) (omega arith), r.room) }

  -- a number is at most the number of classes, of which there are no more than pairs
  pub below_small : (j : ℕ) → 0 < j → j < i → (w y : ℕ) → number_at n (level_of n levels j) w y < 32768
  unfolding number_at
  below_small j p h w y =
      let t = level_of n levels j in
      let size : length t ≡ n * n = level_length n levels j p (below_stands j p h).room in
      let next : (q : ℕ) → q < length t → get_or t q 0 ≤ suc (max_of (take q t)) =
      λ q l. (right_at rule (marked_graph n area) j (level_of n levels) (right j p h) q (omega (arith, size))).next in
      omega (arith, max_bounds t (w * n + y), classes_counted t next, count_le (leader (length t) t) (length t), size, square_le r.few)

  -- what level i-1 does not connect, no lower level does
  pub below_zero : (j : ℕ) → 0 < j → j < i → (v x : ℕ) → v < n → x < n → number_at n (level_of n levels (i - 1)) v x ≡ 0 → number_at n (level_of n levels j) v x ≡ 0
  below_zero j p h v x hv hx z =
      let g = marked_graph n area in
      let T = level_of n levels in
      ⊎_elim
      (λ (e : number_at n (T j) v x ≡ 0). e)
      (λ (l : 0 < number_at n (T j) v x).
      absurd (omega (
        arith,
        z,
        connected_number rule g (i - 1) T (right (i - 1) (omega arith) (omega arith)) v x hv hx
            (conn_le g j (i - 1) v x (omega arith) (number_connected rule g j T (right j p h) v x hv hx l)),
      )))
      (eq-zero-or-pos (number_at n (T j) v x))

  -- the rows of level i-1 serve every split, wherever they are written
  pub laid_some : (w : List ℕ) → Skips n (level_of n levels (i - 1)) w → Laid n i levels w
  laid_some w k =
      record {
        room = k.room;
        skips = λ c l. record {
          room = k.room;
          next_at = λ v m a b.
              let d = k.next_at v m a b in
              record {
                up = d.up;
                few = d.few;
                zeros = λ x p q. below_zero (rule.first i c) (rule_laws.first_some i c l) (rule_laws.first_below i c l) v x a (omega (arith, d.few)) (d.zeros x p q);
              };
        };
      }

  -- the midpoints of each split can be looked for
  pub searchable : Laid n i levels area → (c : ℕ) {count a : ℕ} {s : List ℕ} → count ≡ rule.many i → (i ≤ 4 → count ≤ 3) → c < count → a ≡ rule.first i c → s ≡ level_of n levels a
      → Searchable n s area c
  searchable k c many few l ea es =
      let h = rw many at l in
      rw (es, ea)
      (record {
        few = omega (arith, few r.short);
        small = below_small (rule.first i c) (rule_laws.first_some i c h) (rule_laws.first_below i c h);
        skips = k.skips c h;
      })

  -- the levels of both halves stand
  pub first_stands : (c : ℕ) {count a : ℕ} → count ≡ rule.many i → c < count → a ≡ rule.first i c → Stands n levels a
  first_stands c many l ea =
      let h = rw many at l in
      rw ea (below_stands (rule.first i c) (rule_laws.first_some i c h) (rule_laws.first_below i c h))

  pub second_stands : (c : ℕ) {count a : ℕ} → count ≡ rule.many i → c < count → a ≡ rule.second i c → Stands n levels a
  second_stands c many l ea =
      let h = rw many at l in
      rw ea (below_stands (rule.second i c) (rule_laws.second_some i c h) (rule_laws.second_below i c h))
