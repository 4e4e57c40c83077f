-- Positions that agree have one bucket, whatever the hash.
use Prim.Native.Nat.{ℕ, zero, suc, ◌+◌, ◌*◌, ◌/◌, ◌%◌, ◌≤◌, ◌<◌, max}
use mathlib.Core.Path.{◌≡◌, refl, sym, ap, ap₂, ◌∙◌}
use mathlib.Core.Logic.{◌⊎◌, inl, inr, ⊎_elim}
use mathlib.Core.List.{List}
use mathlib.Core.Bool.{true}
use native.Mathlib.Nat.{le_antisymm, le_trans, div-add-mod', mod-lt, eq-zero-or-pos}
use native.Mathlib.Numerals.{add-one}
use native.Mathlib.Omega.{arith}
use lib.ListN.{get_or}
use lib.Seq.{get_or-take}
use borrow.Author.Tests.{eq-eqb, ne_eqb}
use Rattle.rules.specs.Rule.{rule}
use Rattle.rules.specs.Levels.{number_at, level_of, agree_at}
use Rattle.rules.proofs.Laws.Finite.{below_cases}
use Rattle.rules.proofs.Laws.Places.{place_lt, row_lt, column_lt}
use Rattle.rules.proofs.Laws.Agree.{Twins, Agree, agree_find}
use Rattle.rules.proofs.Laws.Ends.{steps_here}
use Rattle.rules.proofs.Laws.Lawful.{rule_laws}
use Rattle.twins.specs.Marks.{marked_graph}
use Rattle.twins.specs.Chains.{key_of, mix_of, hash_of, mid_hash, most_below, Raised, hash_at, Mosts, split_most, pair_most, four_of, most_of, bucket_of}
use Rattle.twins.specs.Halves.{midpoint_of, Midpoints}
use Rattle.twins.proofs.Laws.Marks.{steps_there, steps_back}

-- the largest below a bound
most_more : (n : ℕ) (f : ℕ → ℕ) → max (most_below n f) (f n) ≡ most_below (n + 1) f
unfolding most_below
most_more n f = rw add-one refl

most_at : (n : ℕ) (f : ℕ → ℕ) (m : ℕ) → m < n → f m ≤ most_below n f
unfolding most_below
most_at zero f m h = absurd (omega arith)
most_at (suc n) f m h = ⊎_elim (λ (e : m ≡ n). rw e (omega arith)) (λ (l : m < n). omega (arith, most_at n f m l)) (below_cases h)

most_bound : (n : ℕ) (f : ℕ → ℕ) (k : ℕ) → ((m : ℕ) → m < n → f m ≤ k) → most_below n f ≤ k
unfolding most_below
most_bound zero f k h = omega arith
most_bound (suc n) f k h = omega (arith, most_bound n f k (λ m l. h m (omega arith)), h n (omega arith))

most_alike : (n : ℕ) (f g : ℕ → ℕ) → ((m : ℕ) → m < n → f m ≡ g m) → most_below n f ≡ most_below n g
unfolding most_below
most_alike zero f g h = refl
most_alike (suc n) f g h = ap₂ max (most_alike n f g (λ m l. h m (omega arith))) (h n (omega arith))

-- of one midpoint
module _ (k n : ℕ) (s t : List ℕ) (c v u m : ℕ) where
  mid_first : number_at n s v m ≡ 0 → mid_hash k n s t c v u m ≡ 0
  unfolding mid_hash
  mid_first z = rw (eq-eqb (number_at n s v m) 0 z) refl

  mid_second : 0 < number_at n s v m → number_at n t m u ≡ 0 → mid_hash k n s t c v u m ≡ 0
  unfolding mid_hash
  mid_second l z = rw (ne_eqb (number_at n s v m) 0 (λ q. omega arith), eq-eqb (number_at n t m u) 0 z) refl

  mid_both : 0 < number_at n s v m → 0 < number_at n t m u → mid_hash k n s t c v u m ≡ hash_of k (midpoint_of c (number_at n s v m) (number_at n t m u))
  unfolding mid_hash
  mid_both a b = rw (ne_eqb (number_at n s v m) 0 (λ q. omega arith), ne_eqb (number_at n t m u) 0 (λ q. omega arith)) refl

  -- where every midpoint's hash is below a bound, so are all
  mid_bound : (most : ℕ) → (0 < number_at n s v m → 0 < number_at n t m u → hash_of k (midpoint_of c (number_at n s v m) (number_at n t m u)) ≤ most) → mid_hash k n s t c v u m ≤ most
  mid_bound most f = at (eq-zero-or-pos (number_at n s v m)) (eq-zero-or-pos (number_at n t m u))
    where
      at : (number_at n s v m ≡ 0) ⊎ (0 < number_at n s v m) → (number_at n t m u ≡ 0) ⊎ (0 < number_at n t m u) → mid_hash k n s t c v u m ≤ most
      at (inl z) b = omega (arith, mid_first z)
      at (inr a) (inl z) = omega (arith, mid_second a z)
      at (inr a) (inr b) = omega (arith, mid_both a b, f a b)

-- twins one way: no midpoint has a larger hash
most_twins : (k n : ℕ) (s t : List ℕ) (c v u x y : ℕ) → Twins n s t v u x y → most_below n (mid_hash k n s t c v u) ≤ most_below n (mid_hash k n s t c x y)
most_twins k n s t c v u x y tw =
    let most = most_below n (mid_hash k n s t c x y) in
    most_bound n (mid_hash k n s t c v u) most
    (λ m h. mid_bound k n s t c v u m most
    (λ a b.
    let r = tw.twin m h a b in
    let e = mid_both k n s t c x y r.0 (omega (arith, r.2)) (omega (arith, r.3)) in
    omega (arith, e, ap (hash_of k) (ap₂ (midpoint_of c) r.2 r.3), most_at n (mid_hash k n s t c x y) r.0 r.1)))

four_same : (f g : ℕ → ℕ) → ((k : ℕ) → f k ≡ g k) → four_of f ≡ four_of g
unfolding four_of
four_same f g e = ap₂ ◌+◌ (ap₂ ◌+◌ (ap₂ ◌+◌ (e 0) (e 1073741824)) (e 2147483648)) (e 3221225472)

-- the largest hashes are those of the levels below
pub most_kept : (n i : ℕ) (l l' : List ℕ) → ((j : ℕ) → j < i → level_of n l' j ≡ level_of n l j) → (p : ℕ) → most_of n i l' p ≡ most_of n i l p
unfolding most_of pair_most split_most
most_kept n i l l' below p =
    four_same (pair_most n i l' (p / n) (p % n)) (pair_most n i l (p / n) (p % n))
    (λ k. most_alike (rule.many i) (split_most n i l' (p / n) (p % n) k) (split_most n i l (p / n) (p % n) k) (λ c h. split_kept k c h))
  where
    split_kept : (k c : ℕ) → c < rule.many i → split_most n i l' (p / n) (p % n) k c ≡ split_most n i l (p / n) (p % n) k c
    split_kept k c h =
        ap₂ (λ (s t : List ℕ). most_below n (mid_hash k n s t c (p / n) (p % n))) (below (rule.first i c) (rule_laws.first_below i c h)) (below (rule.second i c) (rule_laws.second_below i c h))

module _ (n i : ℕ) (levels area : List ℕ) (bytes : (q : ℕ) → get_or area q 0 < 256) where
  -- twins both ways: one largest hash in each split
  split_same : (p q k c : ℕ) → c < rule.many i → Agree rule (marked_graph n area) i (level_of n levels) (p / n) (p % n) (q / n) (q % n)
      → split_most n i levels (p / n) (p % n) k c ≡ split_most n i levels (q / n) (q % n) k c
  unfolding split_most
  split_same p q k c h a =
      let s = level_of n levels (rule.first i c) in
      let t = level_of n levels (rule.second i c) in
      le_antisymm (most_twins k n s t c (p / n) (p % n) (q / n) (q % n) (a.there c h)) (most_twins k n s t c (q / n) (q % n) (p / n) (p % n) (a.back c h))

  most_same : (p q : ℕ) → Agree rule (marked_graph n area) i (level_of n levels) (p / n) (p % n) (q / n) (q % n) → most_of n i levels p ≡ most_of n i levels q
  unfolding most_of pair_most
  most_same p q a =
      four_same (pair_most n i levels (p / n) (p % n)) (pair_most n i levels (q / n) (q % n))
      (λ k. most_alike (rule.many i) (split_most n i levels (p / n) (p % n) k) (split_most n i levels (q / n) (q % n) k) (λ c h. split_same p q k c h a))

  pub key_read : (p : ℕ) → p < n * n → get_or area (p / n * n + p % n) 0 + 256 * get_or area (p % n * n + p / n) 0 ≡ key_of n area p
  unfolding key_of
  key_read p h =
      ap₂ (λ (a b : ℕ). a + 256 * b)
      (ap (λ (z : ℕ). get_or area z 0) (div-add-mod' p n) ∙ sym (get_or-take (n * n) area p 0 h))
      (sym (get_or-take (n * n) area (p % n * n + p / n) 0 (place_lt n (p % n) (p / n) (column_lt n p h) (row_lt n p h))))

  key_same : (p q : ℕ) → p < n * n → q < n * n → Agree rule (marked_graph n area) i (level_of n levels) (p / n) (p % n) (q / n) (q % n) → key_of n area p ≡ key_of n area q
  key_same p q hp hq a =
      let t = steps_here (marked_graph n area) (p / n) (p % n) (q / n) (q % n) a.steps in
      let rp = row_lt n p hp in
      let cp = column_lt n p hp in
      let rq = row_lt n q hq in
      let cq = column_lt n q hq in
      sym (key_read p hp)
      ∙ ap₂ (λ (a b : ℕ). a + 256 * b)
      (steps_there n area (p / n) (p % n) (q / n) (q % n) rp cp rq cq (bytes _) (bytes _) t)
      (steps_back n area (p / n) (p % n) (q / n) (q % n) rp cp rq cq (bytes _) (bytes _) t)
      ∙ key_read q hq

  pub bucket_same : (p q : ℕ) → p < n * n → q < n * n → agree_at rule (marked_graph n area) i (level_of n levels) p q ≡ true → bucket_of n i levels area p ≡ bucket_of n i levels area q
  unfolding bucket_of agree_at
  bucket_same p q hp hq t =
      let a = agree_find rule (marked_graph n area) i (level_of n levels) (p / n) (p % n) (q / n) (q % n) t in
      ap (λ (z : ℕ). z % (n * n)) (ap₂ ◌+◌ (key_same p q hp hq a) (most_same p q a))

pub bucket_lt : (n i : ℕ) (levels area : List ℕ) (p q : ℕ) → p < n * n → bucket_of n i levels area q < n * n
unfolding bucket_of
bucket_lt n i levels area p q h = mod-lt _ (omega arith)

-- one turn of a hash raises one number
pub turn_up : (k x a : ℕ) {y z r : ℕ} → y ≡ mix_of x → z ≡ (y + k) % 4294967296 → r ≡ max a z → r ≡ max a (hash_of k x)
unfolding hash_of
turn_up k x a ey ez er = er ∙ ap (λ (w : ℕ). max a w) (ez ∙ ap (λ (w : ℕ). (w + k) % 4294967296) ey)

-- the search for the largest hashes of a list: its start and its turn
pub mosts_start : (list : List ℕ) → Mosts list 0 0 0 0 0
unfolding most_below
mosts_start list = record { none = refl; quarter = refl; half = refl; most = refl }

most_next : (list : List ℕ) (k j : ℕ) {a b : ℕ} → a ≡ most_below j (hash_at list k) → b ≡ max a (hash_of k (get_or list j 0)) → b ≡ most_below (j + 1) (hash_at list k)
unfolding hash_at
most_next list k j e f = f ∙ ap (λ (z : ℕ). max z (hash_of k (get_or list j 0))) e ∙ most_more j (hash_at list k)

pub mosts_more : (list : List ℕ) (j : ℕ) {a b c d a' b' c' d' : ℕ} → Mosts list j a b c d → Raised (get_or list j 0) a b c d a' b' c' d' → Mosts list (j + 1) a' b' c' d'
mosts_more list j m r =
    record {
      none = most_next list 0 j m.none r.none;
      quarter = most_next list 1073741824 j m.quarter r.quarter;
      half = most_next list 2147483648 j m.half r.half;
      most = most_next list 3221225472 j m.most r.most;
    }

-- each is below 2^32
hash_small : (list : List ℕ) (turn j : ℕ) → hash_at list turn j < 4294967296
unfolding hash_at hash_of
hash_small list turn j = mod-lt _ (omega arith)

pub most_small : (list : List ℕ) (k turn : ℕ) {a : ℕ} → a ≡ most_below k (hash_at list turn) → a < 4294967296
most_small list k turn e = omega (arith, most_bound k (hash_at list turn) 4294967295 (λ j h. omega (arith, hash_small list turn j)))

-- the list of the midpoints has their largest hash
module _ (n i : ℕ) (levels : List ℕ) (v u k : ℕ) (list : List ℕ) (hm : Midpoints n i levels v u k list) (turn : ℕ) where
  abbrev hash : ℕ → ℕ → ℕ
  hash c = mid_hash turn n (level_of n levels (rule.first i c)) (level_of n levels (rule.second i c)) c v u

  mid_le : (c m : ℕ) → c < rule.many i → m < n → hash c m ≤ pair_most n i levels v u turn
  unfolding pair_most split_most
  mid_le c m h l = le_trans (most_at n (hash c) m l) (most_at (rule.many i) (split_most n i levels v u turn) c h)

  listed_le : (j : ℕ) → j < k → hash_at list turn j ≤ pair_most n i levels v u turn
  unfolding hash_at
  listed_le j h =
      let r = hm.listing.sound j h in
      let c = r.split in
      let m = r.half.item in
      let e = mid_both turn n (level_of n levels (rule.first i c)) (level_of n levels (rule.second i c)) c v u m r.half.first r.half.second in
      omega (arith, ap (hash_of turn) r.half.is, e, mid_le c m r.before r.half.below)

  split_le : (c : ℕ) → c < rule.many i → split_most n i levels v u turn c ≤ most_below k (hash_at list turn)
  unfolding split_most hash_at
  split_le c h =
      most_bound n (hash c) (most_below k (hash_at list turn))
      (λ m l. mid_bound turn n (level_of n levels (rule.first i c)) (level_of n levels (rule.second i c)) c v u m (most_below k (hash_at list turn))
      (λ a b.
      let r = hm.listing.complete c m h l a b in
      omega (arith, ap (hash_of turn) r.is, most_at k (hash_at list turn) r.place r.below)))

  list_most : most_below k (hash_at list turn) ≡ pair_most n i levels v u turn
  unfolding pair_most
  list_most =
      le_antisymm
      (most_bound k (hash_at list turn) (pair_most n i levels v u turn) listed_le)
      (most_bound (rule.many i) (split_most n i levels v u turn) (most_below k (hash_at list turn)) split_le)

-- the hashes of the list are those of the position
pub listed_most : (n i : ℕ) (levels : List ℕ) (p k : ℕ) (list : List ℕ) → Midpoints n i levels (p / n) (p % n) k list → {a b c d : ℕ} → Mosts list k a b c d
    → a + b + c + d ≡ most_of n i levels p
unfolding most_of four_of
listed_most n i levels p k list hm m =
    let is = list_most n i levels (p / n) (p % n) k list hm in
    ap₂ ◌+◌ (ap₂ ◌+◌ (ap₂ ◌+◌ (m.none ∙ is 0) (m.quarter ∙ is 1073741824)) (m.half ∙ is 2147483648)) (m.most ∙ is 3221225472)

-- what the bucket of a position is
pub bucket_is : (n i : ℕ) (levels area : List ℕ) (p : ℕ) → p < n * n → ((q : ℕ) → get_or area q 0 < 256) → {x y h : ℕ}
    → x ≡ get_or area (p / n * n + p % n) 0 → y ≡ get_or area (p % n * n + p / n) 0 → h ≡ most_of n i levels p
    → ((x + 256 * y + h) % (n * n) ≡ bucket_of n i levels area p) × ((x + 256 * y + h) % (n * n) < n * n)
unfolding bucket_of
bucket_is n i levels area p hp bytes {x} {y} {h} ex ey eh = (
  ap (λ (z : ℕ). z % (n * n)) (ap₂ ◌+◌ (ap₂ (λ (a b : ℕ). a + 256 * b) ex ey ∙ key_read n i levels area bytes p hp) eh),
  mod-lt (x + 256 * y + h) (omega arith),
)

-- what the code of the hash gives
pub mix_is : (x : ℕ) → ((x / 4294967296 * 2654435761 % 4294967296 + x % 4294967296 * 2246822519 % 4294967296) % 4294967296 ≡ mix_of x) × ((x / 4294967296 * 2654435761 % 4294967296 + x % 4294967296 * 2246822519 % 4294967296) % 4294967296 < 4294967296)
unfolding mix_of
mix_is x = (refl, mod-lt _ (omega arith))
