-- Chains of positions in the area: those of one bucket, the latest first. Alike positions have one bucket.
use Rattle.std.specs.Prelude.{ℕ, zero, suc, ◌+◌, ◌*◌, ◌/◌, ◌%◌, ◌≤◌, ◌<◌, max, ◌≡◌, List, Bool, true, false, ◌||◌, cond, eqb, get_or, take, Option, Some, None}
use Rattle.rules.specs.Finite.{any_below}
use Rattle.rules.specs.Rule.{rule}
use Rattle.rules.specs.Levels.{number_at, level_of, matches}
use Rattle.twins.specs.Halves.{midpoint_of}
unfoldable pub use Rattle.packing.specs.Words.{word, set_word}

-- behind the marks and the bytes of connected pairs: a link for each position, then a head for each bucket
unfoldable pub link_of : ℕ → List ℕ → ℕ → ℕ
link_of n area q = word area (2 * (n * n) + 2 * q)

unfoldable pub head_of : ℕ → List ℕ → ℕ → ℕ
head_of n area b = word area (4 * (n * n) + 2 * b)

-- x is met along the links from a number that is one above a position, or 0 at the end
pub data Linked (link : ℕ → ℕ) : ℕ → ℕ → Type 0 where
  here : {q : ℕ} → Linked link (suc q) q
  next : {q x : ℕ} → Linked link (link q) x → Linked link (suc q) x

-- a position of a chain: before p, in, and its link leads down
pub record Met (is_in : ℕ → Bool) (link : ℕ → ℕ) (p x : ℕ) : Type 0 where
  pub before : x < p
  pub is_in_lem : is_in x ≡ true
  pub down : link x ≤ x

-- a position of a chain that is alike q
pub record Stored (alike : ℕ → ℕ → Bool) (link : ℕ → ℕ) (start q : ℕ) : Type 0 where
  pub at : ℕ
  pub linked : Linked link start at
  pub same : alike at q ≡ true

-- the chains hold, of each position before p that is in, one that is alike it
pub record Chains (is_in : ℕ → Bool) (alike : ℕ → ℕ → Bool) (bucket : ℕ → ℕ) (n : ℕ) (area : List ℕ) (p : ℕ) : Type 0 where
  pub sound : (b x : ℕ) → b < n * n → Linked (link_of n area) (head_of n area b) x → Met is_in (link_of n area) p x
  pub complete : (q : ℕ) → q < p → is_in q ≡ true → Stored alike (link_of n area) (head_of n area (bucket q)) q

-- an earlier position alike p; or there is none
pub record Answer (is_in : ℕ → Bool) (alike : ℕ → ℕ → Bool) (p : ℕ) (r : Option ℕ) : Type 0 where
  pub found : (q : ℕ) → r ≡ Some q → (q < p) × (is_in q ≡ true) × (alike q p ≡ true)
  pub none : r ≡ None → any_below p (matches is_in alike p) ≡ false

-- the marks of a pair, there and back, as one number
unfoldable pub key_of : ℕ → List ℕ → ℕ → ℕ
key_of n area p = get_or (take (n * n) area) p 0 + 256 * get_or (take (n * n) area) (p % n * n + p / n) 0

-- a hash of a midpoint's number: any function would serve
unfoldable pub mix_of : ℕ → ℕ
mix_of x = (x / 4294967296 * 2654435761 % 4294967296 + x % 4294967296 * 2246822519 % 4294967296) % 4294967296

-- the hash turned by k
unfoldable pub hash_of : ℕ → ℕ → ℕ
hash_of k x = (mix_of x + k) % 4294967296

-- of a midpoint the hash of its number, else 0
unfoldable pub mid_hash : ℕ → ℕ → List ℕ → List ℕ → ℕ → ℕ → ℕ → ℕ → ℕ
mid_hash k n s t c v u m = cond (eqb (number_at n s v m) 0 || eqb (number_at n t m u) 0) 0 (hash_of k (midpoint_of c (number_at n s v m) (number_at n t m u)))

-- the largest of f 0, f 1, .. below the bound
unfoldable pub most_below : ℕ → (ℕ → ℕ) → ℕ
most_below zero f = 0
most_below (suc n) f = max (most_below n f) (f n)

-- four numbers, each the larger of what it was and a turn of the hash of x
pub record Raised (x a b c d a' b' c' d' : ℕ) : Type 0 where
  pub none : a' ≡ max a (hash_of 0 x)
  pub quarter : b' ≡ max b (hash_of 1073741824 x)
  pub half : c' ≡ max c (hash_of 2147483648 x)
  pub most : d' ≡ max d (hash_of 3221225472 x)

-- the hash, turned by k, of place j of a list
unfoldable pub hash_at : List ℕ → ℕ → ℕ → ℕ
hash_at list k j = hash_of k (get_or list j 0)

-- the largest hashes of the first k of the list, by four turns
pub record Mosts (list : List ℕ) (k a b c d : ℕ) : Type 0 where
  pub none : a ≡ most_below k (hash_at list 0)
  pub quarter : b ≡ most_below k (hash_at list 1073741824)
  pub half : c ≡ most_below k (hash_at list 2147483648)
  pub most : d ≡ most_below k (hash_at list 3221225472)

-- the largest hash, turned by k, of the midpoints of (v,u) in split c of level i
unfoldable pub split_most : ℕ → ℕ → List ℕ → ℕ → ℕ → ℕ → ℕ → ℕ
split_most n i levels v u k c = most_below n (mid_hash k n (level_of n levels (rule.first i c)) (level_of n levels (rule.second i c)) c v u)

-- in every split
unfoldable pub pair_most : ℕ → ℕ → List ℕ → ℕ → ℕ → ℕ → ℕ
pair_most n i levels v u k = most_below (rule.many i) (split_most n i levels v u k)

-- four turns together
unfoldable pub four_of : (ℕ → ℕ) → ℕ
four_of f = f 0 + f 1073741824 + f 2147483648 + f 3221225472

-- the largest hashes of the midpoints of the pair at p, by four turns together
unfoldable pub most_of : ℕ → ℕ → List ℕ → ℕ → ℕ
most_of n i levels p = four_of (pair_most n i levels (p / n) (p % n))

unfoldable pub bucket_of : ℕ → ℕ → List ℕ → List ℕ → ℕ → ℕ
bucket_of n i levels area p = (key_of n area p + most_of n i levels p) % (n * n)
