-- Reading a number digit by digit: a turn of the loop that reads, and how large a number can be.
-- Assumes nothing.
use mathlib.Core.Path.{◌≡◌, refl, sym, ap, ◌∙◌}
use mathlib.Core.List.{List}
use mathlib.Core.Bool.{Bool, true, false}
use Prim.Native.Nat.{ℕ, zero, suc, ◌+◌, ◌*◌, ◌^◌, ◌≤◌, ◌<◌}
use native.Mathlib.Nat.{pow-suc, pow-le-pow_right}
use native.Mathlib.Decide.{le_ind}
use native.Mathlib.Numerals.{add-one}
use native.Mathlib.Omega.{arith}
use lib.Dec.{ltb}
use lib.ListN.{length, get_or, drop, get_or-eq_default}
use lib.Seq.{get_or-drop}
use borrow.Author.Tests.{ltb-true, ltb-false}
use Rattle.hexa.specs.Digits.{past_end, value_of, and_digit, number_at}
use Rattle.std.specs.Prelude.{Option, Some, None, unwrap_or, slice_get}
use Rattle.std.proofs.lemmas.Option.{get_or_from_slice_get, unwrap_or-slice_get}
use Rattle.hexa.proofs.Laws.Digit.{digit_of_value}

-- before the first digit
pub number_none : (s : List ℕ) (at : ℕ) → number_at s at 0 ≡ Some 0
unfolding number_at
number_none s at = refl

-- one digit more
pub number_more : (s : List ℕ) (at d x v : ℕ) → number_at s at d ≡ Some x → value_of (get_or s (at + d) past_end) ≡ Some v → number_at s at (suc d) ≡ Some (x * 16 + v)
unfolding number_at and_digit
number_more s at d x v e f = rw (e, f)

-- a byte that is no digit ends it, whatever stands behind
none_next : (s : List ℕ) (at d x : ℕ) → number_at s at d ≡ Some x → value_of (get_or s (at + d) past_end) ≡ None → number_at s at (suc d) ≡ None
unfolding number_at and_digit
none_next s at d x e f = rw (e, f)

none_more : (s : List ℕ) (at d : ℕ) → number_at s at d ≡ None → number_at s at (suc d) ≡ None
unfolding number_at and_digit
none_more s at d e = rw e

pub number_lost : (s : List ℕ) (at i d x : ℕ) → i < d → number_at s at i ≡ Some x → value_of (get_or s (at + i) past_end) ≡ None → number_at s at d ≡ None
number_lost s at i d x h e f = le_ind (λ (m : ℕ). number_at s at m ≡ None) (none_next s at i x e f) (λ m _ p. none_more s at m p) d h

-- reading behind n bytes is reading at a place n further on
pub number_drop : (s : List ℕ) (n at d : ℕ) → number_at (drop n s) at d ≡ number_at s (n + at) d
unfolding number_at
number_drop s n at zero = refl
number_drop s n at (suc d) =
    let b : get_or (drop n s) (at + d) past_end ≡ get_or s (n + at + d) past_end = get_or-drop n s (at + d) past_end ∙ ap (λ (k : ℕ). get_or s k past_end) (omega arith) in
    ap (λ (r : Option ℕ). and_digit r (value_of (get_or (drop n s) (at + d) past_end))) (number_drop s n at d) ∙ ap (λ (x : ℕ). and_digit (number_at s (n + at) d) (value_of x)) b

-- a number of one digit more, taken apart: what was read before it, and the digit
pub record Parts (r t : Option ℕ) (x : ℕ) : Type 0 where
  pub before : ℕ
  pub value : ℕ
  pub was : r ≡ Some before
  pub last : t ≡ Some value
  pub sum : x ≡ before * 16 + value

parts : (r t : Option ℕ) (x : ℕ) → and_digit r t ≡ Some x → Parts r t x
unfolding and_digit
parts (Some m) (Some v) x e = record { before = m; value = v; was = refl; last = refl; sum = cc }
parts (Some m) None x e = absurd (cc)
parts None t x e = absurd (cc)

pub number_parts : (s : List ℕ) (at d x : ℕ) → number_at s at (suc d) ≡ Some x → Parts (number_at s at d) (value_of (get_or s (at + d) past_end)) x
unfolding number_at
number_parts s at d x e = parts _ _ x e

-- past the end stands no digit, so a number that was read lies within the line, and one that would not is none
by_end : (s : List ℕ) (i v : ℕ) (t : Bool) → ltb i (length s) ≡ t → value_of (get_or s i past_end) ≡ Some v → i < length s
unfolding value_of
by_end s i v true e f = ltb-true _ _ e
by_end s i v false e f =
    let g = rw (get_or-eq_default s past_end (ltb-false i (length s) e)) at f in
    absurd (cc)

pub number_within : (s : List ℕ) (at d x : ℕ) → number_at s at (suc d) ≡ Some x → at + d < length s
number_within s at d x e =
    by_end s (at + d) _ _ refl (number_parts s at d x e).last

by_answer : (s : List ℕ) (at d : ℕ) (r : Option ℕ) → number_at s at (suc d) ≡ r → length s ≤ at + d → r ≡ None
by_answer s at d (Some x) e h = absurd (omega (arith, number_within s at d x e))
by_answer s at d None e h = refl

pub number_past : (s : List ℕ) (at d : ℕ) → length s ≤ at + d → number_at s at (suc d) ≡ None
number_past s at d h = by_answer s at d (number_at s at (suc d)) refl h

-- a byte that stands there is read there, and past the end none is
pub byte_there : (s : List ℕ) (k b : ℕ) (r : Option ℕ) → slice_get s k ≡ Some b → value_of b ≡ r → value_of (get_or s k past_end) ≡ r
byte_there s k b r e f = ap value_of (get_or_from_slice_get s k b past_end e) ∙ f

pub byte_past : (s : List ℕ) (k : ℕ) → slice_get s k ≡ None → value_of (get_or s k past_end) ≡ None
unfolding value_of
byte_past s k e = ap value_of (sym (unwrap_or-slice_get s k past_end)) ∙ ap (λ (o : Option ℕ). value_of (unwrap_or o past_end)) e

-- d digits hold a number below 16 ^ d
pub below_more : (d x v : ℕ) → x < 16 ^ d → v < 16 → x * 16 + v < 16 ^ suc d
below_more d x v h k = omega (arith, pow-suc 16 d)

room : (i d : ℕ) → i ≤ d → 16 ^ i ≤ 16 ^ d
room i d h = pow-le-pow_right (omega arith) h

pub below_wider : (i d x : ℕ) → i ≤ d → x < 16 ^ i → x < 16 ^ d
below_wider i d x h k = omega (arith, room i d h)

-- a turn of the loop: the digit behind those that were read, and its number
pub record Turn (s : List ℕ) (at i x v : ℕ) : Type 0 where
  pub reads : number_at s at (i + 1) ≡ Some (x * 16 + v)
  pub below : x * 16 + v < 16 ^ (i + 1)
  pub small : v < 16

pub turn : (s : List ℕ) (at i x b v : ℕ) → (number_at s at i ≡ Some x) × (x < 16 ^ i) → slice_get s (at + i) ≡ Some b → value_of b ≡ Some v → Turn s at i x v
turn s at i x b v h e f =
    record {
      reads = rw add-one (number_more s at i x v h.0 (byte_there s (at + i) b (Some v) e f));
      below = rw add-one (below_more i x v h.1 (digit_of_value b v f).small);
      small = (digit_of_value b v f).small;
    }

pub number_below : (s : List ℕ) (at d x : ℕ) → number_at s at d ≡ Some x → x < 16 ^ d
unfolding number_at
number_below s at zero x e = let z : 0 ≡ x = cc in omega arith
number_below s at (suc d) x e =
    let p : Parts (number_at s at d) (value_of (get_or s (at + d) past_end)) x = number_parts s at d x e in
    rw p.sum (below_more d p.before p.value (number_below s at d p.before p.was) (digit_of_value _ _ p.last).small)
