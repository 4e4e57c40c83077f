-- One digit: a byte that has a value is the digit of that value, and the digit of a value has it.
-- Assumes nothing.
use mathlib.Core.Path.{◌≡◌, refl, ap, ◌∙◌}
use mathlib.Core.Bool.{Bool, true, false, ◌&&◌}
use Prim.Native.Nat.{ℕ, ◌+◌, ◌-◌, ◌≤◌, ◌<◌}
use native.Mathlib.Omega.{arith}
use lib.Dec.{leb, ltb}
use borrow.Author.Tests.{lt-ltb, le-ltb, ltb-true, ltb-false, le-leb, lt-leb, leb-true}
use Rattle.hexa.specs.Digits.{value_of, digit_of}
use Rattle.std.specs.Prelude.{Option, Some, None, cond}

-- what a byte can be: a digit of 0 to 9, one of A to F, or none
data Kind (b : ℕ) : Option ℕ → Type 0 where
  low : 48 ≤ b → b ≤ 57 → Kind b (Some (b - 48))
  high : 65 ≤ b → b ≤ 70 → Kind b (Some (b - 55))
  none : Kind b None

by_tests : (b : ℕ) (p q r t : Bool) → leb 48 b ≡ p → leb b 57 ≡ q → leb 65 b ≡ r → leb b 70 ≡ t
    → Kind b (cond (p && q) (Some (b - 48)) (cond (r && t) (Some (b - 55)) None))
by_tests b true true r t e f g h = low (leb-true _ _ e) (leb-true _ _ f)
by_tests b true false true true e f g h = high (leb-true _ _ g) (leb-true _ _ h)
by_tests b true false true false e f g h = none
by_tests b true false false t e f g h = none
by_tests b false q true true e f g h = high (leb-true _ _ g) (leb-true _ _ h)
by_tests b false q true false e f g h = none
by_tests b false q false t e f g h = none

kind : (b : ℕ) → Kind b (value_of b)
unfolding value_of
kind b = by_tests b (leb 48 b) (leb b 57) (leb 65 b) (leb b 70) refl refl refl refl

-- the answers for a byte between given bounds
pub value_low : (b : ℕ) → 48 ≤ b → b ≤ 57 → value_of b ≡ Some (b - 48)
unfolding value_of
value_low b h k = simp (le-leb 48 b h, le-leb b 57 k)

pub value_high : (b : ℕ) → 65 ≤ b → b ≤ 70 → value_of b ≡ Some (b - 55)
unfolding value_of
value_high b h k = simp (le-leb 48 b (omega arith), lt-leb b 57 (omega arith), le-leb 65 b h, le-leb b 70 k)

-- the byte of a value, in the two parts of the digits
pub digit_low : (v : ℕ) → v < 10 → digit_of v ≡ v + 48
unfolding digit_of
digit_low v h = simp (lt-ltb v 10 h)

pub digit_high : (v : ℕ) → 10 ≤ v → digit_of v ≡ v + 55
unfolding digit_of
digit_high v h = simp (le-ltb v 10 h)

-- a digit's value is below 16, and no other byte has it
pub record Digit (b v : ℕ) : Type 0 where
  pub small : v < 16
  pub is : b ≡ digit_of v

digit_by_kind : (b v : ℕ) (r : Option ℕ) → Kind b r → r ≡ Some v → Digit b v
digit_by_kind b v _ (low h k) e =
    let w : b - 48 ≡ v = cc in
    record { small = omega arith; is = omega (arith, digit_low v (omega arith)) }
digit_by_kind b v _ (high h k) e =
    let w : b - 55 ≡ v = cc in
    record { small = omega arith; is = omega (arith, digit_high v (omega arith)) }
digit_by_kind b v _ none e = absurd (cc)

pub digit_of_value : (b v : ℕ) → value_of b ≡ Some v → Digit b v
digit_of_value b v e = digit_by_kind b v (value_of b) (kind b) e

-- the digit of a value below 16 has that value
by_part : (v : ℕ) (t : Bool) → ltb v 10 ≡ t → v < 16 → value_of (digit_of v) ≡ Some v
by_part v true e h =
    let k : v < 10 = ltb-true v 10 e in
    ap value_of (digit_low v k) ∙ (value_low (v + 48) (omega arith) (omega arith) ∙ ap Some (omega arith))
by_part v false e h =
    let k : 10 ≤ v = ltb-false v 10 e in
    ap value_of (digit_high v k) ∙ (value_high (v + 55) (omega arith) (omega arith) ∙ ap Some (omega arith))

pub value_of_digit : (v : ℕ) → v < 16 → value_of (digit_of v) ≡ Some v
value_of_digit v h = by_part v (ltb v 10) refl h
