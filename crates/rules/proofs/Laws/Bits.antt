-- Bits of a number: of an or, of an and, of a power of two, of 0; and that the bits are the number.
use Prim.Native.Nat.{ℕ, zero, suc, ◌/◌, ◌%◌, ◌^◌, ◌<◌}
use mathlib.Core.Path.{◌≡◌, refl, sym, ◌∙◌}
use mathlib.Core.Bool.{true, false, ◌&&◌, ◌||◌, beq, true≢false, false≢true}
use native.Mathlib.Nat.{mod-lt, zero-div, div-one, pow-suc, div-div-eq-div-mul, mul_comm}
use native.Mathlib.Omega.{arith}
use lib.Dec.{eqb}
use lib.Bits.{bit_or, bit_and, or_shr, or_mod, and_shr, and_mod}
use Rattle.rules.specs.Finite.{all_below}
use Rattle.rules.specs.Bits.{bit_at}
use Rattle.rules.proofs.Laws.Tests.{beq_eq}
use Rattle.rules.proofs.Laws.Finite.{all_at}

or_digit : (a b : ℕ) → a < 2 → b < 2 → eqb (bit_or a b) 1 ≡ (eqb a 1 || eqb b 1)
or_digit zero zero h k = refl
or_digit zero (suc zero) h k = refl
or_digit (suc zero) zero h k = refl
or_digit (suc zero) (suc zero) h k = refl
or_digit zero (suc (suc b)) h k = absurd (omega arith)
or_digit (suc zero) (suc (suc b)) h k = absurd (omega arith)
or_digit (suc (suc a)) b h k = absurd (omega arith)

and_digit_lem : (a b : ℕ) → a < 2 → b < 2 → eqb (bit_and a b) 1 ≡ (eqb a 1 && eqb b 1)
and_digit_lem zero zero h k = refl
and_digit_lem zero (suc zero) h k = refl
and_digit_lem (suc zero) zero h k = refl
and_digit_lem (suc zero) (suc zero) h k = refl
and_digit_lem zero (suc (suc b)) h k = absurd (omega arith)
and_digit_lem (suc zero) (suc (suc b)) h k = absurd (omega arith)
and_digit_lem (suc (suc a)) b h k = absurd (omega arith)

pub bit_or_lem : (l x y : ℕ) → bit_at l (bit_or x y) ≡ (bit_at l x || bit_at l y)
unfolding bit_at
bit_or_lem l x y =
    rw (or_shr x y l, or_mod (x / (2 ^ l)) (y / (2 ^ l)) 1)
    (or_digit (x / (2 ^ l) % 2) (y / (2 ^ l) % 2) (mod-lt _ (omega arith)) (mod-lt _ (omega arith)))

pub bit_and_lem : (l x y : ℕ) → bit_at l (bit_and x y) ≡ (bit_at l x && bit_at l y)
unfolding bit_at
bit_and_lem l x y =
    rw (and_shr x y l, and_mod (x / (2 ^ l)) (y / (2 ^ l)) 1)
    (and_digit_lem (x / (2 ^ l) % 2) (y / (2 ^ l) % 2) (mod-lt _ (omega arith)) (mod-lt _ (omega arith)))

-- the sixty-four cases, computed
powers : all_below 8 (λ k. all_below 8 (λ l. beq (bit_at l (2 ^ k)) (eqb k l))) ≡ true
unfolding all_below bit_at
powers = refl

pub bit_power : (l k : ℕ) → k < 8 → l < 8 → bit_at l (2 ^ k) ≡ eqb k l
bit_power l k h h' =
    beq_eq _ _
    (all_at 8 (λ l. beq (bit_at l (2 ^ k)) (eqb k l)) (all_at 8 (λ k. all_below 8 (λ l. beq (bit_at l (2 ^ k)) (eqb k l))) powers k h) l h')

pub bit_zero : (l : ℕ) → bit_at l 0 ≡ false
unfolding bit_at
bit_zero l = rw (zero-div (2 ^ l)) refl

bit_suc : (l x : ℕ) → bit_at (suc l) x ≡ bit_at l (x / 2)
unfolding bit_at
bit_suc l x = rw (div-div-eq-div-mul x 2 (2 ^ l), mul_comm 2 (2 ^ l), pow-suc 2 l) refl

bit_first : (x : ℕ) → bit_at 0 x ≡ eqb (x % 2) 1
unfolding bit_at
bit_first x = rw (div-one x) refl

digit_ext : (a b : ℕ) → a < 2 → b < 2 → eqb a 1 ≡ eqb b 1 → a ≡ b
digit_ext zero zero h k e = refl
digit_ext zero (suc zero) h k e = absurd (false≢true e)
digit_ext (suc zero) zero h k e = absurd (true≢false e)
digit_ext (suc zero) (suc zero) h k e = refl
digit_ext zero (suc (suc b)) h k e = absurd (omega arith)
digit_ext (suc zero) (suc (suc b)) h k e = absurd (omega arith)
digit_ext (suc (suc a)) b h k e = absurd (omega arith)

-- numbers with the same bits are equal
pub bits_ext : (m x y : ℕ) → x < 2 ^ m → y < 2 ^ m → ((l : ℕ) → l < m → bit_at l x ≡ bit_at l y) → x ≡ y
bits_ext zero x y h k e = omega arith
bits_ext (suc m) x y h k e =
    let half = bits_ext m (x / 2) (y / 2) (omega (arith, pow-suc 2 m)) (omega (arith, pow-suc 2 m))
    (λ l i. sym (bit_suc l x) ∙ e (suc l) (omega arith) ∙ bit_suc l y) in
    let digit = digit_ext (x % 2) (y % 2) (mod-lt _ (omega arith)) (mod-lt _ (omega arith)) (sym (bit_first x) ∙ e 0 (omega arith) ∙ bit_first y) in
    omega arith
