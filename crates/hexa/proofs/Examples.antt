-- Lines of document 01, read and put together by the definitions, and bytes next to the digits, which are none.
-- Assumes nothing.
use mathlib.Core.Path.{◌≡◌, refl}
use mathlib.Core.List.{List, [], ◌∷◌}
use Prim.Native.Nat.{ℕ}
use Rattle.hexa.specs.Digits.{value_of, digit_of, and_digit, number_at, put_digits}
use Rattle.std.specs.Prelude.{Some, None}

-- 0100040202: frame 01, V 4, L 2, k 2
header : List ℕ
header = 48 ∷ 49 ∷ 48 ∷ 48 ∷ 48 ∷ 52 ∷ 48 ∷ 50 ∷ 48 ∷ 50 ∷ []

header_read : (number_at header 0 2 ≡ Some 1) × (number_at header 2 4 ≡ Some 4) × (number_at header 6 2 ≡ Some 2) × (number_at header 8 2 ≡ Some 2)
unfolding header number_at and_digit value_of
header_read = (refl, refl, refl, refl)

-- a digit too few at the end, and a place past it
header_end : (number_at header 8 4 ≡ None) × (number_at header 10 2 ≡ None) × (number_at header 99 1 ≡ None)
unfolding header number_at and_digit value_of
header_end = (refl, refl, refl)

-- 81000A0010000E: 81, ten classes, sixteen connected pairs, fourteen entries
totals_put : put_digits 2 129 (put_digits 4 10 (put_digits 4 16 (put_digits 4 14 []))) ≡ 56 ∷ 49 ∷ 48 ∷ 48 ∷ 48 ∷ 65 ∷ 48 ∷ 48 ∷ 49 ∷ 48 ∷ 48 ∷ 48 ∷ 48 ∷ 69 ∷ []
unfolding put_digits digit_of
totals_put = refl

-- FF1200000001: refusal 18 at line 1
refusal_put : put_digits 2 255 (put_digits 2 18 (put_digits 8 1 [])) ≡ 70 ∷ 70 ∷ 49 ∷ 50 ∷ 48 ∷ 48 ∷ 48 ∷ 48 ∷ 48 ∷ 48 ∷ 48 ∷ 49 ∷ []
unfolding put_digits digit_of
refusal_put = refl

-- before 0 and after 9, before A and after F, and a in lower case
no_digits : (value_of 47 ≡ None) × (value_of 58 ≡ None) × (value_of 64 ≡ None) × (value_of 71 ≡ None) × (value_of 97 ≡ None)
unfolding value_of
no_digits = (refl, refl, refl, refl, refl)
