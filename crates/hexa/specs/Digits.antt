-- Upper-case hexadecimal: digits, and numbers of a fixed count of digits, the most significant digit first.
use Rattle.std.specs.Prelude.{ℕ, zero, suc, ◌+◌, ◌-◌, ◌*◌, ◌/◌, ◌%◌, List, [], ◌∷◌, ◌&&◌, cond, leb, ltb, get_or, Option, Some, None}

-- the value of a byte: 48 to 57 spell 0 to 9, 65 to 70 spell A to F, no other byte is a digit
unfoldable pub value_of : ℕ → Option ℕ
value_of b = cond (leb 48 b && leb b 57) (Some (b - 48)) (cond (leb 65 b && leb b 70) (Some (b - 55)) None)

-- the byte that spells a value below 16
unfoldable pub digit_of : ℕ → ℕ
digit_of v = cond (ltb v 10) (v + 48) (v + 55)

-- what is read so far, and one digit more
unfoldable pub and_digit : Option ℕ → Option ℕ → Option ℕ
and_digit (Some x) (Some v) = Some (x * 16 + v)
and_digit (Some x) None = None
and_digit None r = None

-- what stands past the end of a line: a byte that is no digit
abbrev pub past_end : ℕ
past_end = 255

-- the number of d digits at a place of s; a place past the end holds no digit
unfoldable pub number_at : List ℕ → ℕ → ℕ → Option ℕ
number_at s at zero = Some 0
number_at s at (suc d) = and_digit (number_at s at d) (value_of (get_or s (at + d) past_end))

-- the last d digits of x, put before a rest
unfoldable pub put_digits : ℕ → ℕ → List ℕ → List ℕ
put_digits zero x rest = rest
put_digits (suc d) x rest = put_digits d (x / 16) (digit_of (x % 16) ∷ rest)

-- the last d digits of x alone
abbrev pub spelling : ℕ → ℕ → List ℕ
spelling d x = put_digits d x []
