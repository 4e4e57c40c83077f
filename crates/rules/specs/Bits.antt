-- Bits of a number, for contracts of the crates above that keep marks in bytes. None of this is of document 01.
use Rattle.std.specs.Prelude.{ℕ, ◌/◌, ◌%◌, ◌^◌, Bool, eqb}

-- bit l of the number x is set
unfoldable pub bit_at : ℕ → ℕ → Bool
bit_at l x = eqb (x / (2 ^ l) % 2) 1
