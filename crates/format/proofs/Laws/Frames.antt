-- What a line says, by the tests of the code.
use Prim.Native.Nat.{ℕ, ◌%◌, ◌≤◌, ◌<◌}
use mathlib.Core.Path.{◌≡◌}
use mathlib.Core.List.{List}
use mathlib.Core.Bool.{Bool, false}
use native.Mathlib.Omega.{arith}
use borrow.Author.Tests.{eq-eqb, ne_eqb}
use lib.ListN.{length}
use Rattle.std.specs.Prelude.{Some}
use Rattle.hexa.specs.Digits.{number_at}
use Rattle.hexa.proofs.Laws.Reading.{number_below}
use Rattle.rules.specs.Finite.{all_below}
use Rattle.format.specs.Frames.{token_count, is_token, all_tokens}

-- a line of 512 bytes has at most 255 tokens
pub count_small : (line : List ℕ) → length line ≤ 512 → token_count line ≤ 255
unfolding token_count
count_small line h = omega arith

-- two digits are a byte
pub token_byte : (line : List ℕ) (at x : ℕ) → number_at line at 2 ≡ Some x → x < 256
token_byte line at x e = number_below line at 2 x e

module _ (line : List ℕ) where
  pub tokens_odd : (length line % 2 ≡ 0 → ⊥) → false ≡ all_tokens line
  unfolding all_tokens
  tokens_odd h = rw (ne_eqb (length line % 2) 0 h)

  pub tokens_even : (b : Bool) → length line % 2 ≡ 0 → all_below (token_count line) (is_token line) ≡ b → b ≡ all_tokens line
  unfolding all_tokens
  tokens_even b h e = rw (eq-eqb (length line % 2) 0 h, e)
