-- Two bytes of a list as one number.
use Rattle.std.specs.Prelude.{ℕ, ◌+◌, ◌*◌, ◌/◌, ◌%◌, List, get_or, set}

-- the number at a place, the low byte first
unfoldable pub word : List ℕ → ℕ → ℕ
word w at = get_or w at 0 + 256 * get_or w (at + 1) 0

-- the list with the number x at a place
unfoldable pub set_word : List ℕ → ℕ → ℕ → List ℕ
set_word w at x = set (set w at (x % 256)) (at + 1) (x / 256)
