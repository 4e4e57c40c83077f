-- What a number that is written changes, and what it leaves.
use Prim.Native.Nat.{ℕ, ◌+◌, ◌*◌, ◌/◌, ◌%◌, ◌≤◌, ◌<◌}
use mathlib.Core.Path.{◌≡◌, ap₂, ◌∙◌}
use mathlib.Core.List.{List}
use native.Mathlib.Omega.{arith}
use lib.ListN.{length, get_or, take, drop, set, length-set}
use lib.Seq.{get_or-set_same, get_or-set_other, take-set-le, drop-set-lt}
use Rattle.packing.specs.Words.{word, set_word}

module _ (w : List ℕ) (at x : ℕ) where
  pub length_word : length (set_word w at x) ≡ length w
  unfolding set_word
  length_word = length-set (set w at (x % 256)) (at + 1) (x / 256) ∙ length-set w at (x % 256)

  pub word_same : at + 1 < length w → word (set_word w at x) at ≡ x
  unfolding word set_word
  word_same h =
      let lo = get_or-set_other (set w at (x % 256)) (at + 1) at (x / 256) 0 (λ e. omega arith) ∙ get_or-set_same w at (x % 256) 0 (omega arith) in
      let hi = get_or-set_same (set w at (x % 256)) (at + 1) (x / 256) 0 (omega (arith, length-set w at (x % 256))) in
      ap₂ (λ (a b : ℕ). a + 256 * b) lo hi ∙ omega arith

  pub byte_other : (j : ℕ) → (j ≡ at → ⊥) → (j ≡ at + 1 → ⊥) → get_or (set_word w at x) j 0 ≡ get_or w j 0
  unfolding set_word
  byte_other j h k = get_or-set_other (set w at (x % 256)) (at + 1) j (x / 256) 0 k ∙ get_or-set_other w at j (x % 256) 0 h

  -- two places that do not overlap
  pub word_above : (j : ℕ) → at + 1 < j → word (set_word w at x) j ≡ word w j
  unfolding word
  word_above j h =
      ap₂ (λ (a b : ℕ). a + 256 * b) (byte_other j (λ e. omega arith) (λ e. omega arith)) (byte_other (j + 1) (λ e. omega arith) (λ e. omega arith))

  pub word_below : (j : ℕ) → j + 1 < at → word (set_word w at x) j ≡ word w j
  unfolding word
  word_below j h =
      ap₂ (λ (a b : ℕ). a + 256 * b) (byte_other j (λ e. omega arith) (λ e. omega arith)) (byte_other (j + 1) (λ e. omega arith) (λ e. omega arith))

  pub take_word : (m : ℕ) → m ≤ at → take m (set_word w at x) ≡ take m w
  unfolding set_word
  take_word m h = take-set-le m (set w at (x % 256)) (at + 1) (x / 256) (omega arith) ∙ take-set-le m w at (x % 256) h

  pub drop_word : (m : ℕ) → at + 1 < m → drop m (set_word w at x) ≡ drop m w
  unfolding set_word
  drop_word m h = drop-set-lt m (set w at (x % 256)) (at + 1) (x / 256) h ∙ drop-set-lt m w at (x % 256) (omega arith)
