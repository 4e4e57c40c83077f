-- Positions v·n+u of pairs of n items.
use Prim.Native.Nat.{ℕ, zero, suc, ◌+◌, ◌*◌, ◌/◌, ◌%◌, ◌≤◌, ◌<◌}
use mathlib.Core.Path.{◌≡◌, ap, ◌∙◌}
use mathlib.Core.Logic.{⊎_elim}
use native.Mathlib.Nat.{mul-add-div_right, div-eq_of_lt, mul-add-mod_self_right, mod-eq_of_lt, mod-lt, div-lt_iff_lt-mul, add-zero, mul-zero, mul-le-mul, mul-le-mul_right, suc-mul, not-suc-le-zero}
use native.Mathlib.Decide.{dec_lt}
use native.Mathlib.Omega.{arith}
use Rattle.rules.proofs.Laws.Tests.{order}

-- a row of an earlier number ends before a later one begins
pub row_fits : (n : ℕ) {v m : ℕ} → v < m → v * n + n ≤ m * n
row_fits n {v} {m} h = rw suc-mul at (mul-le-mul_right n h)

module _ (n : ℕ) where
  pub place_lt : (v u : ℕ) → v < n → u < n → v * n + u < n * n
  place_lt v u hv hu = omega (arith, mul-le-mul_right n hv, suc-mul v n)

  pub place_row : (v u : ℕ) → u < n → (v * n + u) / n ≡ v
  place_row v u h = mul-add-div_right (omega arith) v u ∙ ap (λ (k : ℕ). v + k) (div-eq_of_lt h) ∙ add-zero v

  pub place_column : (v u : ℕ) → u < n → (v * n + u) % n ≡ u
  place_column v u h = mul-add-mod_self_right v n u ∙ mod-eq_of_lt h

  pub some_items : (p : ℕ) → p < n * n → 0 < n
  some_items p h = ⊎_elim (λ l. l) (λ z. absurd (none n z h)) (order 0 n)
    where
      none : (n : ℕ) → n ≤ 0 → p < n * n → ⊥
      none zero z l = omega arith
      none (suc n) z l = omega arith

  pub row_lt : (p : ℕ) → p < n * n → p / n < n
  row_lt p h = (div-lt_iff_lt-mul (some_items p h)).1 h

  pub column_lt : (p : ℕ) → p < n * n → p % n < n
  column_lt p h = mod-lt p (some_items p h)

-- a position is a pair's in one way
pub pair_row : (n v u s t : ℕ) → u < n → t < n → v * n + u ≡ s * n + t → v ≡ s
pair_row n v u s t hu ht e = go (dec_lt v s) (dec_lt s v)
  where
    go : Dec (v < s) → Dec (s < v) → v ≡ s
    go (yes l) k = absurd (let z : ◌≡◌ {A = ℕ} 0 1 = omega (arith, row_fits n l) in omega arith)
    go (no l) (yes k) = absurd (let z : ◌≡◌ {A = ℕ} 0 1 = omega (arith, row_fits n k) in omega arith)
    go (no l) (no k) = omega arith

pub pair_column : (n v u s t : ℕ) → u < n → t < n → v * n + u ≡ s * n + t → u ≡ t
pair_column n v u s t hu ht e = let k : v ≡ s = pair_row n v u s t hu ht e in omega (arith, ap (λ (x : ℕ). x * n) k)

pub n_pos : (n p m : ℕ) → p < m * n → 0 < n
n_pos zero p m h = absurd (not-suc-le-zero (rw mul-zero at h))
n_pos (suc n) p m h = omega arith

-- at most 128 items have at most 16,384 pairs
pub square_le : {n : ℕ} → n ≤ 128 → n * n ≤ 16384
square_le h = mul-le-mul h h
