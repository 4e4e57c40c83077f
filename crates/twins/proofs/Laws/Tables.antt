-- The numbers of a level.
use Prim.Native.Nat.{ℕ, zero, suc, ◌+◌, ◌*◌, ◌-◌, ◌≤◌, ◌<◌}
use mathlib.Core.Path.{◌≡◌, sym, ap, ◌∙◌}
use mathlib.Core.List.{List}
use native.Mathlib.Nat.{suc-mul, mul-le-mul_right}
use native.Mathlib.Omega.{arith}
use lib.ListN.{length, get_or, take, drop}
use lib.Seq.{slice}
use Rattle.rules.specs.Levels.{number_at, level_of}
use Rattle.rules.proofs.Laws.Slices.{pred_is, take_from}
use Rattle.rules.proofs.Laws.Levels.{entry_get, level_get, level_size}

pub less_one : (i : ℕ) → suc i - 1 ≡ i
less_one i = omega arith

-- a level ends where the next begins
pub base_next : (n i : ℕ) → 0 < i → (i - 1) * (n * n) + n * n ≡ i * (n * n)
base_next n zero h = absurd (omega arith)
base_next n (suc i) h = rw (less_one i) (omega (arith, suc-mul i (n * n)))

pub number_get : (n : ℕ) (ls : List ℕ) (i v u : ℕ) → 0 < i → v < n → u < n → number_at n (level_of n ls i) v u ≡ get_or ls ((i - 1) * (n * n) + (v * n + u)) 0
number_get n ls zero v u h hv hu = absurd (omega arith)
number_get n ls (suc i) v u h hv hu = rw (less_one i) (entry_get n ls i v u hv hu)

pub place_get : (n : ℕ) (ls : List ℕ) (i p : ℕ) → 0 < i → p < n * n → get_or (level_of n ls i) p 0 ≡ get_or ls ((i - 1) * (n * n) + p) 0
place_get n ls zero p h hp = absurd (omega arith)
place_get n ls (suc i) p h hp = rw (less_one i) (level_get n ls i p hp)

pub level_length : (n : ℕ) (ls : List ℕ) (i : ℕ) → 0 < i → i * (n * n) ≤ length ls → length (level_of n ls i) ≡ n * n
level_length n ls zero h r = absurd (omega arith)
level_length n ls (suc i) h r = level_size n ls i r

-- the part of the levels that is level i
pub level_part : (n i : ℕ) (ls : List ℕ) → take (i * (n * n) - (i - 1) * (n * n)) (drop ((i - 1) * (n * n)) ls) ≡ level_of n ls i
unfolding level_of
level_part n i ls =
    take_from ((i - 1) * (n * n)) (i * (n * n)) ls (mul-le-mul_right {m = i - 1} {n = i} (n * n) (omega arith))
    ∙ ap (λ (j : ℕ). slice (j * (n * n)) (i * (n * n)) ls) (sym (pred_is i))
