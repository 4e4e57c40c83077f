-- What a loop that counts up keeps of a test over the numbers below a bound: its start, its turn, and where it is left.
use Prim.Native.Nat.{ℕ, ◌+◌, ◌≤◌, ◌<◌}
use mathlib.Core.Path.{◌≡◌, refl, sym}
use mathlib.Core.Logic.{⊎_elim}
use mathlib.Core.Bool.{Bool, true, false, ◌||◌}
use native.Mathlib.Nat.{eq-or-lt_of_le}
use native.Mathlib.Numerals.{add-one}
use native.Mathlib.Omega.{arith}
use Rattle.rules.specs.Finite.{any_below, all_below, first_below}
use Rattle.rules.proofs.Laws.Tests.{not_both, not_true_of}
use Rattle.rules.proofs.Laws.Finite.{any_none, all_at, first_is, first_le}

module _ (f : ℕ → Bool) where
  pub any_start : any_below 0 f ≡ false
  unfolding any_below
  any_start = refl

  pub any_more : (i : ℕ) → any_below i f ≡ false → f i ≡ false → any_below (i + 1) f ≡ false
  unfolding any_below
  any_more i h e = rw (add-one, h) e

  pub any_step : (i : ℕ) → any_below (i + 1) f ≡ (any_below i f || f i)
  unfolding any_below
  any_step i = rw add-one

  pub all_start : all_below 0 f ≡ true
  unfolding all_below
  all_start = refl

  pub all_more : (i : ℕ) → all_below i f ≡ true → f i ≡ true → all_below (i + 1) f ≡ true
  unfolding all_below
  all_more i h e = rw (add-one, h) e

  pub any_done : {i n : ℕ} {b : Bool} → i ≤ n → n ≤ i → any_below i f ≡ b → any_below n f ≡ b
  any_done {i} {n} {b} p q h = let e : i ≡ n = omega arith in rw e at h

  pub all_done : {i n : ℕ} {b : Bool} → i ≤ n → n ≤ i → all_below i f ≡ b → all_below n f ≡ b
  all_done {i} {n} {b} p q h = let e : i ≡ n = omega arith in rw e at h

  pub all_not_at : (n k : ℕ) → k < n → f k ≡ false → all_below n f ≡ false
  all_not_at n k l e = not_true_of (all_below n f) (λ t. not_both (f k) (all_at n f t k l) e)

  -- the first that passes, found by a search from the front
  pub first_found : (n e : ℕ) → e < n → any_below e f ≡ false → f e ≡ true → e ≡ first_below n f
  first_found n e l a h =
      let is = first_is n f e l h in
      ⊎_elim
      (λ (q : first_below n f ≡ e). sym q)
      (λ (q : first_below n f < e). not_both (f (first_below n f)) is.passes (any_none e f a (first_below n f) q))
      (eq-or-lt_of_le (first_le n f e l h))
