-- What the tests, counts and lists over the numbers below a bound say.
use Prim.Native.Nat.{ℕ, zero, suc, ◌≤◌, ◌<◌}
use mathlib.Core.Path.{◌≡◌, refl, sym, ◌∙◌, subst}
use mathlib.Core.Logic.{◌⊎◌, inl, inr, ⊎_elim}
use mathlib.Core.Bool.{Bool, true, false, false≢true, true≢false}
use native.Mathlib.Nat.{le_of_suc-le-suc, not-suc-le-zero, eq-or-lt_of_le}
use native.Mathlib.Omega.{arith}
use Rattle.rules.specs.Finite.{any_below, all_below, first_below, list_below}
use Rattle.rules.proofs.Laws.Tests.{either, order, not_both, and_left, and_right, and_intro, or_cases, or_left, or_right, or_false_left, or_false_right, not_true_of}

-- below one more than n: n itself, or below n
pub below_cases : {i n : ℕ} → i < suc n → (i ≡ n) ⊎ (i < n)
below_cases h = eq-or-lt_of_le (le_of_suc-le-suc h)

pub any_find : (n : ℕ) (f : ℕ → Bool) → any_below n f ≡ true → (i : ℕ) × (i < n) × (f i ≡ true)
unfolding any_below
any_find zero f e = absurd (false≢true e)
any_find (suc n) f e = go (any_find n f) (or_cases (any_below n f) (f n) e)
  where
    go : (any_below n f ≡ true → (i : ℕ) × (i < n) × (f i ≡ true)) → (any_below n f ≡ true) ⊎ (f n ≡ true) → (i : ℕ) × (i < suc n) × (f i ≡ true)
    go ih (inl a) = let r = ih a in (r.0, omega (arith, r.1), r.2)
    go ih (inr b) = (n, omega arith, b)

pub any_here : (n : ℕ) (f : ℕ → Bool) (i : ℕ) → i < n → f i ≡ true → any_below n f ≡ true
unfolding any_below
any_here zero f i h e = absurd (not-suc-le-zero h)
any_here (suc n) f i h e =
    ⊎_elim (λ q. or_right (any_below n f) (f n) (subst (λ (k : ℕ). f k ≡ true) q e))
    (λ l. or_left (any_below n f) (f n) (any_here n f i l e))
    (below_cases h)

pub any_none : (n : ℕ) (f : ℕ → Bool) → any_below n f ≡ false → (i : ℕ) → i < n → f i ≡ false
any_none n f e i h = not_true_of (f i) (λ t. true≢false (sym (any_here n f i h t) ∙ e))

pub none_any : (n : ℕ) (f : ℕ → Bool) → ((i : ℕ) → i < n → f i ≡ false) → any_below n f ≡ false
none_any n f h = not_true_of (any_below n f) (λ t. let r = any_find n f t in not_both (f r.0) r.2 (h r.0 r.1))

pub all_at : (n : ℕ) (f : ℕ → Bool) → all_below n f ≡ true → (i : ℕ) → i < n → f i ≡ true
unfolding all_below
all_at zero f e i h = absurd (not-suc-le-zero h)
all_at (suc n) f e i h =
    ⊎_elim (λ q. subst (λ (k : ℕ). f k ≡ true) (sym q) (and_right (all_below n f) (f n) e))
    (λ l. all_at n f (and_left (all_below n f) (f n) e) i l)
    (below_cases h)

pub all_intro : (n : ℕ) (f : ℕ → Bool) → ((i : ℕ) → i < n → f i ≡ true) → all_below n f ≡ true
unfolding all_below
all_intro zero f h = refl
all_intro (suc n) f h = and_intro (all_below n f) (f n) (all_intro n f (λ i l. h i (omega arith))) (h n (omega arith))

-- the first that passes: one more turn
pub first_old : (n : ℕ) (f : ℕ → Bool) → any_below n f ≡ true → first_below (suc n) f ≡ first_below n f
unfolding first_below
first_old n f a = rw a

pub first_new : (n : ℕ) (f : ℕ → Bool) → any_below n f ≡ false → f n ≡ true → first_below (suc n) f ≡ n
unfolding first_below
first_new n f a b = rw (a, b)

pub first_past : (n : ℕ) (f : ℕ → Bool) → any_below n f ≡ false → f n ≡ false → first_below (suc n) f ≡ suc n
unfolding first_below
first_past n f a b = rw (a, b)

pub first_none : (n : ℕ) (f : ℕ → Bool) → any_below n f ≡ false → first_below n f ≡ n
unfolding first_below
first_none zero f e = refl
first_none (suc n) f e = first_past n f (unfold any_below in or_false_left (any_below n f) (f n) e) (unfold any_below in or_false_right (any_below n f) (f n) e)

-- r is the first below n that passes
pub record IsFirst (n : ℕ) (f : ℕ → Bool) (r : ℕ) : Type 0 where
  pub below : r < n
  pub passes : f r ≡ true
  pub least : (j : ℕ) → j < r → f j ≡ false

pub first_some : (n : ℕ) (f : ℕ → Bool) → any_below n f ≡ true → IsFirst n f (first_below n f)
unfolding any_below
first_some zero f e = absurd (false≢true e)
first_some (suc n) f e = go (first_some n f) (either (any_below n f))
  where
    go : (any_below n f ≡ true → IsFirst n f (first_below n f)) → (any_below n f ≡ true) ⊎ (any_below n f ≡ false) → IsFirst (suc n) f (first_below (suc n) f)
    go ih (inl a) =
        let r = ih a in
        rw (first_old n f a) (record { below = omega (arith, r.below); passes = r.passes; least = r.least })
    go ih (inr a) =
        let b : f n ≡ true = ⊎_elim (λ t. not_both (any_below n f) t a) (λ t. t) (or_cases (any_below n f) (f n) e) in
        rw (first_new n f a b) (record { below = omega arith; passes = b; least = any_none n f a })

pub first_is : (n : ℕ) (f : ℕ → Bool) (i : ℕ) → i < n → f i ≡ true → IsFirst n f (first_below n f)
first_is n f i h e = first_some n f (any_here n f i h e)

pub first_le : (n : ℕ) (f : ℕ → Bool) (i : ℕ) → i < n → f i ≡ true → first_below n f ≤ i
first_le n f i h e = go (order i (first_below n f))
  where
    go : (i < first_below n f) ⊎ (first_below n f ≤ i) → first_below n f ≤ i
    go (inl l) = not_both (f i) e ((first_is n f i h e).least i l)
    go (inr g) = g

pub first_lt : (n : ℕ) (f : ℕ → Bool) → first_below n f < n → any_below n f ≡ true
first_lt n f l = go (either (any_below n f))
  where
    go : (any_below n f ≡ true) ⊎ (any_below n f ≡ false) → any_below n f ≡ true
    go (inl t) = t
    go (inr t) = absurd (omega (arith, first_none n f t))

pub first_before : (n : ℕ) (f : ℕ → Bool) (j : ℕ) → j < n → j < first_below n f → f j ≡ false
first_before n f j h l = not_true_of (f j) (λ t. omega (arith, first_le n f j h t))

-- tests that are equal at each number below the bound
pub any_same : (n : ℕ) (f g : ℕ → Bool) → ((i : ℕ) → i < n → f i ≡ g i) → any_below n f ≡ any_below n g
unfolding any_below
any_same zero f g h = refl
any_same (suc n) f g h = rw (any_same n f g (λ i l. h i (omega arith)), h n (omega arith))

pub all_same : (n : ℕ) (f g : ℕ → Bool) → ((i : ℕ) → i < n → f i ≡ g i) → all_below n f ≡ all_below n g
unfolding all_below
all_same zero f g h = refl
all_same (suc n) f g h = rw (all_same n f g (λ i l. h i (omega arith)), h n (omega arith))

pub list_same : (n : ℕ) (f g : ℕ → Bool) → ((i : ℕ) → i < n → f i ≡ g i) → list_below n f ≡ list_below n g
unfolding list_below
list_same zero f g h = refl
list_same (suc n) f g h = rw (list_same n f g (λ i l. h i (omega arith)), h n (omega arith))
