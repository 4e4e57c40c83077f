-- Counts, and the ascending list of the numbers below a bound that pass.
use Prim.Native.Nat.{ℕ, zero, suc, ◌+◌, ◌≤◌, ◌<◌}
use mathlib.Core.Path.{◌≡◌, refl, sym, ap, ◌∙◌, subst}
use mathlib.Core.Logic.{⊎_elim}
use mathlib.Core.List.{[], ◌∷◌, ◌++◌, append-nil, Memᴰ}
use mathlib.Core.Bool.{Bool, true, false, cond}
use native.Mathlib.Omega.{arith}
use native.Mathlib.Nat.{add-zero}
use native.Mathlib.Numerals.{add-one}
use lib.ListN.{length, get_or, length-append, get_or-append}
use lib.Seq.{get_or_at}
use Rattle.rules.specs.Finite.{count_below, list_below, table_below}
use Rattle.rules.proofs.Laws.Tests.{either, order}
use Rattle.rules.proofs.Laws.Finite.{below_cases}

module _ (f : ℕ → Bool) where
  -- one more turn
  pub count_skip : (n : ℕ) → f n ≡ false → count_below (suc n) f ≡ count_below n f
  unfolding count_below
  count_skip n e = rw e (add-zero (count_below n f))

  pub count_add : (n : ℕ) → f n ≡ true → count_below (suc n) f ≡ suc (count_below n f)
  unfolding count_below
  count_add n e = rw e (add-one (count_below n f))

  pub list_skip : (n : ℕ) → f n ≡ false → list_below (suc n) f ≡ list_below n f
  unfolding list_below
  list_skip n e = rw e (append-nil (list_below n f))

  pub list_add : (n : ℕ) → f n ≡ true → list_below (suc n) f ≡ list_below n f ++ (n ∷ [])
  unfolding list_below
  list_add n e = rw e

  pub count_length : (n : ℕ) → count_below n f ≡ length (list_below n f)
  unfolding count_below list_below
  count_length zero = refl
  count_length (suc n) =
      ⊎_elim
      (λ (e : f n ≡ true). count_add n e ∙ ap suc (count_length n) ∙ sym (add-one (length (list_below n f))) ∙ sym (length-append (list_below n f) (n ∷ [])) ∙ ap length (sym (list_add n e)))
      (λ (e : f n ≡ false). count_skip n e ∙ count_length n ∙ ap length (sym (list_skip n e)))
      (either (f n))

  pub count_le : (n : ℕ) → count_below n f ≤ n
  unfolding count_below
  count_le zero = omega arith
  count_le (suc n) =
      ⊎_elim
      (λ (e : f n ≡ true). omega (arith, count_add n e, count_le n))
      (λ (e : f n ≡ false). omega (arith, count_skip n e, count_le n))
      (either (f n))

  -- its members
  pub list_at : (n j : ℕ) → j < length (list_below n f) → (get_or (list_below n f) j 0 < n) × (f (get_or (list_below n f) j 0) ≡ true)
  unfolding list_below
  list_at zero j h = absurd (omega arith)
  list_at (suc n) j h =
      ⊎_elim
      (λ (e : f n ≡ true).
      let l = list_below n f in
      let h' : j < suc (length l) = omega (arith, ap length (list_add n e), length-append l (n ∷ [])) in
      rw (list_add n e)
      (⊎_elim
      (λ (q : j ≡ length l). rw (get_or_at l n [] 0 j (sym q)) (omega arith, e))
      (λ (b : j < length l). let r = list_at n j b in rw (get_or-append l (n ∷ []) 0 j b) (omega (arith, r.0), r.1))
      (below_cases h')))
      (λ (e : f n ≡ false).
      let r = list_at n j (rw (list_skip n e) at h) in
      rw (list_skip n e) (omega (arith, r.0), r.1))
      (either (f n))

  -- i stands behind as many as there are before it
  pub list_place : (n i : ℕ) → i < n → f i ≡ true → (count_below i f < length (list_below n f)) × (get_or (list_below n f) (count_below i f) 0 ≡ i)
  list_place zero i h e = absurd (omega arith)
  list_place (suc n) i h e =
      let l = list_below n f in
      ⊎_elim
      (λ (q : i ≡ n).
      let en : f n ≡ true = subst (λ (k : ℕ). f k ≡ true) q e in
      rw (q, list_add n en)
      (omega (arith, length-append l (n ∷ []), count_length n), get_or_at l n [] 0 (count_below n f) (sym (count_length n))))
      (λ (b : i < n).
      let r = list_place n i b e in
      ⊎_elim
      (λ (t : f n ≡ true). rw (list_add n t) (omega (arith, length-append l (n ∷ []), r.0), get_or-append l (n ∷ []) 0 (count_below i f) r.0 ∙ r.1))
      (λ (t : f n ≡ false). rw (list_skip n t) r)
      (either (f n)))
      (below_cases h)

  pub list_ascending : (n j k : ℕ) → j < k → k < length (list_below n f) → get_or (list_below n f) j 0 < get_or (list_below n f) k 0
  unfolding list_below
  list_ascending zero j k h b = absurd (omega arith)
  list_ascending (suc n) j k h b =
      let l = list_below n f in
      ⊎_elim
      (λ (e : f n ≡ true).
      let b' : k < suc (length l) = omega (arith, ap length (list_add n e), length-append l (n ∷ [])) in
      rw (list_add n e)
      (⊎_elim
      (λ (q : k ≡ length l).
      let jl : j < length l = omega arith in
      rw (get_or_at l n [] 0 k (sym q), get_or-append l (n ∷ []) 0 j jl) (list_at n j jl).0)
      (λ (kl : k < length l).
      let jl : j < length l = omega arith in
      rw (get_or-append l (n ∷ []) 0 k kl, get_or-append l (n ∷ []) 0 j jl) (list_ascending n j k h kl))
      (below_cases b')))
      (λ (e : f n ≡ false). rw (list_skip n e) (list_ascending n j k h (rw (list_skip n e) at b)))
      (either (f n))

  pub list_no_repeat : (n j k : ℕ) → j < length (list_below n f) → k < length (list_below n f) → get_or (list_below n f) j 0 ≡ get_or (list_below n f) k 0 → j ≡ k
  list_no_repeat n j k hj hk e =
      ⊎_elim
      (λ (l : j < k). absurd (omega (arith, list_ascending n j k l hk)))
      (λ (g : k ≤ j). ⊎_elim (λ (q : k ≡ j). sym q) (λ (l : k < j). absurd (omega (arith, list_ascending n k j l hj))) (native.Mathlib.Nat.eq-or-lt_of_le g))
      (order j k)

  pub list_find : (n i : ℕ) → Memᴰ i (list_below n f) → (i < n) × (f i ≡ true)
  unfolding list_below
  list_find zero i m = absurd (mathlib.Core.List.Memᴰ.not-nil m)
  list_find (suc n) i m =
      ⊎_elim
      (λ (e : f n ≡ true).
      ⊎_elim
      (λ (a : Memᴰ i (list_below n f)). let r = list_find n i a in (omega (arith, r.0), r.1))
      (λ (b : Memᴰ i (n ∷ [])). let q = mathlib.Core.List.Memᴰ.eq_of_singleton b in (omega (arith, q), subst (λ (k : ℕ). f k ≡ true) (sym q) e))
      (mathlib.Core.List.Memᴰ.append_cases (list_below n f) (rw (list_add n e) at m)))
      (λ (e : f n ≡ false). let r = list_find n i (rw (list_skip n e) at m) in (omega (arith, r.0), r.1))
      (either (f n))

  pub list_here : (n i : ℕ) → i < n → f i ≡ true → Memᴰ i (list_below n f)
  list_here zero i h e = absurd (omega arith)
  list_here (suc n) i h e =
      ⊎_elim
      (λ (q : i ≡ n). rw (list_add n (subst (λ (k : ℕ). f k ≡ true) q e)) (mathlib.Core.List.Memᴰ.append_right (list_below n f) (mathlib.Core.List.Memᴰ.head q)))
      (λ (b : i < n). ⊎_elim
      (λ (t : f n ≡ true). rw (list_add n t) (mathlib.Core.List.Memᴰ.append_left (n ∷ []) (list_here n i b e)))
      (λ (t : f n ≡ false). rw (list_skip n t) (list_here n i b e))
      (either (f n)))
      (below_cases h)

pub count_same : (n : ℕ) (f h : ℕ → Bool) → ((i : ℕ) → i < n → f i ≡ h i) → count_below n f ≡ count_below n h
unfolding count_below
count_same zero f h e = refl
count_same (suc n) f h e = rw (count_same n f h (λ i l. e i (omega arith)), e n (omega arith))

pub count_none : (n : ℕ) (f : ℕ → Bool) → ((i : ℕ) → i < n → f i ≡ false) → count_below n f ≡ 0
unfolding count_below
count_none zero f e = refl
count_none (suc n) f e = rw (count_none n f (λ i l. e i (omega arith)), e n (omega arith))

-- a test whose passes are those of two others, each once
pub count_sum : (n : ℕ) (f h s : ℕ → Bool) → ((i : ℕ) → i < n → cond {A = ℕ} (s i) 1 0 ≡ cond (f i) 1 0 + cond (h i) 1 0)
    → count_below n s ≡ count_below n f + count_below n h
unfolding count_below
count_sum zero f h s e = refl
count_sum (suc n) f h s e = omega (arith, count_sum n f h s (λ i l. e i (omega arith)), e n (omega arith))

module _ (f : ℕ → ℕ) where
  pub table_length : (n : ℕ) → length (table_below n f) ≡ n
  unfolding table_below
  table_length zero = refl
  table_length (suc n) = rw length-append (omega (arith, table_length n))

  pub table_at : (n i : ℕ) → i < n → get_or (table_below n f) i 0 ≡ f i
  unfolding table_below
  table_at zero i h = absurd (omega arith)
  table_at (suc n) i h =
      ⊎_elim
      (λ (q : i ≡ n). get_or_at (table_below n f) (f n) [] 0 i (table_length n ∙ sym q) ∙ ap f (sym q))
      (λ (b : i < n). get_or-append (table_below n f) (f n ∷ []) 0 i (omega (arith, table_length n)) ∙ table_at n i b)
      (below_cases h)
