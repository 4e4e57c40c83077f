-- The numbering of classes by first pair: its numbers are equal exactly where the relation holds.
use Prim.Native.Nat.{ℕ, zero, suc, ◌≤◌, ◌<◌}
use mathlib.Core.Path.{◌≡◌, refl, sym, ap, ◌∙◌, subst}
use mathlib.Core.Logic.{◌⊎◌, inl, inr, ⊎_elim}
use mathlib.Core.List.{List, [], ◌∷◌}
use mathlib.Core.Bool.{Bool, true, false, ◌&&◌}
use native.Mathlib.Nat.{le-max_left, le-max_right, le_trans, eq-or-lt_of_le}
use native.Mathlib.Omega.{arith}
use borrow.Author.Tests.{lt-ltb, le-ltb}
use lib.ListN.{length, get_or, take, length-append, get_or-append}
use lib.Seq.{get_or_at, take-append-le, take_all}
use Rattle.rules.specs.Finite.{any_below, first_below}
use Rattle.rules.specs.Levels.{max_of, matches, next_number, numbering}
use Rattle.rules.proofs.Laws.Tests.{either, and_left, and_right, and_intro, order}
use Rattle.rules.proofs.Laws.Finite.{any_here, first_some, first_none, first_le}

pub max_bounds : (l : List ℕ) (i : ℕ) → get_or l i 0 ≤ max_of l
unfolding max_of
max_bounds [] i = omega arith
max_bounds (x ∷ xs) zero = le-max_left x (max_of xs)
max_bounds (x ∷ xs) (suc i) = le_trans (max_bounds xs i) (le-max_right x (max_of xs))

module _ (c : ℕ → Bool) (r : ℕ → ℕ → Bool) where
  -- the number that position p gets
  pub number : ℕ → ℕ
  number p = next_number c r (numbering c r p) p

  pub numbering_length : (n : ℕ) → length (numbering c r n) ≡ n
  unfolding numbering
  numbering_length zero = refl
  numbering_length (suc n) = rw length-append (omega (arith, numbering_length n))

  pub numbering_take : (n p : ℕ) → p ≤ n → take p (numbering c r n) ≡ numbering c r p
  unfolding numbering
  numbering_take zero p h = ap (λ (k : ℕ). take k []) z ∙ sym (ap (numbering c r) z)
    where
      z : p ≡ 0
      z = omega arith
  numbering_take (suc n) p h =
      ⊎_elim
      (λ (e : p ≡ suc n). ap (λ (k : ℕ). take k (numbering c r (suc n))) e ∙ take_all (suc n) (numbering c r (suc n)) (omega (arith, numbering_length (suc n))) ∙ ap (numbering c r) (sym e))
      (λ (l : p < suc n). take-append-le p (numbering c r n) (next_number c r (numbering c r n) n ∷ []) (omega (arith, numbering_length n)) ∙ numbering_take n p (omega arith))
      (eq-or-lt_of_le h)

  pub numbering_at : (n p : ℕ) → p < n → get_or (numbering c r n) p 0 ≡ number p
  unfolding numbering number
  numbering_at zero p h = absurd (omega arith)
  numbering_at (suc n) p h =
      ⊎_elim
      (λ (e : p ≡ n). ap (λ (k : ℕ). get_or (numbering c r (suc n)) k 0) e ∙ get_or_at (numbering c r n) (number n) [] 0 n (numbering_length n) ∙ ap number (sym e))
      (λ (l : p < n). get_or-append (numbering c r n) (number n ∷ []) 0 p (omega (arith, numbering_length n)) ∙ numbering_at n p l)
      (eq-or-lt_of_le (omega arith))

  -- an earlier position that c admits and r relates to p
  abbrev pub earlier : ℕ → ℕ → Bool
  earlier = matches c r

  pub number_out : (p : ℕ) → c p ≡ false → number p ≡ 0
  unfolding number next_number
  number_out p e = rw e

  pub number_old : (p : ℕ) → c p ≡ true → any_below p (earlier p) ≡ true → number p ≡ number (first_below p (earlier p))
  unfolding number next_number
  number_old p e a =
      let f = first_some p (earlier p) a in
      rw (e, lt-ltb (first_below p (earlier p)) p f.below) (numbering_at p (first_below p (earlier p)) f.below)

  pub number_new : (p : ℕ) → c p ≡ true → any_below p (earlier p) ≡ false → number p ≡ suc (max_of (numbering c r p))
  unfolding number next_number
  number_new p e a = rw (e, le-ltb (first_below p (earlier p)) p (omega (arith, first_none p (earlier p) a)))

  pub number_before : (p q : ℕ) → q < p → number q ≤ max_of (numbering c r p)
  number_before p q h = rw (← numbering_at p q h) (max_bounds (numbering c r p) q)

  pub number_next : (p : ℕ) → number p ≤ suc (max_of (numbering c r p))
  number_next p = go (either (c p)) (either (any_below p (earlier p)))
    where
      go : (c p ≡ true) ⊎ (c p ≡ false) → (any_below p (earlier p) ≡ true) ⊎ (any_below p (earlier p) ≡ false) → number p ≤ suc (max_of (numbering c r p))
      go (inr e) b = omega (arith, number_out p e)
      go (inl e) (inl a) =
          omega (arith, number_old p e a, number_before p (first_below p (earlier p)) (first_some p (earlier p) a).below)
      go (inl e) (inr a) = omega (arith, number_new p e a)

  some_below : (n p : ℕ) → p < n → c p ≡ true → 0 < number p
  unfolding matches
  some_below zero p h e = absurd (omega arith)
  some_below (suc n) p h e =
      ⊎_elim
      (λ (a : any_below p (earlier p) ≡ true).
      let f = first_some p (earlier p) a in
      rw (number_old p e a) (some_below n (first_below p (earlier p)) (omega (arith, f.below)) (and_left (c (first_below p (earlier p))) _ f.passes)))
      (λ (a : any_below p (earlier p) ≡ false). omega (arith, number_new p e a))
      (either (any_below p (earlier p)))

  pub number_some : (p : ℕ) → c p ≡ true → 0 < number p
  number_some p e = some_below (suc p) p (omega arith) e

  pub number_in : (p : ℕ) → 0 < number p → c p ≡ true
  number_in p h = ⊎_elim (λ e. e) (λ e. absurd (omega (arith, number_out p e))) (either (c p))

  module _
      (r_refl : (p : ℕ) → r p p ≡ true)
      (r_sym : (p q : ℕ) → r p q ≡ true → r q p ≡ true)
      (r_trans : (p q s : ℕ) → r p q ≡ true → r q s ≡ true → r p s ≡ true)
    where
      -- equal numbers: related
      same_before : (n p q : ℕ) → p < n → q < p → c p ≡ true → c q ≡ true → number q ≡ number p → r q p ≡ true
      unfolding matches
      same_before zero p q h l ep eq e = absurd (omega arith)
      same_before (suc n) p q h l ep eq e =
          ⊎_elim
          (λ (a : any_below p (earlier p) ≡ true).
          let f = first_below p (earlier p) in
          let is = first_some p (earlier p) a in
          let below : f < p = is.below in
          let cf : c f ≡ true = and_left (c f) (r f p) is.passes in
          let rf : r f p ≡ true = and_right (c f) (r f p) is.passes in
          let ef : number q ≡ number f = e ∙ number_old p ep a in
          r_trans q f p
          (⊎_elim
          (λ (qf : q < f). same_before n f q (omega arith) qf cf eq ef)
          (λ (fq : f ≤ q). ⊎_elim
          (λ (e' : f ≡ q). subst (λ (k : ℕ). r q k ≡ true) (sym e') (r_refl q))
          (λ (l' : f < q). r_sym f q (same_before n q f (omega arith) l' eq cf (sym ef)))
          (eq-or-lt_of_le fq))
          (order q f))
          rf)
          (λ (a : any_below p (earlier p) ≡ false). absurd (omega (arith, number_new p ep a, number_before p q l)))
          (either (any_below p (earlier p)))

      -- related: equal numbers
      related_before : (n p q : ℕ) → p < n → q < p → c p ≡ true → c q ≡ true → r q p ≡ true → number q ≡ number p
      unfolding matches
      related_before zero p q h l ep eq e = absurd (omega arith)
      related_before (suc n) p q h l ep eq e =
          let f = first_below p (earlier p) in
          let ei : c q && r q p ≡ true = and_intro (c q) (r q p) eq e in
          let a : any_below p (earlier p) ≡ true = any_here p (earlier p) q l ei in
          let is = first_some p (earlier p) a in
          let cf : c f ≡ true = and_left (c f) (r f p) is.passes in
          let rf : r f p ≡ true = and_right (c f) (r f p) is.passes in
          ⊎_elim
          (λ (e' : f ≡ q). ap number (sym e') ∙ sym (number_old p ep a))
          (λ (l' : f < q). sym (related_before n q f (omega arith) l' eq cf (r_trans f p q rf (r_sym q p e))) ∙ sym (number_old p ep a))
          (eq-or-lt_of_le (first_le p (earlier p) q l ei))

      pub same_related : (p q : ℕ) → c p ≡ true → c q ≡ true → number p ≡ number q → r p q ≡ true
      same_related p q ep eq e =
          ⊎_elim
          (λ (l : p < q). same_before (suc q) q p (omega arith) l eq ep e)
          (λ (g : q ≤ p). ⊎_elim
          (λ (e' : q ≡ p). subst (λ (k : ℕ). r p k ≡ true) (sym e') (r_refl p))
          (λ (l : q < p). r_sym q p (same_before (suc p) p q (omega arith) l ep eq (sym e)))
          (eq-or-lt_of_le g))
          (order p q)

      pub related_same : (p q : ℕ) → c p ≡ true → c q ≡ true → r p q ≡ true → number p ≡ number q
      related_same p q ep eq e =
          ⊎_elim
          (λ (l : p < q). related_before (suc q) q p (omega arith) l eq ep e)
          (λ (g : q ≤ p). ⊎_elim
          (λ (e' : q ≡ p). ap number (sym e'))
          (λ (l : q < p). sym (related_before (suc p) p q (omega arith) l ep eq (r_sym p q e)))
          (eq-or-lt_of_le g))
          (order p q)
