-- One position more of a numbering, as the code makes it.
use Prim.Native.Nat.{ℕ, zero, suc, ◌+◌, ◌≤◌, ◌<◌}
use mathlib.Core.Path.{◌≡◌, refl, sym, ap₂, ◌∙◌}
use mathlib.Core.List.{List, [], ◌∷◌, ◌++◌}
use mathlib.Core.Bool.{Bool, true, false, cond, ◌&&◌}
use native.Mathlib.Numerals.{add-one}
use native.Mathlib.Omega.{arith}
use lib.Dec.{ltb}
use lib.ListN.{get_or}
use lib.Seq.{get_or_at}
use borrow.Author.Tests.{le-ltb}
use Rattle.rules.specs.Finite.{any_below, first_below}
use Rattle.rules.specs.Levels.{matches, next_number, numbering, max_of}
use Rattle.rules.proofs.Laws.Finite.{any_same, first_none}
use Rattle.rules.proofs.Laws.Numbering.{max_bounds, number, numbering_at, numbering_length, related_same}

cond_le : (a b : Bool) (x y m : ℕ) → x ≤ m → y ≤ m → cond a (cond b x y) 0 ≤ m
cond_le true true x y m h k = h
cond_le true false x y m h k = k
cond_le false b x y m h k = omega arith

module _ (c : ℕ → Bool) (r : ℕ → ℕ → Bool) where
  pub numbering_more : (p : ℕ) → numbering c r (p + 1) ≡ numbering c r p ++ (next_number c r (numbering c r p) p ∷ [])
  unfolding numbering
  numbering_more p = rw add-one refl

  module _ (ns : List ℕ) (p : ℕ) where
    pub next_out : c p ≡ false → 0 ≡ next_number c r ns p
    unfolding next_number
    next_out h = rw h refl

    pub next_new : {q top : ℕ} → c p ≡ true → q ≡ first_below p (matches c r p) → p ≤ q → top ≡ max_of ns → top + 1 ≡ next_number c r ns p
    unfolding next_number
    next_new {q} {top} h e l m = rw (h, ← e, le-ltb q p l, m) (add-one (max_of ns))

    pub next_le : next_number c r ns p ≤ max_of ns + 1
    unfolding next_number
    next_le =
        let f = first_below p (matches c r p) in
        cond_le (c p) (ltb f p) (get_or ns f 0) (suc (max_of ns)) (max_of ns + 1) (omega (arith, max_bounds ns f)) (omega arith)

-- where two tests are equal below the bound, so is what is made of them
pub first_same : (n : ℕ) (f g : ℕ → Bool) → ((k : ℕ) → k < n → f k ≡ g k) → first_below n f ≡ first_below n g
unfolding first_below
first_same zero f g h = refl
first_same (suc n) f g h =
    rw (any_same n f g (λ k l. h k (omega arith)), first_same n f g (λ k l. h k (omega arith)), h n (omega arith)) refl

module _ (c c' : ℕ → Bool) (r r' : ℕ → ℕ → Bool) where
  next_same_as : (ns : List ℕ) (p : ℕ) → ((q : ℕ) → q < suc p → c q ≡ c' q) → ((q : ℕ) → q < p → r q p ≡ r' q p) → next_number c r ns p ≡ next_number c' r' ns p
  unfolding next_number matches
  next_same_as ns p h k =
      rw (first_same p (matches c r p) (matches c' r' p) (λ q l. ap₂ ◌&&◌ (h q (omega arith)) (k q l)), h p (omega arith)) refl

  pub numbering_same : (n : ℕ) → ((q : ℕ) → q < n → c q ≡ c' q) → ((q p : ℕ) → q < n → p < n → r q p ≡ r' q p) → numbering c r n ≡ numbering c' r' n
  unfolding numbering
  numbering_same zero h k = refl
  numbering_same (suc n) h k =
      let e = numbering_same n (λ q l. h q (omega arith)) (λ q p l j. k q p (omega arith) (omega arith)) in
      rw (e, next_same_as (numbering c' r' n) n h (λ q l. k q n (omega arith) (omega arith))) refl

number_is : (c : ℕ → Bool) (r : ℕ → ℕ → Bool) (p : ℕ) → next_number c r (numbering c r p) p ≡ number c r p
unfolding numbering
number_is c r p = sym (get_or_at (numbering c r p) (next_number c r (numbering c r p) p) [] 0 p (numbering_length c r p)) ∙ numbering_at c r (suc p) p (omega arith)

-- any earlier position alike p has the number of p
pub next_alike : (c : ℕ → Bool) (r : ℕ → ℕ → Bool)
    → (r_refl : (p : ℕ) → r p p ≡ true) → (r_sym : (p q : ℕ) → r p q ≡ true → r q p ≡ true) → (r_trans : (p q s : ℕ) → r p q ≡ true → r q s ≡ true → r p s ≡ true)
    → (p q : ℕ) → c p ≡ true → q < p → c q ≡ true → r q p ≡ true → get_or (numbering c r p) q 0 ≡ next_number c r (numbering c r p) p
next_alike c r r_refl r_sym r_trans p q cp l cq a =
    numbering_at c r p q l ∙ related_same c r r_refl r_sym r_trans q p cq cp a ∙ sym (number_is c r p)

-- and where none is, it is a new one
pub next_none : (c : ℕ → Bool) (r : ℕ → ℕ → Bool) (ns : List ℕ) (p top : ℕ) → c p ≡ true → any_below p (matches c r p) ≡ false → top ≡ max_of ns → top + 1 ≡ next_number c r ns p
next_none c r ns p top h none m = next_new c r ns p h (sym (first_none p (matches c r p) none)) (omega arith) m
