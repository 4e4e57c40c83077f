-- One numbered table: what its test says at a position, and that the numbering by any equivalence that gives the relation passes it.
use Prim.Native.Nat.{ℕ, suc, ◌≤◌, ◌<◌}
use mathlib.Core.Path.{◌≡◌, sym, ap, ◌∙◌}
use mathlib.Core.Logic.{⊎_elim}
use mathlib.Core.List.{List}
use mathlib.Core.Bool.{Bool, true, false, ◌&&◌, ◌||◌, not, beq}
use native.Mathlib.Nat.{eq-zero-or-pos}
use native.Mathlib.Omega.{arith}
use borrow.Author.Tests.{eqb-true, eq-eqb, ne_eqb, leb-true, le-leb}
use lib.Dec.{eqb, leb}
use lib.ListN.{get_or, take}
use Rattle.rules.specs.Finite.{first_below}
use Rattle.rules.specs.Levels.{max_of, first_of, numbering}
use Rattle.rules.specs.Accept.{number_ok}
use Rattle.rules.proofs.Laws.Tests.{either, and_left, and_right, and_intro, or_left, or_right, or_right_of, beq_eq, eq_beq}
use Rattle.rules.proofs.Laws.Finite.{first_is}
use Rattle.rules.proofs.Laws.Numbering.{number, numbering_take, numbering_at, number_out, number_next, number_some, number_in, same_related}

-- the three conditions of one position, read
pub record Right (is_in : ℕ → Bool) (alike : ℕ → ℕ → Bool) (n : ℕ) (t : List ℕ) (p : ℕ) : Type 0 where
  pub zeros : eqb (get_or t p 0) 0 ≡ not (is_in p)
  pub next : get_or t p 0 ≤ suc (max_of (take p t))
  pub agrees : 0 < get_or t p 0 → alike p (first_of n t (get_or t p 0)) ≡ true

module _ (is_in : ℕ → Bool) (alike : ℕ → ℕ → Bool) (n : ℕ) (t : List ℕ) (p : ℕ) where
  pub number_find : number_ok is_in alike n t p ≡ true → Right is_in alike n t p
  unfolding number_ok
  number_find e =
      let c = get_or t p 0 in
      let z = beq (eqb c 0) (not (is_in p)) in
      let a = alike p (first_of n t c) in
      let l = leb c (suc (max_of (take p t))) in
      let rest : (eqb c 0 || (l && a)) ≡ true = and_right z (eqb c 0 || (l && a)) e in
      let la : 0 < c → (l && a) ≡ true = λ h. or_right_of (eqb c 0) (l && a) (ne_eqb c 0 (λ q. omega arith)) rest in
      record {
        zeros = beq_eq (eqb c 0) (not (is_in p)) (and_left z (eqb c 0 || (l && a)) e);
        next = ⊎_elim (λ q. omega arith) (λ h. leb-true c (suc (max_of (take p t))) (and_left l a (la h))) (eq-zero-or-pos c);
        agrees = λ h. and_right l a (la h);
      }

  pub number_here : Right is_in alike n t p → number_ok is_in alike n t p ≡ true
  unfolding number_ok
  number_here r =
      let c = get_or t p 0 in
      and_intro (beq (eqb c 0) (not (is_in p))) _ (eq_beq _ _ r.zeros)
      (⊎_elim
      (λ z. or_left (eqb c 0) _ (eq-eqb c 0 z))
      (λ l. or_right (eqb c 0) _ (and_intro _ _ (le-leb c (suc (max_of (take p t))) r.next) (r.agrees l)))
      (eq-zero-or-pos c))

pub record Equivalence (r : ℕ → ℕ → Bool) : Type 0 where
  pub reflexive : (p : ℕ) → r p p ≡ true
  pub symmetric : (p q : ℕ) → r p q ≡ true → r q p ≡ true
  pub transitive : (p q s : ℕ) → r p q ≡ true → r q s ≡ true → r p s ≡ true

-- the table of n positions that an equivalence numbers, tested for a relation that the equivalence gives where both are in
module _ (is_in : ℕ → Bool) (same : ℕ → ℕ → Bool) (eqv : Equivalence same) (alike : ℕ → ℕ → Bool) (n : ℕ)
    (gives : (p q : ℕ) → p < n → q < n → is_in p ≡ true → is_in q ≡ true → same p q ≡ true → alike p q ≡ true)
  where
    numbered_zeros : (p : ℕ) → eqb (number is_in same p) 0 ≡ not (is_in p)
    numbered_zeros p =
        ⊎_elim
        (λ (e : is_in p ≡ true). ne_eqb (number is_in same p) 0 (λ z. omega (arith, number_some is_in same p e)) ∙ ap not (sym e))
        (λ (e : is_in p ≡ false). eq-eqb (number is_in same p) 0 (number_out is_in same p e) ∙ ap not (sym e))
        (either (is_in p))

    numbered_first : (p : ℕ) → p < n → 0 < number is_in same p → alike p (first_of n (numbering is_in same n) (number is_in same p)) ≡ true
    unfolding first_of
    numbered_first p h l =
        let t = numbering is_in same n in
        let c = number is_in same p in
        let f = first_is n (λ q. eqb (get_or t q 0) c) p h (eq-eqb _ _ (numbering_at is_in same n p h)) in
        let F = first_below n (λ q. eqb (get_or t q 0) c) in
        let e : c ≡ number is_in same F = sym (eqb-true (get_or t F 0) c f.passes) ∙ numbering_at is_in same n F f.below in
        let ip = number_in is_in same p l in
        let iF = number_in is_in same F (rw e at l) in
        gives p F h f.below ip iF (same_related is_in same eqv.reflexive eqv.symmetric eqv.transitive p F ip iF e)

    pub numbered_right : (p : ℕ) → p < n → Right is_in alike n (numbering is_in same n) p
    numbered_right p h =
        let e = numbering_at is_in same n p h in
        record {
          zeros = rw e (numbered_zeros p);
          next = rw (e, numbering_take is_in same n p (omega arith)) (number_next is_in same p);
          agrees = λ l. rw e (numbered_first p h (rw e at l));
        }
