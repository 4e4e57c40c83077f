-- Tables whose numbers are each at most one above the largest before: every number from 1 to the largest occurs, and first positions ascend with their numbers.
use Prim.Native.Nat.{ℕ, zero, suc, ◌≤◌, ◌<◌, max}
use mathlib.Core.Path.{◌≡◌, refl, ap, ◌∙◌, subst}
use mathlib.Core.Logic.{⊎_elim}
use mathlib.Core.List.{List, [], ◌∷◌, ◌++◌}
use mathlib.Core.Bool.{true, false, ◌&&◌}
use native.Mathlib.Nat.{eq-or-lt_of_le}
use native.Mathlib.Omega.{arith}
use borrow.Author.Tests.{eqb-true, eq-eqb, lt-ltb, ltb-true}
use lib.Dec.{eqb, ltb}
use lib.ListN.{length, get_or, take}
use lib.Seq.{take-suc, take_all, get_or-take}
use Rattle.rules.specs.Finite.{first_below}
use Rattle.rules.specs.Levels.{max_of, first_of}
use Rattle.rules.specs.Stored.{leader}
use Rattle.rules.proofs.Laws.Tests.{order, and_left, and_right, and_intro, not_true_of}
use Rattle.rules.proofs.Laws.Finite.{first_is, first_le}
use Rattle.rules.proofs.Laws.Numbering.{max_bounds}

pub max_snoc : (l : List ℕ) (x : ℕ) → max_of (l ++ (x ∷ [])) ≡ max (max_of l) x
unfolding max_of
max_snoc [] x = omega arith
max_snoc (y ∷ l) x = omega (arith, max_snoc l x)

module _ (t : List ℕ) (next : (p : ℕ) → p < length t → get_or t p 0 ≤ suc (max_of (take p t))) where
  -- the largest of one more
  pub max_more : (m : ℕ) → m < length t → max_of (take (suc m) t) ≡ max (max_of (take m t)) (get_or t m 0)
  max_more m h = ap max_of (take-suc t m 0 h) ∙ max_snoc (take m t) (get_or t m 0)

  -- every number up to the largest of the first m occurs among them
  pub occurs_before : (m : ℕ) → m ≤ length t → (c : ℕ) → 0 < c → c ≤ max_of (take m t) → (p : ℕ) × (p < m) × (get_or t p 0 ≡ c)
  occurs_before zero h c pos le = absurd (none t c pos le)
    where
      none : (t : List ℕ) (c : ℕ) → 0 < c → c ≤ max_of (take 0 t) → ⊥
      none t c pos le = unfold max_of in omega arith
  occurs_before (suc m) h c pos le =
      ⊎_elim
      (λ (l : max_of (take m t) < c). (m, omega arith, omega (arith, max_more m h, next m h)))
      (λ (l : c ≤ max_of (take m t)). let r = occurs_before m (omega arith) c pos l in (r.0, omega (arith, r.1), r.2))
      (order (max_of (take m t)) c)

  pub occurs : (c : ℕ) → 0 < c → c ≤ max_of t → (p : ℕ) × (p < length t) × (get_or t p 0 ≡ c)
  occurs c pos le = occurs_before (length t) (omega arith) c pos (rw (take_all (length t) t (omega arith)) le)

  -- classes are numbered by their first pairs
  pub first_ascends : (c d : ℕ) → 0 < c → c < d → d ≤ max_of t → first_of (length t) t c < first_of (length t) t d
  unfolding first_of
  first_ascends c d pos l le =
      let n = length t in
      let r = occurs d (omega arith) le in
      let p = first_of n t d in
      let f = first_is n (λ q. eqb (get_or t q 0) d) r.0 r.1 (eq-eqb (get_or t r.0 0) d r.2) in
      let e : get_or t p 0 ≡ d = eqb-true (get_or t p 0) d f.passes in
      let s = occurs_before p (omega (arith, f.below)) c pos (omega (arith, next p f.below)) in
      omega (arith, s.1, first_le n (λ q. eqb (get_or t q 0) c) s.0 (omega (arith, s.1, f.below)) (eq-eqb (get_or t s.0 0) c s.2))

  -- a position whose number is new is the first of it
  pub new_leader : (p : ℕ) → p < length t → max_of (take p t) < get_or t p 0 → leader (length t) t p ≡ true
  unfolding leader first_of
  new_leader p h l =
      let n = length t in
      let c = get_or t p 0 in
      let f = first_is n (λ q. eqb (get_or t q 0) c) p h (eq-eqb c c refl) in
      let a = first_below n (λ q. eqb (get_or t q 0) c) in
      let e : get_or t a 0 ≡ c = eqb-true (get_or t a 0) c f.passes in
      and_intro (ltb 0 c) (eqb a p) (lt-ltb 0 c (omega arith))
      (eq-eqb a p
      (⊎_elim (λ (q : a ≡ p). q)
      (λ (q : a < p). absurd (omega (arith, e, before_max p a q)))
      (eq-or-lt_of_le (first_le n (λ q. eqb (get_or t q 0) c) p h (eq-eqb c c refl)))))
    where
      before_max : (p a : ℕ) → a < p → get_or t a 0 ≤ max_of (take p t)
      before_max p a l = subst (λ (x : ℕ). x ≤ max_of (take p t)) (get_or-take p t a 0 l) (max_bounds (take p t) a)

  -- one whose number is 0 or was there before is not
  pub old_leader : (p : ℕ) → p < length t → get_or t p 0 ≤ max_of (take p t) → leader (length t) t p ≡ false
  unfolding leader first_of
  old_leader p h l =
      let n = length t in
      let c = get_or t p 0 in
      let a = first_below n (λ q. eqb (get_or t q 0) c) in
      not_true_of (ltb 0 c && eqb a p)
      (λ e.
      let pos = ltb-true 0 c (and_left (ltb 0 c) (eqb a p) e) in
      let q : a ≡ p = eqb-true a p (and_right (ltb 0 c) (eqb a p) e) in
      let s = occurs_before p (omega arith) c pos l in
      omega (arith, q, s.1, first_le n (λ q. eqb (get_or t q 0) c) s.0 (omega (arith, s.1)) (eq-eqb (get_or t s.0 0) c s.2)))
