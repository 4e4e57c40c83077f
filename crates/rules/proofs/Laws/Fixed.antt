-- Zeros, classes and "at most one above the largest before" fix a table: two tables that share the first two and have the third are the same up to each position.
use Prim.Native.Nat.{ℕ, zero, suc, ◌≤◌, ◌<◌}
use mathlib.Core.Path.{◌≡◌, refl, sym, ap, ap₂, ◌∙◌}
use mathlib.Core.Logic.{◌↔◌, ⊎_elim}
use mathlib.Core.List.{List, [], ◌∷◌, ◌++◌}
use native.Mathlib.Nat.{eq-zero-or-pos}
use native.Mathlib.Omega.{arith}
use lib.ListN.{length, get_or, take}
use lib.Seq.{take-suc, get_or-take}
use Rattle.rules.specs.Levels.{max_of}
use Rattle.rules.proofs.Laws.Tests.{order}
use Rattle.rules.proofs.Laws.Dense.{occurs_before}

-- each number of the table is at most one above the largest before it
pub record Dense (t : List ℕ) : Type 0 where
  pub next : (p : ℕ) → p < length t → get_or t p 0 ≤ suc (max_of (take p t))

-- the two tables have 0 at the same positions, and elsewhere the same number at the same pairs of positions
pub record SameClasses (s t : List ℕ) : Type 0 where
  pub size : length s ≡ length t
  pub zeros : (p : ℕ) → p < length s → (get_or s p 0 ≡ 0) ↔ (get_or t p 0 ≡ 0)
  pub classes : (p q : ℕ) → p < length s → q < length s → 0 < get_or s p 0 → 0 < get_or s q 0
      → (get_or s p 0 ≡ get_or s q 0) ↔ (get_or t p 0 ≡ get_or t q 0)

-- a number that is not above the largest before stands before, and there the other table has the same
old_same : (s t : List ℕ) → Dense s → (m : ℕ) → m < length s → take m s ≡ take m t
    → ((p : ℕ) → p < m → 0 < get_or t p 0 → get_or s p 0 ≡ get_or s m 0 → get_or t p 0 ≡ get_or t m 0)
    → 0 < get_or s m 0 → get_or s m 0 ≤ max_of (take m s) → get_or s m 0 ≡ get_or t m 0
old_same s t d m h e carries pos le =
    let r = occurs_before s d.next m (omega arith) (get_or s m 0) pos le in
    let p = r.0 in
    let before : get_or s p 0 ≡ get_or t p 0 = sym (get_or-take m s p 0 r.1) ∙ ap (λ (l : List ℕ). get_or l p 0) e ∙ get_or-take m t p 0 r.1 in
    sym r.2 ∙ before ∙ carries p r.1 (omega (arith, before, r.2)) r.2

module _ (s t : List ℕ) (a : Dense s) (b : Dense t) (like : SameClasses s t) where
  next_same : (m : ℕ) → m < length s → take m s ≡ take m t → get_or s m 0 ≡ get_or t m 0
  next_same m h e =
      let h' : m < length t = omega (arith, like.size) in
      let top : max_of (take m s) ≡ max_of (take m t) = ap max_of e in
      ⊎_elim
      (λ (z : get_or s m 0 ≡ 0). z ∙ sym ((like.zeros m h).0 z))
      (λ (ps : 0 < get_or s m 0).
      ⊎_elim
      (λ (z : get_or t m 0 ≡ 0). absurd (omega (arith, (like.zeros m h).1 z)))
      (λ (pt : 0 < get_or t m 0).
      ⊎_elim
      (λ (ls : max_of (take m s) < get_or s m 0).
      ⊎_elim
      (λ (lt : max_of (take m t) < get_or t m 0). omega (arith, a.next m h, b.next m h'))
      (λ (gt : get_or t m 0 ≤ max_of (take m t)).
      sym (old_same t s b m h' (sym e) (λ p l o. (like.classes p m (omega arith) h o ps).1) pt gt))
      (order (max_of (take m t)) (get_or t m 0)))
      (λ (gs : get_or s m 0 ≤ max_of (take m s)). old_same s t a m h e (λ p l o e'. (like.classes p m (omega arith) h (omega arith) ps).0 e') ps gs)
      (order (max_of (take m s)) (get_or s m 0)))
      (eq-zero-or-pos (get_or t m 0)))
      (eq-zero-or-pos (get_or s m 0))

  pub front_same : (m : ℕ) → m ≤ length s → take m s ≡ take m t
  front_same zero h = refl
  front_same (suc m) h =
      let e = front_same m (omega arith) in
      take-suc s m 0 h
      ∙ ap₂ (λ (l : List ℕ) (x : ℕ). l ++ (x ∷ [])) e (next_same m h e)
      ∙ sym (take-suc t m 0 (omega (arith, like.size)))
