-- Path-bisimulation (source document 001, Definition 4.1) is an equivalence relation, and bisimilar pairs meet the same queries (Theorem 4.1).
use Prim.Native.Nat.{ℕ, zero, suc, ◌≤◌, ◌<◌}
use mathlib.Core.Path.{◌≡◌, sym, subst}
use mathlib.Core.Logic.{⊎_elim}
use native.Mathlib.Nat.{eq-zero-or-pos}
use native.Mathlib.Omega.{arith}
use Rattle.rules.specs.Graph.{Graph}
use Rattle.rules.specs.Query.{Query, atom, join, both, diameter, meets}
use Rattle.rules.specs.Rule.{Rule, RuleLaws}
use Rattle.rules.specs.Published.{Meets, WellFormed, Walk, SameEnds, SameSteps, Bisimilar, alike, Twin, twin}
use Rattle.rules.proofs.Laws.Tests.{same}
use Rattle.rules.proofs.Laws.Graph.{conn_le, conn_walk}
use Rattle.rules.proofs.Laws.Ends.{ends_refl, ends_sym, ends_trans, ends_first, ends_last, steps_refl, steps_sym, steps_trans}
use Rattle.rules.proofs.Laws.Query.{holds_carries, meets_find, meets_here, point_eq, point_carries, meets_connected}

-- a twin, read
abbrev pub IsTwin : Rule → Graph → ℕ → ℕ → ℕ → ℕ → ℕ → ℕ → ℕ → Type 0
IsTwin ρ g a b v m u x y = (w : ℕ) × (w < g.items) × Walk g x a w × Walk g w b y × Bisimilar ρ g a v m x w × Bisimilar ρ g b m u w y

-- the parts of a bisimulation
module _ {ρ : Rule} {g : Graph} where
  pub bisim_ends : {i v u x y : ℕ} → Bisimilar ρ g i v u x y → SameEnds g v u x y
  bisim_ends (alike a b t r) = a

  pub bisim_steps : {i v u x y : ℕ} → Bisimilar ρ g i v u x y → SameSteps g v u x y
  bisim_steps (alike a b t r) = b

  pub bisim_sym : {i v u x y : ℕ} → Bisimilar ρ g i v u x y → Bisimilar ρ g i x y v u
  bisim_sym (alike a b t r) = alike (ends_sym a) (steps_sym b) r t

  pub twin_read : {a b v m u x y : ℕ} → Twin ρ g a b v m u x y → IsTwin ρ g a b v m u x y
  twin_read (twin w h k l p q) = (w, h, k, l, p, q)

  pub bisim_there : {i v u x y : ℕ} → Bisimilar ρ g i v u x y → (c m : ℕ) → c < ρ.many i → m < g.items
      → Walk g v (ρ.first i c) m → Walk g m (ρ.second i c) u → IsTwin ρ g (ρ.first i c) (ρ.second i c) v m u x y
  bisim_there (alike a b t r) c m hc hm p q = twin_read (t c m hc hm p q)

module _ (ρ : Rule) (law : RuleLaws ρ) (g : Graph) where
  refl_below : (n i v u : ℕ) → i < n → Bisimilar ρ g i v u v u
  refl_below zero i v u l = absurd (omega arith)
  refl_below (suc n) i v u l = alike (ends_refl g v u) (steps_refl g v u) (half (refl_below n)) (half (refl_below n))
    where
      half : ((i v u : ℕ) → i < n → Bisimilar ρ g i v u v u) → (c m : ℕ) → c < ρ.many i → m < g.items
          → Walk g v (ρ.first i c) m → Walk g m (ρ.second i c) u → Twin ρ g (ρ.first i c) (ρ.second i c) v m u v u
      half ih c m hc hm p q =
          twin m hm p q (ih (ρ.first i c) v m (omega (arith, law.first_below i c hc))) (ih (ρ.second i c) m u (omega (arith, law.second_below i c hc)))

  pub bisim_refl : (i v u : ℕ) → Bisimilar ρ g i v u v u
  bisim_refl i v u = refl_below (suc i) i v u (omega arith)

  trans_below : (n i v u x y z w : ℕ) → i < n → Bisimilar ρ g i v u x y → Bisimilar ρ g i x y z w → Bisimilar ρ g i v u z w
  trans_below zero i v u x y z w l a b = absurd (omega arith)
  trans_below (suc n) i v u x y z w l a b =
      alike (ends_trans (bisim_ends a) (bisim_ends b)) (steps_trans (bisim_steps a) (bisim_steps b))
      (half (trans_below n) v u x y z w a b) (half (trans_below n) z w x y v u (bisim_sym b) (bisim_sym a))
    where
      half : ((i v u x y z w : ℕ) → i < n → Bisimilar ρ g i v u x y → Bisimilar ρ g i x y z w → Bisimilar ρ g i v u z w)
          → (v u x y z w : ℕ) → Bisimilar ρ g i v u x y → Bisimilar ρ g i x y z w → (c m : ℕ) → c < ρ.many i → m < g.items
          → Walk g v (ρ.first i c) m → Walk g m (ρ.second i c) u → Twin ρ g (ρ.first i c) (ρ.second i c) v m u z w
      half ih v u x y z w a b c m hc hm p q =
          let r = bisim_there a c m hc hm p q in
          let s = bisim_there b c r.0 hc r.1 r.2 r.3 in
          twin s.0 s.1 s.2 s.3
          (ih (ρ.first i c) v m x r.0 z s.0 (omega (arith, law.first_below i c hc)) r.4 s.4)
          (ih (ρ.second i c) m u r.0 y s.0 w (omega (arith, law.second_below i c hc)) r.5 s.5)

  pub bisim_trans : (i v u x y z w : ℕ) → Bisimilar ρ g i v u x y → Bisimilar ρ g i x y z w → Bisimilar ρ g i v u z w
  bisim_trans i v u x y z w a b = trans_below (suc i) i v u x y z w (omega arith) a b

module _ (ρ : Rule) (law : RuleLaws ρ) (g : Graph) where
  -- Theorem 4.1: what a pair meets, a bisimilar pair meets
  pub bisim_carries : (q : Query) (i : ℕ) → 0 < i → WellFormed g.labels q → diameter q ≤ i
      → (v u x y : ℕ) → v < g.items → u < g.items → x < g.items → y < g.items → Bisimilar ρ g i v u x y → Meets g q v u → Meets g q x y
  unfolding Meets WellFormed diameter
  bisim_carries (atom o) i p w d v u x y hv hu hx hy a r = holds_carries g o w (bisim_ends a) (bisim_steps a) r
  bisim_carries (both q₁ q₂) i p w d v u x y hv hu hx hy a r =
      (bisim_carries q₁ i p w.0 (omega arith) v u x y hv hu hx hy a r.0, bisim_carries q₂ i p w.1 (omega arith) v u x y hv hu hx hy a r.1)
  bisim_carries (join q₁ q₂) i p w d v u x y hv hu hx hy a r =
      let m = r.0 in
      ⊎_elim
      -- the first stays where it is
      (λ (z : diameter q₁ ≡ 0).
      let e : v ≡ m = point_eq g q₁ v m z r.2 in (
        x,
        hx,
        point_carries g q₁ v x hx z (ends_first (bisim_ends a)) (subst (λ (j : ℕ). Meets g q₁ v j) (sym e) r.2),
        bisim_carries q₂ i p w.1 (omega arith) v u x y hv hu hx hy a (subst (λ (j : ℕ). Meets g q₂ j u) (sym e) r.3),
      ))
      (λ (o₁ : 0 < diameter q₁). ⊎_elim
      -- the second does
      (λ (z : diameter q₂ ≡ 0).
      let e : m ≡ u = point_eq g q₂ m u z r.3 in (
        y,
        hy,
        bisim_carries q₁ i p w.0 (omega arith) v u x y hv hu hx hy a (subst (λ (j : ℕ). Meets g q₁ v j) e r.2),
        point_carries g q₂ u y hy z (ends_last (bisim_ends a)) (subst (λ (j : ℕ). Meets g q₂ j u) e r.3),
      ))
      -- neither does: some split covers them, and the midpoint has a twin
      (λ (o₂ : 0 < diameter q₂).
      let sp = law.covers i (diameter q₁) (diameter q₂) o₁ o₂ d in
      let c = sp.0 in
      let i₁ = ρ.first i c in
      let i₂ = ρ.second i c in
      let t = bisim_there a c m sp.1 r.1
      (conn_walk g i₁ v m (conn_le g (diameter q₁) i₁ v m sp.2 (meets_connected g q₁ v m w.0 hv r.2)))
      (conn_walk g i₂ m u (conn_le g (diameter q₂) i₂ m u sp.3 (meets_connected g q₂ m u w.1 r.1 r.3))) in (
        t.0,
        t.1,
        bisim_carries q₁ i₁ (law.first_some i c sp.1) w.0 sp.2 v m x t.0 hv r.1 hx t.1 t.4 r.2,
        bisim_carries q₂ i₂ (law.second_some i c sp.1) w.1 sp.3 m u t.0 y r.1 hu t.1 hy t.5 r.3,
      ))
      (eq-zero-or-pos (diameter q₂)))
      (eq-zero-or-pos (diameter q₁))

  pub bisim_meets : (q : Query) (i : ℕ) → 0 < i → WellFormed g.labels q → diameter q ≤ i
      → (v u x y : ℕ) → v < g.items → u < g.items → x < g.items → y < g.items → Bisimilar ρ g i v u x y → meets g q v u ≡ meets g q x y
  bisim_meets q i p w d v u x y hv hu hx hy a =
      same (meets g q v u) (meets g q x y)
      (λ t. meets_here g q x y (bisim_carries q i p w d v u x y hv hu hx hy a (meets_find g q v u t)))
      (λ t. meets_here g q v u (bisim_carries q i p w d x y v u hx hy hv hu (bisim_sym a) (meets_find g q x y t)))
