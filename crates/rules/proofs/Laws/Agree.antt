-- Agreement of two pairs, read as a record, is an equivalence relation whatever the tables below.
use Prim.Native.Nat.{ℕ, ◌≤◌, ◌<◌}
use mathlib.Core.Path.{◌≡◌, refl, sym, ap, ap₂, ◌∙◌}
use mathlib.Core.Logic.{◌⊎◌, inl, inr}
use mathlib.Core.List.{List}
use mathlib.Core.Bool.{Bool, true, false, ◌&&◌, ◌||◌}
use native.Mathlib.Omega.{arith}
use borrow.Author.Tests.{eqb-true, eq-eqb, ne_eqb}
use lib.Dec.{eqb}
use Rattle.rules.specs.Finite.{any_below, all_below}
use Rattle.rules.specs.Graph.{Graph}
use Rattle.rules.specs.Rule.{Rule, RuleLaws}
use Rattle.rules.specs.Levels.{number_at, same_ends, same_steps, is_twin, has_twin, twins, split_ok, agree}
use Rattle.rules.specs.Published.{SameEnds, SameSteps}
use Rattle.rules.proofs.Laws.Ends.{ends_refl, ends_sym, ends_trans, ends_find, ends_here, steps_refl, steps_sym, steps_trans, steps_find, steps_here}
use Rattle.rules.proofs.Laws.Tests.{and_left, and_right, and_intro, or_left, or_right, or_right_of, order}
use Rattle.rules.proofs.Laws.Finite.{any_find, any_here, all_at, all_intro, all_same}

-- each midpoint of (v,u) has a twin among those of (x,y)
pub record Twins (n : ℕ) (s t : List ℕ) (v u x y : ℕ) : Type 0 where
  pub twin : (m : ℕ) → m < n → 0 < number_at n s v m → 0 < number_at n t m u
      → (w : ℕ) × (w < n) × (number_at n s v m ≡ number_at n s x w) × (number_at n t m u ≡ number_at n t w y)

-- the test of one midpoint
module _ (n : ℕ) (s t : List ℕ) (v u x y m : ℕ) where
  twin_find : has_twin n s t v u x y m ≡ true → 0 < number_at n s v m → 0 < number_at n t m u
      → (w : ℕ) × (w < n) × (number_at n s v m ≡ number_at n s x w) × (number_at n t m u ≡ number_at n t w y)
  unfolding has_twin is_twin
  twin_find e a b =
      let nz : (eqb (number_at n s v m) 0 || eqb (number_at n t m u) 0) ≡ false =
      rw (ne_eqb (number_at n s v m) 0 (λ q. omega arith), ne_eqb (number_at n t m u) 0 (λ q. omega arith)) in
      let r = any_find n (is_twin n s t v u x y m) (or_right_of _ _ nz e) in
      let w = r.0 in
      let first = eqb (number_at n s x w) (number_at n s v m) in
      let second = eqb (number_at n t w y) (number_at n t m u) in (
        w,
        r.1,
        sym (eqb-true (number_at n s x w) (number_at n s v m) (and_left first second r.2)),
        sym (eqb-true (number_at n t w y) (number_at n t m u) (and_right first second r.2)),
      )

  twin_here : (0 < number_at n s v m → 0 < number_at n t m u → (w : ℕ) × (w < n) × (number_at n s v m ≡ number_at n s x w) × (number_at n t m u ≡ number_at n t w y))
      → has_twin n s t v u x y m ≡ true
  unfolding has_twin is_twin
  twin_here f = go (order 0 (number_at n s v m)) (order 0 (number_at n t m u))
    where
      go : (0 < number_at n s v m) ⊎ (number_at n s v m ≤ 0) → (0 < number_at n t m u) ⊎ (number_at n t m u ≤ 0)
          → ((eqb (number_at n s v m) 0 || eqb (number_at n t m u) 0) || any_below n (is_twin n s t v u x y m)) ≡ true
      go (inl a) (inl b) =
          let r = f a b in
          or_right (eqb (number_at n s v m) 0 || eqb (number_at n t m u) 0) (any_below n (is_twin n s t v u x y m))
          (any_here n (is_twin n s t v u x y m) r.0 r.1 (and_intro _ _ (eq-eqb _ _ (sym r.2)) (eq-eqb _ _ (sym r.3))))
      go (inl a) (inr b) =
          or_left (eqb (number_at n s v m) 0 || eqb (number_at n t m u) 0) _ (or_right (eqb (number_at n s v m) 0) (eqb (number_at n t m u) 0) (eq-eqb (number_at n t m u) 0 (omega arith)))
      go (inr a) b =
          or_left (eqb (number_at n s v m) 0 || eqb (number_at n t m u) 0) _ (or_left (eqb (number_at n s v m) 0) (eqb (number_at n t m u) 0) (eq-eqb (number_at n s v m) 0 (omega arith)))

pub twins_find : (n : ℕ) (s t : List ℕ) (v u x y : ℕ) → twins n s t v u x y ≡ true → Twins n s t v u x y
unfolding twins
twins_find n s t v u x y e = record { twin = λ m h. twin_find n s t v u x y m (all_at n (has_twin n s t v u x y) e m h) }

pub twins_here : (n : ℕ) (s t : List ℕ) (v u x y : ℕ) → Twins n s t v u x y → twins n s t v u x y ≡ true
unfolding twins
twins_here n s t v u x y f = all_intro n (has_twin n s t v u x y) (λ m h. twin_here n s t v u x y m (f.twin m h))

pub twins_trans : {n : ℕ} {s t : List ℕ} {v u x y z w : ℕ} → Twins n s t v u x y → Twins n s t x y z w → Twins n s t v u z w
twins_trans a b = record {
  twin = λ m h p q.
      let r = a.twin m h p q in
      let s = b.twin r.0 r.1 (rw r.2 at p) (rw r.3 at q) in
      (s.0, s.1, r.2 ∙ s.2, r.3 ∙ s.3);
}

-- A, B and C
pub record Agree (ρ : Rule) (g : Graph) (i : ℕ) (T : ℕ → List ℕ) (v u x y : ℕ) : Type 0 where
  pub ends : SameEnds g v u x y
  pub steps : SameSteps g v u x y
  pub there : (c : ℕ) → c < ρ.many i → Twins g.items (T (ρ.first i c)) (T (ρ.second i c)) v u x y
  pub back : (c : ℕ) → c < ρ.many i → Twins g.items (T (ρ.first i c)) (T (ρ.second i c)) x y v u

module _ (ρ : Rule) (g : Graph) (i : ℕ) (T : ℕ → List ℕ) where
  pub agree_find : (v u x y : ℕ) → agree ρ g i T v u x y ≡ true → Agree ρ g i T v u x y
  unfolding agree split_ok
  agree_find v u x y e =
      let n = g.items in
      let cs : Bool = all_below (ρ.many i) (split_ok ρ g i T v u x y) in
      let ab = and_left (same_ends g v u x y && same_steps g v u x y) cs e in
      let sp = all_at (ρ.many i) (split_ok ρ g i T v u x y) (and_right (same_ends g v u x y && same_steps g v u x y) cs e) in
      record {
        ends = ends_find g v u x y (and_left (same_ends g v u x y) (same_steps g v u x y) ab);
        steps = steps_find g v u x y (and_right (same_ends g v u x y) (same_steps g v u x y) ab);
        there = λ c h.
            let s = T (ρ.first i c) in
            let t = T (ρ.second i c) in
            twins_find n s t v u x y (and_left (twins n s t v u x y) (twins n s t x y v u) (sp c h));
        back = λ c h.
            let s = T (ρ.first i c) in
            let t = T (ρ.second i c) in
            twins_find n s t x y v u (and_right (twins n s t v u x y) (twins n s t x y v u) (sp c h));
      }

  pub agree_here : (v u x y : ℕ) → Agree ρ g i T v u x y → agree ρ g i T v u x y ≡ true
  unfolding agree split_ok
  agree_here v u x y a =
      and_intro _ _
      (and_intro _ _ (ends_here g v u x y a.ends) (steps_here g v u x y a.steps))
      (all_intro (ρ.many i) _ (λ c h. and_intro _ _ (twins_here g.items _ _ v u x y (a.there c h)) (twins_here g.items _ _ x y v u (a.back c h))))

  pub agree_refl : (v u : ℕ) → Agree ρ g i T v u v u
  agree_refl v u =
      record {
        ends = ends_refl g v u;
        steps = steps_refl g v u;
        there = λ c l. record { twin = λ m h a b. (m, h, refl, refl) };
        back = λ c l. record { twin = λ m h a b. (m, h, refl, refl) };
      }

  pub agree_sym : {v u x y : ℕ} → Agree ρ g i T v u x y → Agree ρ g i T x y v u
  agree_sym a = record { ends = ends_sym a.ends; steps = steps_sym a.steps; there = a.back; back = a.there }

  pub agree_trans : {v u x y z w : ℕ} → Agree ρ g i T v u x y → Agree ρ g i T x y z w → Agree ρ g i T v u z w
  agree_trans a b =
      record {
        ends = ends_trans a.ends b.ends;
        steps = steps_trans a.steps b.steps;
        there = λ c l. twins_trans (a.there c l) (b.there c l);
        back = λ c l. twins_trans (b.back c l) (a.back c l);
      }

-- agreement looks at the levels below only
pub agree_below : (ρ : Rule) (law : RuleLaws ρ) (g : Graph) (i : ℕ) (S T : ℕ → List ℕ) → ((j : ℕ) → j < i → S j ≡ T j)
    → (v u x y : ℕ) → agree ρ g i S v u x y ≡ agree ρ g i T v u x y
unfolding agree split_ok
agree_below ρ law g i S T e v u x y =
    ap (λ (b : Bool). same_ends g v u x y && same_steps g v u x y && b)
    (all_same (ρ.many i) _ _ (λ c h.
    ap₂ (λ (s t : List ℕ). twins g.items s t v u x y && twins g.items s t x y v u)
    (e (ρ.first i c) (law.first_below i c h)) (e (ρ.second i c) (law.second_below i c h))))
