-- Over accepted level tables two pairs with one number are path-bisimilar. So a query of diameter at most k holds at all pairs of a class of level k or at none.
use Prim.Native.Nat.{ℕ, zero, suc, ◌*◌, ◌/◌, ◌%◌, ◌≤◌, ◌<◌}
use mathlib.Core.Path.{◌≡◌, sym, ◌∙◌}
use mathlib.Core.List.{List}
use native.Mathlib.Nat.{div-add-mod'}
use native.Mathlib.Omega.{arith}
use lib.ListN.{get_or}
use Rattle.rules.specs.Graph.{Graph}
use Rattle.rules.specs.Query.{Query, diameter, meets}
use Rattle.rules.specs.Levels.{number_at}
use Rattle.rules.specs.Rule.{Rule, RuleLaws}
use Rattle.rules.specs.Published.{WellFormed, Walk, Bisimilar, alike, Twin, twin}
use Rattle.rules.specs.Accept.{LevelsAccepted}
use Rattle.rules.proofs.Laws.Graph.{conn_walk, walk_conn}
use Rattle.rules.proofs.Laws.Places.{row_lt, column_lt}
use Rattle.rules.proofs.Laws.Agree.{Agree, Twins}
use Rattle.rules.proofs.Laws.Accepted.{accepted_at, connected_number, number_connected, same_agree}
use Rattle.rules.proofs.Laws.Bisim.{bisim_meets}

module _ (ρ : Rule) (law : RuleLaws ρ) (g : Graph) (k : ℕ) (T : ℕ → List ℕ) (ok : LevelsAccepted ρ g k T) where
  bisim_below : (n i : ℕ) → i < n → i ≤ k → (v u x y : ℕ) → v < g.items → u < g.items → x < g.items → y < g.items
      → Agree ρ g i T v u x y → Bisimilar ρ g i v u x y
  bisim_below zero i l lk v u x y hv hu hx hy a = absurd (omega arith)
  bisim_below (suc n) i l lk v u x y hv hu hx hy a =
      alike a.ends a.steps
      (half (bisim_below n) v u x y hv hu hx hy a.there) (half (bisim_below n) x y v u hx hy hv hu a.back)
    where
      half : ((i : ℕ) → i < n → i ≤ k → (v u x y : ℕ) → v < g.items → u < g.items → x < g.items → y < g.items → Agree ρ g i T v u x y → Bisimilar ρ g i v u x y)
          → (v u x y : ℕ) → v < g.items → u < g.items → x < g.items → y < g.items
          → ((c : ℕ) → c < ρ.many i → Twins g.items (T (ρ.first i c)) (T (ρ.second i c)) v u x y)
          → (c m : ℕ) → c < ρ.many i → m < g.items → Walk g v (ρ.first i c) m → Walk g m (ρ.second i c) u → Twin ρ g (ρ.first i c) (ρ.second i c) v m u x y
      half ih v u x y hv hu hx hy tw c m hc hm a b =
          let i₁ = ρ.first i c in
          let i₂ = ρ.second i c in
          let l₁ : i₁ < i = law.first_below i c hc in
          let l₂ : i₂ < i = law.second_below i c hc in
          let ok₁ = accepted_at ρ g k T ok i₁ (law.first_some i c hc) (omega arith) in
          let ok₂ = accepted_at ρ g k T ok i₂ (law.second_some i c hc) (omega arith) in
          let n₁ = connected_number ρ g i₁ T ok₁ v m hv hm (walk_conn g v a) in
          let n₂ = connected_number ρ g i₂ T ok₂ m u hm hu (walk_conn g m b) in
          let r = (tw c hc).twin m hm n₁ n₂ in
          let w = r.0 in
          twin w r.1
          (conn_walk g i₁ x w (number_connected ρ g i₁ T ok₁ x w hx r.1 (rw r.2 at n₁)))
          (conn_walk g i₂ w y (number_connected ρ g i₂ T ok₂ w y r.1 hy (rw r.3 at n₂)))
          (ih i₁ (omega arith) (omega arith) v m x w hv hm hx r.1 (same_agree ρ g i₁ T ok₁ v m x w hv hm hx r.1 r.2 n₁))
          (ih i₂ (omega arith) (omega arith) m u w y hm hu r.1 hy (same_agree ρ g i₂ T ok₂ m u w y hm hu r.1 hy r.3 n₂))

  pub agree_bisim : (i : ℕ) → i ≤ k → (v u x y : ℕ) → v < g.items → u < g.items → x < g.items → y < g.items
      → Agree ρ g i T v u x y → Bisimilar ρ g i v u x y
  agree_bisim i lk = bisim_below (suc i) i (omega arith) lk

  -- one number: path-bisimilar
  pub accepted_bisim : (i : ℕ) → 0 < i → i ≤ k → (v u x y : ℕ) → v < g.items → u < g.items → x < g.items → y < g.items
      → number_at g.items (T i) v u ≡ number_at g.items (T i) x y → 0 < number_at g.items (T i) v u → Bisimilar ρ g i v u x y
  accepted_bisim i p b v u x y hv hu hx hy e l =
      agree_bisim i b v u x y hv hu hx hy (same_agree ρ g i T (accepted_at ρ g k T ok i p b) v u x y hv hu hx hy e l)

-- demand 3
pub all_or_none : (ρ : Rule) (law : RuleLaws ρ) (g : Graph) (k : ℕ) (T : ℕ → List ℕ) → LevelsAccepted ρ g k T → (q : Query) → WellFormed g.labels q → 0 < k → diameter q ≤ k
    → (v u x y : ℕ) → v < g.items → u < g.items → x < g.items → y < g.items
    → number_at g.items (T k) v u ≡ number_at g.items (T k) x y → 0 < number_at g.items (T k) v u
    → meets g q v u ≡ meets g q x y
all_or_none ρ law g k T ok q w p d v u x y hv hu hx hy e l =
    bisim_meets ρ law g q k p w d v u x y hv hu hx hy (accepted_bisim ρ law g k T ok k p (omega arith) v u x y hv hu hx hy e l)

-- the same over positions: every class c but 0
pub all_or_none_class : (ρ : Rule) (law : RuleLaws ρ) (g : Graph) (k : ℕ) (T : ℕ → List ℕ) → LevelsAccepted ρ g k T → (q : Query) → WellFormed g.labels q → 0 < k → diameter q ≤ k
    → (c : ℕ) → 0 < c → (a b : ℕ) → a < g.items * g.items → b < g.items * g.items → get_or (T k) a 0 ≡ c → get_or (T k) b 0 ≡ c
    → meets g q (a / g.items) (a % g.items) ≡ meets g q (b / g.items) (b % g.items)
unfolding number_at
all_or_none_class ρ law g k T ok q w p d c pos a b ha hb ea eb =
    let n = g.items in
    let ea' : number_at n (T k) (a / n) (a % n) ≡ c = rw div-add-mod' ea in
    let eb' : number_at n (T k) (b / n) (b % n) ≡ c = rw div-add-mod' eb in
    all_or_none ρ law g k T ok q w p d (a / n) (a % n) (b / n) (b % n) (row_lt n a ha) (column_lt n a ha) (row_lt n b hb) (column_lt n b hb)
    (ea' ∙ sym eb') (rw ea' pos)
