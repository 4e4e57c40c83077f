-- The builder's tables are accepted, and its classes are those of path-bisimulation.
use Prim.Native.Nat.{ℕ, zero, suc, ◌+◌, ◌*◌, ◌/◌, ◌%◌, ◌≤◌, ◌<◌}
use mathlib.Core.Path.{◌≡◌, sym, ◌∙◌}
use mathlib.Core.Logic.{◌↔◌}
use mathlib.Core.List.{List}
use mathlib.Core.Bool.{true}
use native.Mathlib.Omega.{arith}
use lib.ListN.{get_or}
use Rattle.rules.specs.Graph.{Graph, connected}
use Rattle.rules.specs.Rule.{Rule, RuleLaws}
use Rattle.rules.specs.Levels.{number_at, numbering, agree_at, connected_at, first_of, level_of, built_levels, built_level}
use Rattle.rules.specs.Published.{Walk, Bisimilar}
use Rattle.rules.specs.Accept.{number_ok, level_ok, LevelAccepted, LevelsAccepted}
use Rattle.rules.proofs.Laws.Places.{place_lt, place_row, place_column}
use Rattle.rules.proofs.Laws.Agree.{Twins, Agree, agree_find, agree_here, agree_refl, agree_sym, agree_trans, agree_below}
use Rattle.rules.proofs.Laws.Graph.{conn_walk, walk_conn}
use Rattle.rules.proofs.Laws.Accepted.{accepted_at, connected_number, number_connected}
use Rattle.rules.proofs.Laws.Bisim.{bisim_ends, bisim_steps, bisim_sym, bisim_there}
use Rattle.rules.proofs.Laws.Levels.{level_is, level_written}
use Rattle.rules.proofs.Laws.AllOrNone.{accepted_bisim}
use Rattle.rules.proofs.Laws.Numbering
use Rattle.rules.proofs.Laws.Numbered.{number_here, numbered_right}

-- agreement at positions is an equivalence relation
module _ (ρ : Rule) (g : Graph) (i : ℕ) (T : ℕ → List ℕ) where
  pub at_find : (p q : ℕ) → agree_at ρ g i T p q ≡ true → Agree ρ g i T (p / g.items) (p % g.items) (q / g.items) (q % g.items)
  unfolding agree_at
  at_find p q e = agree_find ρ g i T (p / g.items) (p % g.items) (q / g.items) (q % g.items) e

  pub at_here : (p q : ℕ) → Agree ρ g i T (p / g.items) (p % g.items) (q / g.items) (q % g.items) → agree_at ρ g i T p q ≡ true
  unfolding agree_at
  at_here p q a = agree_here ρ g i T (p / g.items) (p % g.items) (q / g.items) (q % g.items) a

  pub at_refl : (p : ℕ) → agree_at ρ g i T p p ≡ true
  at_refl p = at_here p p (agree_refl ρ g i T (p / g.items) (p % g.items))

  pub at_sym : (p q : ℕ) → agree_at ρ g i T p q ≡ true → agree_at ρ g i T q p ≡ true
  at_sym p q e = at_here q p (agree_sym ρ g i T (at_find p q e))

  pub at_trans : (p q r : ℕ) → agree_at ρ g i T p q ≡ true → agree_at ρ g i T q r ≡ true → agree_at ρ g i T p r ≡ true
  at_trans p q r a b = at_here p r (agree_trans ρ g i T (at_find p q a) (at_find q r b))

-- the table that the numbering gives at level i over T
module _ (ρ : Rule) (g : Graph) (i : ℕ) (T : ℕ → List ℕ) where
  abbrev classes : ℕ → List ℕ
  classes = numbering (connected_at g i) (agree_at ρ g i T)

  abbrev number : ℕ → ℕ
  number = Numbering.number (connected_at g i) (agree_at ρ g i T)

  pub class_at : (n p : ℕ) → p < n → get_or (classes n) p 0 ≡ number p
  class_at = Numbering.numbering_at (connected_at g i) (agree_at ρ g i T)

  pub class_related : (p q : ℕ) → connected_at g i p ≡ true → connected_at g i q ≡ true → agree_at ρ g i T p q ≡ true → number p ≡ number q
  class_related = Numbering.related_same (connected_at g i) (agree_at ρ g i T) (at_refl ρ g i T) (at_sym ρ g i T) (at_trans ρ g i T)

-- a level numbered by agreement is accepted
pub class_ok : (ρ : Rule) (g : Graph) (i : ℕ) (T : ℕ → List ℕ)
    → T i ≡ numbering (connected_at g i) (agree_at ρ g i T) (g.items * g.items) → LevelAccepted ρ g i T
unfolding LevelAccepted level_ok
class_ok ρ g i T own p h =
    rw own
    (number_here (connected_at g i) (agree_at ρ g i T) (g.items * g.items) (numbering (connected_at g i) (agree_at ρ g i T) (g.items * g.items)) p
    (numbered_right (connected_at g i) (agree_at ρ g i T)
    (record { reflexive = at_refl ρ g i T; symmetric = at_sym ρ g i T; transitive = at_trans ρ g i T }) (agree_at ρ g i T) (g.items * g.items)
    (λ p q hp hq cp cq e. e) p h))

-- acceptance looks at the levels 0 to k only
pub accepted_same : (ρ : Rule) (law : RuleLaws ρ) (g : Graph) (k : ℕ) (S T : ℕ → List ℕ) → ((i : ℕ) → i ≤ k → S i ≡ T i) → LevelsAccepted ρ g k S → LevelsAccepted ρ g k T
unfolding LevelsAccepted LevelAccepted level_ok number_ok agree_at
accepted_same ρ law g k S T e ok i h p hp =
    let n = g.items in
    let f = first_of (n * n) (T (suc i)) (get_or (T (suc i)) p 0) in
    rw (← agree_below ρ law g (suc i) S T (λ j l. e j (omega arith)) (p / n) (p % n) (f / n) (f % n), ← e (suc i) h) (ok i h p hp)

module _ (ρ : Rule) (law : RuleLaws ρ) (g : Graph) where
  pub builder_accepted : (k : ℕ) → LevelsAccepted ρ g k (built_level ρ g)
  unfolding LevelsAccepted
  builder_accepted k i h = class_ok ρ g (suc i) (built_level ρ g) (level_is ρ law g i)

  pub written_accepted : (k : ℕ) → LevelsAccepted ρ g k (level_of g.items (built_levels ρ g k))
  written_accepted k =
      accepted_same ρ law g k (built_level ρ g) (level_of g.items (built_levels ρ g k)) (λ i h. sym (level_written ρ g k i h)) (builder_accepted k)

  -- its classes are those of path-bisimulation
  pub level_ok_lem : (i : ℕ) → 0 < i → LevelAccepted ρ g i (built_level ρ g)
  level_ok_lem i p = accepted_at ρ g i (built_level ρ g) (builder_accepted i) i p (omega arith)

  -- pairs that agree have one number
  pub agree_same : (i v u x y : ℕ) → 0 < i → v < g.items → u < g.items → x < g.items → y < g.items
      → connected g i v u ≡ true → connected g i x y ≡ true → Agree ρ g i (built_level ρ g) v u x y
      → number_at g.items (built_level ρ g i) v u ≡ number_at g.items (built_level ρ g i) x y
  unfolding number_at connected_at agree_at
  agree_same zero v u x y o hv hu hx hy cp cq a = absurd (omega arith)
  agree_same (suc i) v u x y o hv hu hx hy cp cq a =
      let n = g.items in
      let T = built_level ρ g in
      let p = v * n + u in
      let q = x * n + y in
      rw (level_is ρ law g i)
      (class_at ρ g (suc i) T (n * n) p (place_lt n v u hv hu)
      ∙ class_related ρ g (suc i) T p q
      (rw (place_row n v u hu, place_column n v u hu) cp)
      (rw (place_row n x y hy, place_column n x y hy) cq)
      (rw (place_row n v u hu, place_column n v u hu, place_row n x y hy, place_column n x y hy) (agree_here ρ g (suc i) T v u x y a))
      ∙ sym (class_at ρ g (suc i) T (n * n) q (place_lt n x y hx hy)))

  agree_of : (n i : ℕ) → i < n → (v u x y : ℕ) → v < g.items → u < g.items → x < g.items → y < g.items
      → Bisimilar ρ g i v u x y → Agree ρ g i (built_level ρ g) v u x y
  agree_of zero i l v u x y hv hu hx hy a = absurd (omega arith)
  agree_of (suc n) i l v u x y hv hu hx hy a =
      record {
        ends = bisim_ends a;
        steps = bisim_steps a;
        there = half (agree_of n) v u x y hv hu hx hy a;
        back = half (agree_of n) x y v u hx hy hv hu (bisim_sym a);
      }
    where
      half : ((i : ℕ) → i < n → (v u x y : ℕ) → v < g.items → u < g.items → x < g.items → y < g.items → Bisimilar ρ g i v u x y → Agree ρ g i (built_level ρ g) v u x y)
          → (v u x y : ℕ) → v < g.items → u < g.items → x < g.items → y < g.items → Bisimilar ρ g i v u x y
          → (c : ℕ) → c < ρ.many i → Twins g.items (built_level ρ g (ρ.first i c)) (built_level ρ g (ρ.second i c)) v u x y
      half ih v u x y hv hu hx hy b c hc = record {
        twin = λ m hm n₁ n₂.
            let T = built_level ρ g in
            let i₁ = ρ.first i c in
            let i₂ = ρ.second i c in
            let p₁ = law.first_some i c hc in
            let p₂ = law.second_some i c hc in
            let c₁ = number_connected ρ g i₁ T (level_ok_lem i₁ p₁) v m hv hm n₁ in
            let c₂ = number_connected ρ g i₂ T (level_ok_lem i₂ p₂) m u hm hu n₂ in
            let r = bisim_there b c m hc hm (conn_walk g i₁ v m c₁) (conn_walk g i₂ m u c₂) in
            let w = r.0 in (
              w,
              r.1,
              agree_same i₁ v m x w p₁ hv hm hx r.1 c₁ (walk_conn g x r.2) (ih i₁ (omega (arith, law.first_below i c hc)) v m x w hv hm hx r.1 r.4),
              agree_same i₂ m u w y p₂ hm hu r.1 hy c₂ (walk_conn g w r.3) (ih i₂ (omega (arith, law.second_below i c hc)) m u w y hm hu r.1 hy r.5),
            );
      }

  pub bisim_agree : (i v u x y : ℕ) → v < g.items → u < g.items → x < g.items → y < g.items
      → Bisimilar ρ g i v u x y → Agree ρ g i (built_level ρ g) v u x y
  bisim_agree i = agree_of (suc i) i (omega arith)

  -- two connected pairs have one number at level i exactly if they are i-path-bisimilar
  pub same_number_bisim : (i v u x y : ℕ) → 0 < i → v < g.items → u < g.items → x < g.items → y < g.items
      → Walk g v i u → Walk g x i y
      → (number_at g.items (built_level ρ g i) v u ≡ number_at g.items (built_level ρ g i) x y) ↔ Bisimilar ρ g i v u x y
  same_number_bisim i v u x y o hv hu hx hy a b =
      let T = built_level ρ g in
      let ca = walk_conn g v a in (
        λ e. accepted_bisim ρ law g i T (builder_accepted i) i o (omega arith) v u x y hv hu hx hy e (connected_number ρ g i T (level_ok_lem i o) v u hv hu ca),
        λ d. agree_same i v u x y o hv hu hx hy ca (walk_conn g x b) (bisim_agree i v u x y hv hu hx hy d),
      )
