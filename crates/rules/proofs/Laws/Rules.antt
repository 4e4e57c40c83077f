-- Agreement under document 01's rule, written out: A and B at level 1, and above it C over the level below, both ways.
use Prim.Native.Nat.{ℕ, suc}
use mathlib.Core.Path.{◌≡◌, refl, ap, ◌∙◌}
use mathlib.Core.List.{List}
use mathlib.Core.Bool.{Bool, ◌&&◌, and-true}
use native.Mathlib.Omega.{arith}
use Rattle.rules.specs.Finite.{all_below}
use Rattle.rules.specs.Graph.{Graph}
use Rattle.rules.specs.Rule.{rule}
use Rattle.rules.specs.Levels.{same_ends, same_steps, twins, split_ok, agree}

module _ (g : Graph) (T : ℕ → List ℕ) (v u x y : ℕ) where
  -- A and B
  abbrev pub alone : Bool
  alone = same_ends g v u x y && same_steps g v u x y

  -- the midpoints by the tables s and t, both ways
  abbrev pub midpoints : List ℕ → List ℕ → Bool
  midpoints s t = twins g.items s t v u x y && twins g.items s t x y v u

  pub rule_one : agree rule g 1 T v u x y ≡ alone
  unfolding agree rule all_below
  rule_one = and-true (same_ends g v u x y && same_steps g v u x y)

  pub rule_above : (i : ℕ) → agree rule g (suc (suc i)) T v u x y ≡ (alone && midpoints (T (suc i)) (T (suc i)))
  unfolding agree
  rule_above i = ap (λ (b : Bool). same_ends g v u x y && same_steps g v u x y && b) (one i)
    where
      many : (i : ℕ) → rule.many (suc (suc i)) ≡ 1
      many i = unfold rule in omega arith

      one : (i : ℕ) → all_below (rule.many (suc (suc i))) (split_ok rule g (suc (suc i)) T v u x y) ≡ midpoints (T (suc i)) (T (suc i))
      one i = ap (λ (n : ℕ). all_below n (split_ok rule g (suc (suc i)) T v u x y)) (many i) ∙ unfold all_below split_ok rule in refl
