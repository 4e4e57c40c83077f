-- The tests of agreement, one after the other, as the code makes them.
use Prim.Native.Nat.{ℕ, ◌*◌, ◌/◌, ◌%◌}
use mathlib.Core.Path.{◌≡◌, refl, sym, ◌∙◌}
use mathlib.Core.List.{List}
use mathlib.Core.Bool.{Bool, true, false, not, ◌&&◌}
use native.Mathlib.Omega.{arith}
use native.Mathlib.Nat.{mul-le-mul_right}
use borrow.Author.Tests.{not-true}
use Rattle.rules.specs.Finite.{all_below}
use Rattle.rules.specs.Graph.{Graph}
use Rattle.rules.specs.Rule.{Rule}
use Rattle.rules.specs.Levels.{same_ends, same_steps, split_ok, agree, agree_at}
use Rattle.rules.proofs.Laws.Tests.{and_left, and_right, not_true_of, not_both}
use Rattle.twins.specs.Standing.{Stands}

module _ (ρ : Rule) (g : Graph) (i : ℕ) (T : ℕ → List ℕ) (v u x y : ℕ) where
  not_agree : (agree ρ g i T v u x y ≡ true → ⊥) → false ≡ agree ρ g i T v u x y
  not_agree h = sym (not_true_of (agree ρ g i T v u x y) h)

  pub agree_ends : {r : Bool} → r ≡ same_ends g v u x y → not r ≡ true → false ≡ agree ρ g i T v u x y
  unfolding agree
  agree_ends {r} h k =
      not_agree
      (λ t. not_both (same_ends g v u x y)
      (and_left (same_ends g v u x y) (same_steps g v u x y) (and_left (same_ends g v u x y && same_steps g v u x y) (all_below (ρ.many i) (split_ok ρ g i T v u x y)) t))
      (sym h ∙ not-true r k))

  pub agree_steps : {r : Bool} → r ≡ same_steps g v u x y → not r ≡ true → false ≡ agree ρ g i T v u x y
  unfolding agree
  agree_steps {r} h k =
      not_agree
      (λ t. not_both (same_steps g v u x y)
      (and_right (same_ends g v u x y) (same_steps g v u x y) (and_left (same_ends g v u x y && same_steps g v u x y) (all_below (ρ.many i) (split_ok ρ g i T v u x y)) t))
      (sym h ∙ not-true r k))

-- agreement at two positions
pub at_is : (ρ : Rule) (g : Graph) (i : ℕ) (T : ℕ → List ℕ) (p q : ℕ) → agree ρ g i T (p / g.items) (p % g.items) (q / g.items) (q % g.items) ≡ agree_at ρ g i T p q
unfolding agree_at
at_is ρ g i T p q = refl

-- where a level stands, level 1 does
pub one_stands : (n i : ℕ) (levels : List ℕ) → Stands n levels i → Stands n levels 1
one_stands n i levels st = record { some = omega arith; room = omega (arith, mul-le-mul_right {m = 1} {n = i} (n * n) st.some, st.room) }
