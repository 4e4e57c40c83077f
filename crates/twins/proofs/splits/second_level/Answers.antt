-- The second half of a midpoint is at level i-1 in every split, by the rule's definition; a level with a split is above 0.
use Prim.Native.Nat.{ℕ, pred, ◌-◌}
use mathlib.Core.Path.{◌≡◌}
use native.Mathlib.Omega.{arith}
use Rattle.rules.specs.Rule.{rule}
use Rattle.rules.proofs.Laws.Lawful.{rule_laws}
use Rattle.twins.proofs.splits.second_level.Goals as goal

level_is : (i c : ℕ) → i - 1 ≡ rule.second i c
unfolding rule
level_is i c = let e : i - 1 ≡ pred i = omega arith in e

pub overflow_sub-result : goal.overflow_sub-result
overflow_sub-result c = omega (arith, rule_laws.second_below _ _ c.requires)

pub returns : goal.returns
returns c = level_is _ _
