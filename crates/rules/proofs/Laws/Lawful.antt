-- Document 01's rule is one that the theorems hold for.
use Prim.Native.Nat.{pred, ◌≤◌, ◌<◌}
use native.Mathlib.Omega.{arith}
use Rattle.rules.specs.Rule.{RuleLaws, rule}

pub rule_laws : RuleLaws rule
unfolding rule
rule_laws = record {
  first_some = λ i c h. let some : 0 < pred i = omega (arith, h) in some;
  first_below = λ i c h. let below : pred i < i = omega (arith, h) in below;
  second_some = λ i c h. let some : 0 < pred i = omega (arith, h) in some;
  second_below = λ i c h. let below : pred i < i = omega (arith, h) in below;
  covers = λ i d e p q h.
      let first : d ≤ pred i = omega arith in
      let second : e ≤ pred i = omega arith in
      (0, omega arith, first, second);
}
