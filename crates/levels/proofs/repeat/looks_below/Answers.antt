use Prim.Native.Nat.{ℕ, ◌-◌}
use mathlib.Core.Path.{◌≡◌, sym, ◌∙◌}
use native.Mathlib.Omega.{arith}
use Rattle.rules.specs.Rule.{rule}
use Rattle.levels.proofs.Laws.Repeat.{alike_more}
use Rattle.levels.proofs.repeat.looks_below.Goals as goal

pub loop-c-init : goal.loop-c-init
loop-c-init c = record { first = λ d h. absurd (omega arith); second = λ d h. absurd (omega arith) }

pub first_level-requires : goal.first_level-requires
first_level-requires c = omega (arith, c.loop-c-test.true, c.splits-count.ensures.0)

pub returns-then-first_level-i : goal.returns-then-first_level-i
returns-then-first_level-i c = λ e. absurd (let z : ◌≡◌ {A = ℕ} 0 1 = cc in omega arith)

pub second_level-requires : goal.second_level-requires
second_level-requires c = omega (arith, c.loop-c-test.true, c.splits-count.ensures.0)

pub returns-then-second_level-i : goal.returns-then-second_level-i
returns-then-second_level-i c = λ e. absurd (let z : ◌≡◌ {A = ℕ} 0 1 = cc in omega arith)

pub loop-c-preserved : goal.loop-c-preserved
loop-c-preserved c =
    let i = c.args.i in
    record {
      first = alike_more (rule.first i) (λ d. i - 1) _ c.loop-c.invariant.first (sym c.first_level.ensures ∙ c.if-first_level-i.false);
      second = alike_more (rule.second i) (λ d. i - 1) _ c.loop-c.invariant.second (sym c.second_level.ensures ∙ c.if-second_level-i.false);
    }

pub returns : goal.returns
returns c =
    let many = c.splits-count.ensures.0 in
    λ e. record { first = λ d h. c.loop-c.invariant.first d (omega (arith, many, c.loop-c-test.false)); second = λ d h. c.loop-c.invariant.second d (omega (arith, many, c.loop-c-test.false)) }
