use mathlib.Core.Path.{◌≡◌}
use native.Mathlib.Numerals.{add-one}
use native.Mathlib.Omega.{arith}
use Rattle.rules.proofs.Laws.Places.{square_le}
use Rattle.levels.proofs.Laws.Stack.{kept_refl, kept_trans, right_start, right_ready, judged_fault, judged_more, judged_good}
use Rattle.levels.proofs.all.judge_levels.Goals as goal

pub loop-i-init : goal.loop-i-init
loop-i-init c = record { right = right_start _ _ _; kept = kept_refl _ _ }

pub level_fault-requires : goal.level_fault-requires
level_fault-requires c = right_ready _ _ _ _ _ _ _ c.requires c.loop-i-test.true (add-one _) c.loop-i.invariant.right c.loop-i.invariant.kept

pub overflow_cast-result : goal.overflow_cast-result
overflow_cast-result c = omega (arith, c.requires.short)

pub overflow_cast-result-in-Some : goal.overflow_cast-result-in-Some
overflow_cast-result-in-Some c = omega (arith, square_le c.requires.few, (c.level_fault.ensures.fault.found _ c.in-Some.is).0)

pub returns-in-Some : goal.returns-in-Some
returns-in-Some c = judged_fault _ _ _ _ _ _ _ _ _ c.loop-i.invariant.right (add-one _) c.loop-i-test.true c.loop-i.invariant.kept c.level_fault.ensures c.in-Some.is

pub loop-i-preserved : goal.loop-i-preserved
loop-i-preserved c = record {
  right = judged_more _ _ _ _ _ _ _ c.loop-i.invariant.right (add-one _) c.loop-i.invariant.kept c.level_fault.ensures c.in_default.is;
  kept = kept_trans _ _ _ _ c.loop-i.invariant.kept c.level_fault.ensures.kept;
}

pub returns : goal.returns
returns c =
    let l = c.loop-i in
    let e : l.i ≡ c.args.k = omega arith in
    judged_good _ _ _ _ _ (rw e at l.invariant.right) l.invariant.kept
