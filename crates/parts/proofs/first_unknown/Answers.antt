use native.Mathlib.Omega.{arith}
use Rattle.rules.proofs.Laws.Loops.{any_start}
use Rattle.parts.proofs.Laws.Parts.{unknown_more, unknown_zero, unknown_large, unknown_none}
use Rattle.parts.proofs.first_unknown.Goals as goal

pub loop-i-init : goal.loop-i-init
loop-i-init c = any_start _

pub returns-then-symbol-eq0 : goal.returns-then-symbol-eq0
returns-then-symbol-eq0 c = (unknown_zero _ _ (omega arith) c.loop-i.invariant c.if-symbol-eq0.true, omega arith)

pub returns-then-symbol-gt16 : goal.returns-then-symbol-gt16
returns-then-symbol-gt16 c = (unknown_large _ _ (omega arith) c.loop-i.invariant c.if-symbol-eq0.false c.if-symbol-gt16.true, omega arith)

pub loop-i-preserved : goal.loop-i-preserved
loop-i-preserved c = unknown_more _ _ c.loop-i.invariant c.if-symbol-eq0.false c.if-symbol-gt16.false

pub returns : goal.returns
returns c = unknown_none _ _ (omega arith) (omega arith) c.loop-i.invariant
