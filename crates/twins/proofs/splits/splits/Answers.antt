-- One split above level 1 and none at level 1, by the rule's definition.
use native.Mathlib.Omega.{arith}
use Rattle.rules.specs.Rule.{rule}
use Rattle.twins.proofs.splits.splits.Goals as goal

pub returns-then-i-gt1 : goal.returns-then-i-gt1
unfolding rule
returns-then-i-gt1 c = (omega arith, λ h. omega arith)

pub returns : goal.returns
unfolding rule
returns c = (omega arith, λ h. omega arith)
