-- Condition B from the marks of the pairs, there and back: two bytes are equal exactly if all eight labels are.
use Rattle.twins.proofs.Laws.Marks.{steps_differ, steps_rest}
use Rattle.twins.proofs.steps.Steps.same_steps.Goals as goal

pub returns-then-mark_at : goal.returns-then-mark_at
returns-then-mark_at c = steps_differ _ _ _ _ _ _ c.requires.0.first c.requires.0.second c.requires.1.first c.requires.1.second c.mark_at.ensures c.mark_at-2.ensures c.if-mark_at.true

pub returns : goal.returns
returns c = steps_rest _ _ _ _ _ _ c.requires.0.first c.requires.0.second c.requires.1.first c.requires.1.second c.mark_at.ensures c.mark_at-2.ensures c.mark_at-3.ensures c.mark_at-4.ensures c.if-mark_at.false
