-- Connected within 1 as three tests: the same item, a mark there, a mark back. A mark is 0 exactly if no label is set.
use Rattle.twins.proofs.Laws.Marks.{near_self, near_first, near_rest}
use Rattle.twins.proofs.steps.Steps.next_to.Goals as goal

pub returns-then-v-u : goal.returns-then-v-u
returns-then-v-u c = near_self _ _ _ _ c.if-v-u.true

pub returns-then-mark_at-ne0 : goal.returns-then-mark_at-ne0
returns-then-mark_at-ne0 c = near_first _ _ _ _ c.requires.first c.requires.second c.mark_at.ensures c.if-mark_at-ne0.true

pub returns : goal.returns
returns c = near_rest _ _ _ _ c.requires.first c.requires.second c.if-v-u.false c.mark_at.ensures c.if-mark_at-ne0.false c.mark_at-2.ensures
