-- A and B are left at the first that fails; C is the search over the two lists (`agree_lists`).
use Rattle.twins.proofs.Laws.Agreement.{agree_ends, agree_steps}
use Rattle.twins.proofs.Laws.Midpoints.{agree_lists}
use Rattle.std.proofs.lemmas.Bool.{not_from_false, not_from_true}
use Rattle.twins.proofs.agree.agree.Goals as goal

pub returns-then-not-same_ends : goal.returns-then-not-same_ends
returns-then-not-same_ends c = λ i levels hm ho. agree_ends _ _ _ _ _ _ _ _ (c.same_ends.ensures _) (not_from_false _ c.if-not-same_ends.true)

pub returns-then-not-same_steps : goal.returns-then-not-same_steps
returns-then-not-same_steps c = λ i levels hm ho. agree_steps _ _ _ _ _ _ _ _ c.same_steps.ensures (not_from_false _ c.if-not-same_steps.true)

pub returns : goal.returns
returns c =
    λ i levels hm ho. agree_lists _ _ i levels _ _ _ _ _ _ _ _ hm ho (c.same_ends.ensures _) (not_from_true _ c.if-not-same_ends.false) c.same_steps.ensures (not_from_true _ c.if-not-same_steps.false)
    c.same_midpoints.ensures
