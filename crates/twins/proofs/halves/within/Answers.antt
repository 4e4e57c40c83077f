-- Where a twin is found the next midpoint comes; where none is, the answer is false, and true behind the last midpoint.
use mathlib.Core.Path.{refl, sym, ◌∙◌}
use Rattle.rules.proofs.Laws.Loops.{any_start, all_start, any_more, all_more, any_done, all_done, all_not_at}
use Rattle.twins.proofs.Laws.Halves.{same_no, found_same, none_same}
use Rattle.twins.proofs.halves.within.Goals as goal

pub midpoints-init : goal.midpoints-init
midpoints-init c = (refl, all_start _)

pub candidates-init : goal.candidates-init
candidates-init c = any_start _

pub midpoints-preserved : goal.midpoints-preserved
midpoints-preserved c =
    let i = c.midpoints in
    (i.invariant.0, all_more _ _ i.invariant.1 (found_same _ _ _ _ _ c.candidates-test.true c.if-y-x.true))

pub candidates-preserved : goal.candidates-preserved
candidates-preserved c = any_more _ _ c.candidates.invariant (same_no _ _ _ _ c.if-y-x.false)

pub returns-after-midpoints : goal.returns-after-midpoints
returns-after-midpoints c =
    let i = c.midpoints in
    i.invariant.0 ∙ sym (all_done _ i.auto.x-index-end c.midpoints-test.false i.invariant.1)

pub returns-after-candidates : goal.returns-after-candidates
returns-after-candidates c =
    let i = c.candidates in
    sym (all_not_at _ _ _ c.midpoints-test.true (none_same _ _ _ _ (any_done _ i.auto.y-index-end c.candidates-test.false i.invariant)))
