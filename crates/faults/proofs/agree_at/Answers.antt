-- Both lists are of the levels below: over them `agree` is agreement at the two positions.
use mathlib.Core.Path.{◌∙◌}
use Rattle.rules.proofs.Laws.Places.{row_lt, column_lt}
use Rattle.twins.proofs.Laws.Agreement.{at_is}
use Rattle.faults.proofs.agree_at.Goals as goal

pub agree-requires : goal.agree-requires
agree-requires c =
    rw (c.steps.ensures.0, c.at-a.ensures.0, c.at-a.ensures.1, c.at-b.ensures.0, c.at-b.ensures.1)
    (record { first = row_lt _ _ c.requires.0; second = column_lt _ _ c.requires.0 }, record { first = row_lt _ _ c.requires.1; second = column_lt _ _ c.requires.1 })

pub returns : goal.returns
returns c =
    let same = rw (c.steps.ensures.0, c.steps.ensures.1, c.at-a.ensures.0, c.at-a.ensures.1, c.at-b.ensures.0, c.at-b.ensures.1) at c.agree.ensures in
    let mine = c.midpoints.ensures _ _ _ _ c.keep.ensures.0 c.keep.ensures.1 in
    let other = c.midpoints-2.ensures _ _ _ _ c.keep-2.ensures.0 c.keep-2.ensures.1 in
    (same _ _ mine other ∙ at_is _ _ _ _ _ _, c.keep.ensures.0, c.keep-2.ensures.0)
