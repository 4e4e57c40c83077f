use mathlib.Core.Path.{◌≡◌, ap, ◌∙◌}
use native.Mathlib.Omega.{arith}
use Rattle.rules.proofs.Laws.Writing.{fill_none, fill_more}
use Rattle.twins.specs.Marks.{one_if}
use Rattle.twins.proofs.Laws.Rows.{byte_told}
use Rattle.twins.proofs.near.first_row.Goals as goal

pub loop-u-init : goal.loop-u-init
loop-u-init c = fill_none _ _ _

pub loop-u-preserved : goal.loop-u-preserved
loop-u-preserved c = fill_more _ _ _ _ _ _ _ c.loop-u.invariant (omega arith) (c.from.ensures ∙ byte_told _ ∙ ap one_if c.next_to.ensures)

pub returns : goal.returns
returns c =
    let l = c.loop-u in
    let e : l.u ≡ c.args.steps.n = omega arith in
    rw e at l.invariant
