use mathlib.Core.Path.{◌≡◌, sym, ◌∙◌}
use native.Mathlib.Omega.{arith}
use Rattle.rules.proofs.Laws.Writing.{rows_none, fill_rows}
use Rattle.twins.proofs.Laws.Areas.{ready_area}
use Rattle.twins.proofs.Laws.Rows.{rows_marks, rows_size, rows_turn}
use Rattle.twins.proofs.near.mark_near.Goals as goal

pub loop-v-init : goal.loop-v-init
loop-v-init c = rows_none _ _ _ _

pub near_row-requires : goal.near_row-requires
near_row-requires c =
    let e = c.loop-v.invariant in
    (ready_area _ _ _ _ _ c.requires (rows_marks _ _ _ _ _ e) (rows_size _ _ _ _ _ e), c.loop-v-test.true)

pub loop-v-preserved : goal.loop-v-preserved
loop-v-preserved c = rows_turn _ _ _ _ _ c.loop-v.invariant _ c.near_row.ensures

pub returns : goal.returns
returns c =
    let l = c.loop-v in
    let e : l.v ≡ c.args.n = omega arith in
    rw e at l.invariant ∙ sym (fill_rows _ _ _ _ _)
