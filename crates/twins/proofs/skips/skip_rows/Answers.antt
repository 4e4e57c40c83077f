use native.Mathlib.Omega.{arith}
use Rattle.twins.proofs.Laws.Skips.{rows_start, rows_turn, rows_done}
use Rattle.twins.proofs.skips.skip_rows.Goals as goal

pub loop-v-init : goal.loop-v-init
loop-v-init c = rows_start _ _ _

pub skip_row-requires : goal.skip_row-requires
skip_row-requires c = (c.requires.0, omega (arith, c.loop-v.auto.area, c.requires.1), c.loop-v-test.true)

pub loop-v-preserved : goal.loop-v-preserved
loop-v-preserved c = rows_turn _ _ _ _ _ _ c.loop-v-test.true c.loop-v.invariant c.skip_row.ensures

pub returns : goal.returns
returns c = rows_done _ _ _ _ _ c.loop-v.auto.v-end c.loop-v-test.false c.requires.1 c.loop-v.invariant
