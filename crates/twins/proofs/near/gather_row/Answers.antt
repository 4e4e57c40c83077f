use mathlib.Core.Path.{◌≡◌}
use native.Mathlib.Omega.{arith}
use Rattle.twins.proofs.Laws.Rows.{reached_start, reached_same, reached_more}
use Rattle.twins.proofs.near.gather_row.Goals.{then-number_at-ne0, else-number_at-ne0}
use Rattle.twins.proofs.near.gather_row.Goals as goal

pub loop-m-init : goal.loop-m-init
loop-m-init c = reached_start _ _ _ _ _ c.requires.2

pub add_row-requires : goal.add_row-requires
add_row-requires c = (omega (arith, c.loop-m-test.true, c.requires.0), omega (arith, c.loop-m.invariant.room, c.requires.0))

pub loop-m-preserved : goal.loop-m-preserved
loop-m-preserved c = elim c.if-number_at-ne0.branch [
  | then-number_at-ne0 w ↦ rw w.row-is (reached_more _ _ _ _ _ c.number_at.ensures _ c.loop-m.invariant w.if-number_at-ne0.true _ (rw c.requires.0 at w.add_row.ensures))
  | else-number_at-ne0 w ↦ rw w.row-is (reached_same _ _ _ _ _ c.number_at.ensures _ c.loop-m.invariant w.if-number_at-ne0.false)
]

pub returns : goal.returns
returns c =
    let l = c.loop-m in
    let e : l.m ≡ c.args.level.n = omega arith in
    rw e at l.invariant
