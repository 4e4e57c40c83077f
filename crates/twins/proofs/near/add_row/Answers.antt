use Prim.Native.Nat.{◌+◌, ◌*◌, ◌<◌}
use mathlib.Core.Path.{◌≡◌}
use native.Mathlib.Omega.{arith}
use Rattle.rules.proofs.Laws.Writing.{fill_none, fill_more}
use Rattle.rules.proofs.Laws.Places.{place_lt, row_fits}
use Rattle.twins.proofs.Laws.Rows.{add_turn}
use Rattle.twins.proofs.near.add_row.Goals as goal

pub overflow_mul-start : goal.overflow_mul-start
overflow_mul-start c = omega (arith, row_fits c.args.first.n c.requires.0, c.args.first.whole)

pub loop-u-init : goal.loop-u-init
loop-u-init c = fill_none _ _ _

pub overflow_add-row : goal.overflow_add-row
overflow_add-row c =
    let place : c.args.m * c.args.first.n + c.loop-u.u < c.args.first.n * c.args.first.n = place_lt _ _ _ c.requires.0 c.loop-u-test.true in
    omega (arith, place, c.args.first.whole)

pub offset_bounds-first-start : goal.offset_bounds-first-start
offset_bounds-first-start c =
    let place : c.args.m * c.args.first.n + c.loop-u.u < c.args.first.n * c.args.first.n = place_lt _ _ _ c.requires.0 c.loop-u-test.true in
    omega (arith, place, c.args.first.whole)

pub bounds-first-start : goal.bounds-first-start
bounds-first-start c =
    let there : c.args.m * c.args.first.n + c.loop-u.u < c.args.first.n * c.args.first.n = place_lt _ _ _ c.requires.0 c.loop-u-test.true in
    omega (arith, there, c.args.first.whole)

pub loop-u-preserved : goal.loop-u-preserved
loop-u-preserved c =
    let l = c.loop-u in
    fill_more _ _ _ _ _ _ _ l.invariant (omega arith) (add_turn _ _ _ _ _ _ l.invariant)

pub returns : goal.returns
returns c =
    let l = c.loop-u in
    let e : l.u ≡ c.args.first.n = omega arith in
    rw e at l.invariant
