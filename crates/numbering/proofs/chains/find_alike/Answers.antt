use Prim.Native.Nat.{◌*◌, ◌-◌, ◌<◌}
use native.Mathlib.Omega.{arith}
use Rattle.rules.proofs.Laws.Places.{row_lt, column_lt}
use Rattle.numbering.proofs.Laws.Walk.{walk_start, walk_met, walk_less, walk_next, walk_found, walk_none}
use Rattle.numbering.proofs.chains.find_alike.Goals as goal

pub loop-at-init : goal.loop-at-init
loop-at-init c = record { ahead = walk_start _ _ _ _ _ _ c.requires.3 c.requires.2 c.word_at-at.ensures.number; kept = c.requires.5 }

pub keep-requires : goal.keep-requires
keep-requires c = (omega (arith, c.requires.0, (walk_met _ _ _ _ _ _ _ c.loop-at-test.true c.loop-at.invariant.ahead).before), c.loop-at.invariant.kept)

pub at-requires : goal.at-requires
at-requires c = omega (arith, c.requires.0, (walk_met _ _ _ _ _ _ _ c.loop-at-test.true c.loop-at.invariant.ahead).before)

pub agree-requires : goal.agree-requires
agree-requires c =
    let m = walk_met _ _ _ _ _ _ _ c.loop-at-test.true c.loop-at.invariant.ahead in
    let h : c.loop-at.at - 1 < c.args.over.n * c.args.over.n = omega (arith, m.before, c.requires.0) in
    rw (c.steps.ensures.0, c.at.ensures.0, c.at.ensures.1, c.at-in-loop-at.ensures.0, c.at-in-loop-at.ensures.1)
    (record { first = row_lt _ _ h; second = column_lt _ _ h }, record { first = row_lt _ _ c.requires.0; second = column_lt _ _ c.requires.0 })

pub returns-then-agree : goal.returns-then-agree
returns-then-agree c =
    let same = rw (c.steps.ensures.0, c.steps.ensures.1, c.at.ensures.0, c.at.ensures.1, c.at-in-loop-at.ensures.0, c.at-in-loop-at.ensures.1) at c.agree.ensures in (
      walk_found _ _ _ _ _ _ _ c.loop-at-test.true c.loop-at.invariant.ahead (same _ _ (c.midpoints.ensures _ _ _ _ c.keep.ensures.0 c.keep.ensures.1) c.requires.4) c.if-agree.true,
      c.keep.ensures.0,
    )

pub overflow_mul-q : goal.overflow_mul-q
overflow_mul-q c = omega (arith, c.requires.0, c.args.over.ready.area_room, (walk_met _ _ _ _ _ _ _ c.loop-at-test.true c.loop-at.invariant.ahead).before)

pub overflow_add-n-in-loop-at : goal.overflow_add-n-in-loop-at
overflow_add-n-in-loop-at c = omega (arith, c.requires.0, c.args.over.ready.area_room, (walk_met _ _ _ _ _ _ _ c.loop-at-test.true c.loop-at.invariant.ahead).before)

pub word_at-at-requires-in-loop-at : goal.word_at-at-requires-in-loop-at
word_at-at-requires-in-loop-at c = omega (arith, c.requires.0, c.args.over.ready.area_room, (walk_met _ _ _ _ _ _ _ c.loop-at-test.true c.loop-at.invariant.ahead).before)

pub loop-at-smaller : goal.loop-at-smaller
loop-at-smaller c = walk_less _ _ _ _ _ _ _ c.loop-at-test.true c.loop-at.invariant.ahead c.word_at-at-in-loop-at.ensures.number

pub loop-at-preserved : goal.loop-at-preserved
loop-at-preserved c =
    let same = rw (c.steps.ensures.0, c.steps.ensures.1, c.at.ensures.0, c.at.ensures.1, c.at-in-loop-at.ensures.0, c.at-in-loop-at.ensures.1) at c.agree.ensures in
    record {
      ahead = walk_next _ _ _ _ _ _ _ c.loop-at-test.true c.loop-at.invariant.ahead (same _ _ (c.midpoints.ensures _ _ _ _ c.keep.ensures.0 c.keep.ensures.1) c.requires.4) c.if-agree.false
          c.word_at-at-in-loop-at.ensures.number;
      kept = c.keep.ensures.0;
    }

pub returns : goal.returns
returns c = (walk_none _ _ _ _ _ _ c.requires.3 c.requires.0 c.requires.1 c.args.over.bytes c.loop-at.invariant.ahead c.loop-at-test.false, c.loop-at.invariant.kept)
