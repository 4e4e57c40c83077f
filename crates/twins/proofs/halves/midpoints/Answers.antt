use mathlib.Core.Path.{sym, ◌∙◌}
use native.Mathlib.Omega.{arith}
use Rattle.rules.proofs.Laws.Places.{some_items, row_lt, column_lt}
use Rattle.twins.proofs.Laws.Below.{searchable, first_stands, second_stands}
use Rattle.twins.proofs.Laws.Midpoints.{listing_start, listing_more, listing_done}
use Rattle.twins.proofs.halves.midpoints.Goals as goal

pub nonzero_div-v : goal.nonzero_div-v
nonzero_div-v c = some_items _ _ c.requires.0

pub nonzero_rem-u : goal.nonzero_rem-u
nonzero_rem-u c = some_items _ _ c.requires.0

pub loop-c-init : goal.loop-c-init
loop-c-init c = listing_start _ _ _ _ _ _

pub first_level-requires : goal.first_level-requires
first_level-requires c = omega (arith, c.loop-c-test.true, c.splits-count.ensures.0)

pub of-first-requires : goal.of-first-requires
of-first-requires c = first_stands _ _ _ _ c.args.over.ready _ c.splits-count.ensures.0 c.loop-c-test.true c.first_level.ensures

pub second_level-requires : goal.second_level-requires
second_level-requires c = omega (arith, c.loop-c-test.true, c.splits-count.ensures.0)

pub of-second-requires : goal.of-second-requires
of-second-requires c = second_stands _ _ _ _ c.args.over.ready _ c.splits-count.ensures.0 c.loop-c-test.true c.second_level.ensures

pub halves-k-requires : goal.halves-k-requires
halves-k-requires c =
    let r = c.args.over.ready in
    let few = c.splits-count.ensures.1 r.short in (
      rw c.of-first.ensures.0 (searchable _ _ _ _ r c.args.over.laid _ c.splits-count.ensures.0 c.splits-count.ensures.1 c.loop-c-test.true c.first_level.ensures c.of-first.ensures.1),
      c.of-second.ensures.0 ∙ sym c.of-first.ensures.0,
      rw c.of-first.ensures.0 (record { first = row_lt _ _ c.requires.0; second = column_lt _ _ c.requires.0 }),
      omega (arith, c.loop-c-test.true, few, c.loop-c.invariant.few, c.loop-c.auto.list, r.few, c.requires.1, c.of-first.ensures.0),
    )

pub loop-c-preserved : goal.loop-c-preserved
loop-c-preserved c = listing_more _ _ _ _ _ _ _ _ _ _ c.args.over.ready.few c.first_level.ensures c.second_level.ensures c.loop-c.invariant (rw (c.of-first.ensures.0, c.of-first.ensures.1, c.of-second.ensures.1) at c.halves-k.ensures)

pub returns : goal.returns
returns c =
    listing_done _ _ _ _ _ _ _ _ _ c.args.over.ready c.splits-count.ensures.0 c.splits-count.ensures.1 c.loop-c.auto.c-end c.loop-c-test.false (omega (arith, c.loop-c.auto.list, c.requires.1)) c.loop-c.invariant
