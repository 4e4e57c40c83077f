use mathlib.Core.Path.{◌≡◌, sym, ◌∙◌}
use native.Mathlib.Omega.{arith}
use Rattle.rules.proofs.Laws.Counting.{count_none}
use Rattle.entries.proofs.Laws.Hits.{count_more}
use Rattle.entries.proofs.emit.count_row.Goals as goal

pub loop-u-init : goal.loop-u-init
loop-u-init c = (sym (count_none _), omega arith)

pub hit-some-requires : goal.hit-some-requires
hit-some-requires c = c.requires.0

pub overflow_add-some : goal.overflow_add-some
overflow_add-some c = omega (arith, (count_more c.args.area.now c.args.from c.args.firsts c.args.l c.loop-u.u c.loop-u.invariant.0 c.loop-u.invariant.1 c.hit-some.ensures).1, c.requires.1)

pub loop-u-preserved : goal.loop-u-preserved
loop-u-preserved c =
    let m = count_more c.args.area.now c.args.from c.args.firsts c.args.l c.loop-u.u c.loop-u.invariant.0 c.loop-u.invariant.1 c.hit-some.ensures in
    (m.0, m.1)

pub returns : goal.returns
returns c =
    let l = c.loop-u in
    let e : l.u ≡ c.args.n = omega arith in
    c.from.ensures ∙ rw e at l.invariant.0
