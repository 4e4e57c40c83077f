use mathlib.Core.Path.{◌≡◌}
use native.Mathlib.Numerals.{add-one}
use native.Mathlib.Omega.{arith}
use Rattle.twins.proofs.Laws.Areas.{ready_area, placed_kept}
use Rattle.levels.proofs.Laws.Stack.{kept_refl, kept_trans, front_start, count_start, front_ready, front_topped, front_written, front_count}
use Rattle.levels.proofs.all.number_levels.Goals as goal

pub loop-i-init : goal.loop-i-init
loop-i-init c = record { written = front_start _ _ _; count = count_start c.args.n _ c.args.levels.now; kept = kept_refl _ _ }

pub next_level-top-requires : goal.next_level-top-requires
next_level-top-requires c =
    let i = c.loop-i.invariant in (
      ready_area _ _ _ _ _ (front_ready _ _ _ _ _ _ _ c.requires c.loop-i-test.true (add-one _) i.written) i.kept.marks i.kept.size,
      front_topped _ _ _ _ _ _ _ _ (add-one _) i.written i.count i.kept.marks,
    )

pub loop-i-preserved : goal.loop-i-preserved
loop-i-preserved c =
    let i = c.loop-i.invariant in
    let d = c.next_level-top.ensures in
    let p = placed_kept _ _ _ _ _ _ _ i.kept.marks d.placed in
    record {
      written = front_written _ _ _ _ _ _ _ _ (add-one _) i.written p;
      count = front_count _ _ _ _ _ _ _ _ (add-one _) i.written p;
      kept = kept_trans _ _ _ _ i.kept d.kept;
    }

pub returns : goal.returns
returns c =
    let l = c.loop-i in
    let e : l.i ≡ c.args.k = omega arith in
    record { count = rw e at l.invariant.count; written = rw e at l.invariant.written; kept = l.invariant.kept }
