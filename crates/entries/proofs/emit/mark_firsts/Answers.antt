use mathlib.Core.Path.{◌≡◌, ◌∙◌}
use mathlib.Core.Bool.{cond}
use borrow.Author.Rules.{rules}
use lib.Dec.{ltb}
use lib.ListN.{get_or}
use native.Mathlib.Omega.{arith}
use Rattle.relations.proofs.Laws.Areas as areas
use Rattle.rules.proofs.Laws.Places.{square_le}
use Rattle.entries.proofs.Laws.Emitting as emitting
use Rattle.sorting.proofs.Laws.Numbers as numbers
use Rattle.entries.proofs.emit.mark_firsts.Goals as goal

pub overflow_mul-at : goal.overflow_mul-at
overflow_mul-at c = omega (arith, square_le c.requires.0)

pub overflow_mul-at-2 : goal.overflow_mul-at-2
overflow_mul-at-2 c = omega (arith, square_le c.requires.0)

pub loop-p-init : goal.loop-p-init
loop-p-init c = (numbers.max_none c.args.table.now, areas.run_none _ _ _)

pub overflow_add-area : goal.overflow_add-area
overflow_add-area c = omega (arith, square_le c.requires.0)

pub bounds-area-at : goal.bounds-area-at
bounds-area-at c = omega (arith, c.loop-p.invariant.1.frame.size)

pub loop-p-preserved : goal.loop-p-preserved
loop-p-preserved c =
    let above : c.from.result ≡ cond (ltb c.loop-p.most (get_or c.args.table.now c.loop-p.p 0)) 1 0 = search rules in (
      omega (arith, numbers.max_step c.args.table.now c.loop-p.p c.loop-p-test.true, c.max-most.ensures),
      areas.run_push _ _ _ _ _ _ (omega arith) (above ∙ emitting.first_mark c.args.table.now c.loop-p.p c.loop-p.invariant.0) c.loop-p.invariant.1,
    )

pub shape_of-area : goal.shape_of-area
shape_of-area c = c.loop-p.invariant.1.frame.size

pub returns : goal.returns
returns c = (
  areas.frame_wide _ _ _ _ _ _ (omega arith) (omega arith) c.loop-p.invariant.1.frame,
  record { mark = λ p h. c.loop-p.invariant.1.cells p (omega arith) },
)
