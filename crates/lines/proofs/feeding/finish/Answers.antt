-- `lines::feeding::finish` meets its contract: at most one of the two texts is there.
use native.Mathlib.Omega.{arith}
use Rattle.lines.proofs.Laws.Ending.{finish_told}
use Rattle.lines.proofs.feeding.finish.Goals as goal

pub overflow_add-result : goal.overflow_add-result
overflow_add-result c = omega (arith, c.last_line-many.ensures.step.inside, c.end_input.ensures.written.inside, c.args.run.now.out_room, c.last_line-many.new.run.out_room)

pub returns-clause-written : goal.returns-clause-written
returns-clause-written c = finish_told _ _ _ _ c.last_line-many.ensures.step _ _ c.end_input.ensures.written
