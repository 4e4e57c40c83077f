-- A text more is printed, and the rest is what the machine goes on with.
use Rattle.lines.proofs.Laws.Feeding.{step_printed}
use Rattle.answer.proofs.Streams.{appends_nothing, printed_none, printed_more, printed_machine, printed_all}
use Rattle.answer.proofs.print_all.Goals.{then-many-gt0+in_ok-write_all, else-many-gt0}
use Rattle.answer.proofs.print_all.Goals as goal

pub loop-byte-init : goal.loop-byte-init
loop-byte-init g c = printed_none _ _

pub loop-byte-preserved : goal.loop-byte-preserved
loop-byte-preserved g c =
    printed_more _ _ _ _ _ _ _ c.loop-byte.invariant
    (step_printed _ _ _ _ _ _ c.loop-byte-test.true c.take_byte-many.ensures)
    (elim c.if-many-gt0.branch [
      | then-many-gt0+in_ok-write_all w ↦ rw w.writer-is w.in_ok-write_all.ensures.bytes
      | else-many-gt0 w ↦ rw w.writer-is (appends_nothing _ _ _ w.if-many-gt0.false)
    ])

pub returns-clause-machine : goal.returns-clause-machine
returns-clause-machine g c = printed_machine _ _ _ _ _ _ c.loop-byte-test.false c.loop-byte.invariant

pub returns-clause-written : goal.returns-clause-written
returns-clause-written g c = printed_all _ _ _ _ _ _ c.loop-byte-test.false c.loop-byte.invariant
