-- What was printed, before what the rest of the input comes to, is what the input comes to.
use Rattle.std.proofs.Common.{drop}
use Rattle.machine.specs.Machine.{feed}
use Rattle.machine.specs.Standing.{machine_of}
use Rattle.answer.proofs.Streams.{Printed}
use Rattle.answer.proofs.print_all.Given as goal

abbrev pub invariant-loop-byte : goal.invariant-loop-byte
invariant-loop-byte g l = Printed (g.W.Write.contents l.fn.writer) (g.W.Write.contents l.writer) (feed (machine_of l.fn.run) l.input) (feed (machine_of l.run) (drop l.byte-index l.input))
