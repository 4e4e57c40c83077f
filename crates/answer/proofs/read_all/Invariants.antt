-- The machine is behind all reads so far, and each handed over a byte.
use Rattle.std.proofs.Common.{◌≡◌, length}
use Rattle.machine.specs.Standing.{machine_of}
use Rattle.answer.proofs.Streams.{Going}
use Rattle.answer.proofs.read_all.Given as goal

abbrev pub invariant-reads : goal.invariant-reads
invariant-reads g l = record {
  going : Going (g.R.Read.remaining l.fn.reader) (g.R.Read.remaining l.reader) (g.W.Write.contents l.fn.writer) (g.W.Write.contents l.writer) (machine_of l.fn.run) (machine_of l.run) l.counter;
  buffer_lent : length l.buffer ≡ 4096;
}
