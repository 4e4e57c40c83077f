-- The last text is that of the machine behind all reads.
use Rattle.answer.proofs.Streams.{runs}
use Rattle.answer.proofs.run.Goals as goal

pub returns-clause-moved : goal.returns-clause-moved
returns-clause-moved g c = runs _ _ _ _ _ _ c.finish.result _ _ c.in_ok-read_all.ensures c.finish.ensures.written
