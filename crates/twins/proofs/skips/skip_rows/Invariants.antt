-- The invariant: the first v rows are written, and nothing else of the area has changed.
use Rattle.twins.proofs.Laws.Skips.{RowsTo}
use Rattle.twins.proofs.skips.skip_rows.Given as goal

abbrev pub invariant-loop-v : goal.invariant-loop-v
invariant-loop-v l = RowsTo l.level.n l.level.numbers.now l.v l.initial.area l.area
