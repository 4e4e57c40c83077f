-- The invariant: the row tells which items have a midpoint among the first m. An m that the level does not connect with v adds none.
use Rattle.twins.specs.Rows.{Reached}
use Rattle.twins.proofs.near.gather_row.Given as goal

abbrev pub invariant-loop-m : goal.invariant-loop-m
invariant-loop-m l = Reached l.level.n l.level.numbers.now l.first.numbers.now l.v l.m l.row
