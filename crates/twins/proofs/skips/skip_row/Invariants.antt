-- The invariant: `next` is the first connected item from m on, and so for each item from m on, whose bytes are written.
use Rattle.twins.specs.Skips.{Next}
use Rattle.twins.proofs.Laws.Skips.{From}
use Rattle.twins.proofs.skips.skip_row.Given as goal

abbrev pub invariant-loop-m : goal.invariant-loop-m
invariant-loop-m l = record {
  first : Next l.n l.level.numbers.now l.v l.m l.next;
  written : From l.n l.level.numbers.now l.v l.m l.initial.area l.area;
}
