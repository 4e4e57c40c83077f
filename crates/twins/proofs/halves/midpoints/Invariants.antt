-- The invariant: the midpoints of the first c splits are listed.
use Rattle.twins.specs.Halves.{Listing}
use Rattle.twins.proofs.halves.midpoints.Given as goal

abbrev pub invariant-loop-c : goal.invariant-loop-c
invariant-loop-c l = Listing l.over.n l.over.i l.over.levels.now l.v l.u l.c l.k l.list
