-- The invariant: the four are the largest hashes of the numbers so far, by each turn.
use Rattle.twins.specs.Chains.{Mosts}
use Rattle.twins.proofs.hashes.Most.of.Given as goal

abbrev pub invariant-loop-x : goal.invariant-loop-x
invariant-loop-x l = Mosts l.list l.x-index l.most.none l.most.quarter l.most.half l.most.most
