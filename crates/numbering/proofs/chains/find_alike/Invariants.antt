-- The invariant: whatever in the chain is alike p is still ahead. Links lead down, so the walk ends; then no earlier position is alike.
use Rattle.twins.specs.Held.{Held}
use Rattle.numbering.proofs.Laws.Walk.{Ahead}
use Rattle.numbering.proofs.chains.find_alike.Given as goal

abbrev pub invariant-loop-at : goal.invariant-loop-at
invariant-loop-at l = record {
  ahead : Ahead l.over.n l.over.i l.over.levels.now l.over.area.now l.p l.b l.at;
  kept : Held l.over.n l.over.i l.over.levels.now l.other;
}

abbrev pub decreases-loop-at : goal.decreases-loop-at
decreases-loop-at l = l.at
