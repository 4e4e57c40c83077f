-- One walk from the marks of the edges and of the first positions: its progress is the count and the first difference (`compared`).
use native.Mathlib.Omega.{arith}
use Rattle.relations.proofs.Laws.Areas as areas
use Rattle.rules.specs.Graph.{graph_of}
use Rattle.sequences.proofs.Laws.Walking as walking
use Rattle.lists.proofs.Laws.Lengths as listed
use Rattle.lists.proofs.listing.match_entries.Goals as goal

pub returns : goal.returns
returns c = (
  areas.frame_trans _ _ _ _ _ (areas.frame_wide _ _ _ _ _ _ (omega arith) (omega arith) c.mark_edges.ensures.0) (areas.frame_trans _ _ _ _ _ (areas.frame_wide _ _ _ _ _ _ (omega arith) (omega arith) c.mark_firsts.ensures.0) (areas.frame_wide _ _ _ _ _ _ (omega arith) (omega arith) c.lengths.ensures.0)),
  listed.compared (graph_of c.args.n c.args.labels c.args.edges.now) c.args.k c.args.table.now _ _ _ _ _ (c.lengths.ensures.1 c.args.edges.now c.requires.1 c.mark_firsts.ensures.1 (walking.marked_kept _ _ _ _ _ _ (omega arith) c.mark_firsts.ensures.0 c.mark_edges.ensures.1)),
)
