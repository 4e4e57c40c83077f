-- A first walk over an empty list only counts; a second writes if there is room. Both walk the same entries of the edge table.
use mathlib.Core.Path.{sym}
use native.Mathlib.Omega.{arith}
use borrow.Author.Rules.{rules}
use Rattle.relations.proofs.Laws.Areas as areas
use Rattle.rules.specs.Graph.{graph_of}
use Rattle.sequences.proofs.Laws.Walking as walking
use Rattle.lists.proofs.Laws.Lengths as listed
use Rattle.lists.proofs.listing.write_entries.Goals as goal

pub returns-then-count-entries : goal.returns-then-count-entries
returns-then-count-entries c = (
  areas.frame_trans _ _ _ _ _ (areas.frame_wide _ _ _ _ _ _ (omega arith) (omega arith) c.mark_edges.ensures.0) (areas.frame_trans _ _ _ _ _ (areas.frame_wide _ _ _ _ _ _ (omega arith) (omega arith) c.mark_firsts.ensures.0) (areas.frame_wide _ _ _ _ _ _ (omega arith) (omega arith) c.lengths.ensures.0)),
  listed.listed_short (graph_of c.args.n c.args.labels c.args.edges.now) c.args.k c.args.table.now _ _ _ _ _ _ (c.lengths.ensures.1 c.args.edges.now c.requires.1 c.mark_firsts.ensures.1 (walking.marked_kept _ _ _ _ _ _ (omega arith) c.mark_firsts.ensures.0 c.mark_edges.ensures.1)) (omega (arith, c.if-count-entries.true)),
)

pub returns : goal.returns
returns c = (
  areas.frame_trans _ _ _ _ _ (areas.frame_trans _ _ _ _ _ (areas.frame_wide _ _ _ _ _ _ (omega arith) (omega arith) c.mark_edges.ensures.0) (areas.frame_trans _ _ _ _ _ (areas.frame_wide _ _ _ _ _ _ (omega arith) (omega arith) c.mark_firsts.ensures.0) (areas.frame_wide _ _ _ _ _ _ (omega arith) (omega arith) c.lengths.ensures.0))) (areas.frame_wide _ _ _ _ _ _ (omega arith) (omega arith) c.lengths-2.ensures.0),
  listed.listed_to _ _ _ (let same = sym c.lengths-2.ensures.2.out in search rules)
      (listed.listed_room (graph_of c.args.n c.args.labels c.args.edges.now) c.args.k c.args.table.now _ _ _ _ _ _ _ _ _ _ (c.lengths.ensures.1 c.args.edges.now c.requires.1 c.mark_firsts.ensures.1 (walking.marked_kept _ _ _ _ _ _ (omega arith) c.mark_firsts.ensures.0 c.mark_edges.ensures.1)) (c.lengths-2.ensures.1 c.args.edges.now c.requires.1 (walking.firsts_kept _ _ _ _ _ _ (omega arith) c.lengths.ensures.0 c.mark_firsts.ensures.1) (walking.marked_kept _ _ _ _ _ _ (omega arith) c.lengths.ensures.0 (walking.marked_kept _ _ _ _ _ _ (omega arith) c.mark_firsts.ensures.0 c.mark_edges.ensures.1))) c.if-count-entries.false),
)
