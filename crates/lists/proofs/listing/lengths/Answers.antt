use Prim.Native.Nat.{◌+◌, ◌*◌}
use mathlib.Core.Path.{◌∙◌}
use mathlib.Core.List.{[]}
use native.Mathlib.Omega.{arith}
use Rattle.relations.specs.Relations.{Frame}
use Rattle.relations.proofs.Laws.Areas as areas
use Rattle.rules.proofs.Laws.Places.{square_le}
use Rattle.entries.proofs.Laws.Went as went
use Rattle.rules.specs.Graph.{graph_of}
use Rattle.sequences.proofs.Laws.Walking as walking
use Rattle.sequences.proofs.Laws.Bounds as bounds
use Rattle.lists.proofs.Laws.Lengths as listed
use Rattle.lists.proofs.listing.lengths.Goals as goal

pub overflow_mul-start : goal.overflow_mul-start
overflow_mul-start c = omega (arith, square_le c.requires.0.small)

pub overflow_mul-start-2 : goal.overflow_mul-start-2
overflow_mul-start-2 c = omega (arith, square_le c.requires.0.small)

pub identity-requires : goal.identity-requires
identity-requires c = (c.requires.0.small, omega (arith, c.requires.0.area))

pub emit-requires : goal.emit-requires
emit-requires c =
    record {
      small = c.requires.0.small;
      label = omega arith;
      square = c.requires.0.square;
      few = omega (arith, square_le c.requires.0.small);
      room = omega (arith, c.requires.0.area, c.identity.ensures.0.size);
      area = omega (arith, c.requires.0.area, c.identity.ensures.0.size);
    }

pub loop-j-init : goal.loop-j-init
loop-j-init c = (omega arith, areas.frame_refl _ _ _, went.same_refl _, λ es h f m. went.went_as _ _ _ _ _ _ _ _ _ (listed.longer_none _ _ _) (went.went_none _ _ _ _))

pub overflow_add-j : goal.overflow_add-j
overflow_add-j c = omega (arith, c.requires.0.short)

pub walk-requires : goal.walk-requires
walk-requires c =
    record {
      labelled = c.requires.0.labelled;
      small = c.requires.0.small;
      square = c.requires.0.square;
      deep = omega arith;
      few = omega (arith, c.loop-j.invariant.0, c.emit.ensures.0, square_le c.requires.0.small, c.requires.0.short, bounds.weight_small (c.loop-j.j + 1) (omega (arith, c.requires.0.short)));
      coded = bounds.codes_small (c.loop-j.j + 1) (omega (arith, c.requires.0.short));
      room = omega (arith, bounds.blocks_small (c.loop-j.j + 1) (c.args.n * c.args.n) (omega (arith, c.requires.0.short)));
      area = omega (arith, c.requires.0.area, c.identity.ensures.0.size, c.loop-j.invariant.1.size);
    }

pub loop-j-preserved : goal.loop-j-preserved
loop-j-preserved c = (
  omega (arith, c.loop-j.invariant.0, c.walk.ensures.0, c.requires.0.short, bounds.weight_small (c.loop-j.j + 1) (omega (arith, c.requires.0.short))),
  areas.frame_trans _ _ _ _ _ c.loop-j.invariant.1 (areas.frame_wide _ _ _ _ _ _ (omega arith) (omega arith) c.walk.ensures.1),
  went.same_trans c.loop-j.invariant.2 c.walk.ensures.3,
  λ es h f m.
      let m' = walking.marked_kept _ _ _ _ _ _ (omega arith) c.loop-j.invariant.1 m in
      went.went_as _ _ _ _ _ _ _ _ _ (listed.longer_more (graph_of c.args.n c.args.labels es) c.args.table.now _ c.loop-j.j)
      (went.went_trans _ _ _ _ _ _ _ _ _ _ _ _ (c.loop-j.invariant.3 es h f m)
      (went.went_on c.loop-j.invariant.2 (c.walk.ensures.2 es [] h (walking.firsts_kept _ _ _ _ _ _ (omega arith) c.loop-j.invariant.1 f) m' listed.empty_code (walking.extended_none _ _ es _ _ m')))),
)

pub shape_of-area : goal.shape_of-area
shape_of-area c = c.loop-j.invariant.1.size ∙ c.identity.ensures.0.size

pub returns : goal.returns
returns c =
    let early : Frame (2 * (c.args.n * c.args.n)) (8 * (c.args.n * c.args.n)) _ _ = areas.frame_wide _ _ _ _ _ _ (omega arith) (omega arith) c.identity.ensures.0 in (
      areas.frame_trans _ _ _ _ _ early c.loop-j.invariant.1,
      λ es h f m.
          let f' = walking.firsts_kept _ _ _ _ _ _ (omega arith) early f in
          went.went_from c.requires.1 c.requires.2
          (went.went_as _ _ _ _ _ _ _ _ _ (listed.lengths_all (graph_of c.args.n c.args.labels es) c.args.table.now _ _ _ (omega arith))
          (went.went_trans _ _ _ _ _ _ _ _ _ _ _ _
          (went.went_as _ _ _ _ _ _ _ _ _ (listed.empty_entries c.args.n c.args.labels es c.args.table.now h c.requires.0.square) (c.emit.ensures.1 _ c.identity.ensures.1 f'))
          (went.went_on c.emit.ensures.2 (c.loop-j.invariant.3 es h f' (walking.marked_kept _ _ _ _ _ _ (omega arith) early m))))),
      went.same_trans c.emit.ensures.2 c.loop-j.invariant.2,
    )
