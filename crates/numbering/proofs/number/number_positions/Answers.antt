-- Each turn puts the next number of the numbering in its place, and the chains have the positions before.
use Prim.Native.Nat.{◌+◌, ◌*◌, ◌≤◌}
use mathlib.Core.Path.{◌≡◌, refl, sym, ◌∙◌}
use native.Mathlib.Omega.{arith}
use lib.ListN.{length}
use Rattle.rules.specs.Levels.{numbering, max_of, level_over}
use Rattle.rules.proofs.Laws.Put.{put_none}
use Rattle.twins.specs.Standing.{base}
use Rattle.twins.proofs.Laws.Tables.{base_next}
use Rattle.numbering.proofs.Laws.Level.{ends, same_size, same_below, begun, write_next, max_next, next_small}
use Rattle.twins.proofs.Laws.Midpoints.{held_kept}
use Rattle.numbering.proofs.Laws.Taken.{steady_refl, steady_trans}
use Rattle.numbering.proofs.Laws.Turn.{near_steady, turn_ready, turn_laid, turn_begun, turn_chains, turn_back, turn_number}
use Rattle.numbering.proofs.number.number_positions.Goals as goal

pub overflow_mul-start : goal.overflow_mul-start
overflow_mul-start c = omega (arith, base_next c.args.n c.args.i c.requires.0.some)

pub overflow_mul-start-2 : goal.overflow_mul-start-2
overflow_mul-start-2 c = omega (arith, base_next c.args.n c.args.i c.requires.0.some)

pub loop-p-init : goal.loop-p-init
unfolding numbering max_of
loop-p-init c = record {
  small = omega arith;
  largest = refl;
  written = sym (put_none _ _);
  chains = c.requires.2;
  steady = steady_refl _ _;
  other = c.new-other.ensures _ _ _;
}

pub next_number-k-requires : goal.next_number-k-requires
next_number-k-requires c =
    let i = c.loop-p.invariant in
    let r = c.requires.0 in (
      turn_ready _ _ _ _ r _ _ i.written c.loop-p.auto.p-end _ i.steady,
      near_steady _ _ _ _ c.requires.1 i.steady,
      turn_begun _ _ _ _ r _ _ i.written c.loop-p.auto.p-end _ i.steady _ (begun _ _ _ _ r _ _ i.written c.loop-p.auto.p-end _ i.largest i.small),
      c.loop-p-test.true,
      turn_chains _ _ _ _ r _ _ i.written c.loop-p.auto.p-end _ i.steady _ _ i.chains,
      turn_laid _ _ _ _ r _ _ i.written c.loop-p.auto.p-end _ i.steady c.requires.3,
      omega arith,
      held_kept _ _ _ _ _ (same_below _ _ _ _ r _ _ i.written c.loop-p.auto.p-end) i.other,
    )

pub overflow_add-levels : goal.overflow_add-levels
overflow_add-levels c =
    let kept-size : length c.loop-p.levels ≡ length c.args.levels.now = same_size _ _ _ _ c.requires.0 _ _ c.loop-p.invariant.written c.loop-p.auto.p-end in
    let kept : base c.args.n c.args.i + c.args.n * c.args.n ≤ length c.loop-p.levels = rw kept-size (ends _ _ _ _ c.requires.0) in
    omega (arith, kept, kept-size)

pub offset_bounds-levels-start : goal.offset_bounds-levels-start
offset_bounds-levels-start c =
    let kept-size : length c.loop-p.levels ≡ length c.args.levels.now = same_size _ _ _ _ c.requires.0 _ _ c.loop-p.invariant.written c.loop-p.auto.p-end in
    let kept : base c.args.n c.args.i + c.args.n * c.args.n ≤ length c.loop-p.levels = rw kept-size (ends _ _ _ _ c.requires.0) in
    omega (arith, kept, kept-size)

pub bounds-levels-start : goal.bounds-levels-start
bounds-levels-start c =
    let kept-size : length c.loop-p.levels ≡ length c.args.levels.now = same_size _ _ _ _ c.requires.0 _ _ c.loop-p.invariant.written c.loop-p.auto.p-end in
    let kept : base c.args.n c.args.i + c.args.n * c.args.n ≤ length c.loop-p.levels = rw kept-size (ends _ _ _ _ c.requires.0) in
    omega (arith, kept, kept-size)

pub loop-p-preserved : goal.loop-p-preserved
loop-p-preserved c =
    let i = c.loop-p.invariant in
    let r = c.requires.0 in
    let k = c.next_number-k.result in
    let d = c.next_number-k.ensures.0 in
    let q = turn_number _ _ _ _ r _ _ i.written c.loop-p.auto.p-end _ i.steady k d.number in
    let z = next_small _ _ _ _ r _ _ i.written c.loop-p.auto.p-end k q _ i.largest in
    let m = c.max-top.ensures in
    record {
      small = omega arith;
      largest = m ∙ max_next _ _ _ _ r _ _ i.written c.loop-p.auto.p-end k q _ i.largest;
      written = write_next _ _ _ _ r _ _ i.written c.loop-p.auto.p-end k q c.loop-p-test.true;
      chains = turn_back _ _ _ _ r _ _ i.written c.loop-p.auto.p-end _ i.steady _ _ d.chains;
      steady = steady_trans _ _ _ _ i.steady d.steady;
      other = held_kept _ _ _ _ _ (λ j h. sym (same_below _ _ _ _ r _ _ i.written c.loop-p.auto.p-end j h)) c.next_number-k.ensures.1;
    }

pub returns : goal.returns
unfolding level_over
returns c =
    let l = c.loop-p in
    let a = c.args in
    let e : l.p ≡ a.n * a.n = omega arith in
    record { placed = record { count = rw e at l.invariant.largest; written = rw e at l.invariant.written }; steady = l.invariant.steady }
