use Prim.Native.Nat.{suc, ◌+◌, ◌*◌, ◌-◌, ◌≤◌}
use mathlib.Core.Path.{◌≡◌, refl, sym, ◌∙◌}
use native.Mathlib.Omega.{arith}
use lib.ListN.{length, get_or}
use Rattle.rules.specs.Rule.{rule}
use Rattle.rules.specs.Levels.{level_of, max_of}
use Rattle.rules.proofs.Laws.Loops.{any_start, any_more}
use Rattle.twins.specs.Marks.{marked_graph}
use Rattle.twins.proofs.Laws.Areas.{ready_area}
use Rattle.twins.proofs.Laws.Tables.{base_next, place_get, level_length}
use Rattle.faults.proofs.Laws.Right.{fault_yes, fault_no, fault_at, fault_none, right_small, max_take}
use Rattle.numbering.proofs.Laws.Taken.{steady_refl, steady_trans}
use Rattle.numbering.proofs.Laws.Turn.{steady_marks, near_steady, laid_steady, ok_kept}
use Rattle.faults.proofs.Laws.Firsts.{firsts_start, note_steady, note_firsts}
use Rattle.std.proofs.lemmas.Bool.{not_from_false, not_from_true}
use Rattle.faults.proofs.check_positions.Goals as goal

pub overflow_mul-start : goal.overflow_mul-start
overflow_mul-start c = omega (arith, base_next c.args.n c.args.i c.requires.0.some)

pub overflow_mul-start-2 : goal.overflow_mul-start-2
overflow_mul-start-2 c = omega (arith, base_next c.args.n c.args.i c.requires.0.some)

pub loop-p-init : goal.loop-p-init
unfolding max_of
loop-p-init c = record {
  bytes = λ q. omega (arith, c.type_inv.area q);
  small = omega arith;
  largest = refl;
  right = any_start _;
  firsts = firsts_start _ _ _ _;
  steady = steady_refl _ _;
  mine = c.new-mine.ensures _ _ _;
  other = c.new-other.ensures _ _ _;
}

pub invariant_of-over-clause-ready : goal.invariant_of-over-clause-ready
invariant_of-over-clause-ready c = ready_area _ _ _ _ _ c.requires.0 (steady_marks _ _ _ c.loop-p.invariant.steady) c.loop-p.invariant.steady.size

pub invariant_of-over-clause-bytes : goal.invariant_of-over-clause-bytes
invariant_of-over-clause-bytes c = c.loop-p.invariant.bytes

pub invariant_of-over-clause-laid : goal.invariant_of-over-clause-laid
invariant_of-over-clause-laid c = laid_steady _ _ _ _ _ c.loop-p.invariant.steady c.requires.2

pub is_right-requires : goal.is_right-requires
is_right-requires c =
    let i = c.loop-p.invariant in
    (near_steady _ _ _ _ c.requires.1 i.steady, record { inside = c.loop-p-test.true; largest = i.largest; small = i.small }, i.firsts, i.mine, i.other)

pub returns-then-not-is_right : goal.returns-then-not-is_right
returns-then-not-is_right c =
    let i = c.loop-p.invariant in
    record {
      fault = fault_at _ _ _ _ _ c.loop-p-test.true i.right (fault_yes _ _ _ _ _ (ok_kept _ _ _ _ _ _ i.steady c.is_right.ensures.0) (not_from_false _ c.if-not-is_right.true));
      steady = i.steady;
    }

pub overflow_add-start : goal.overflow_add-start
overflow_add-start c = omega (arith, base_next c.args.n c.args.i c.requires.0.some)

pub offset_bounds-levels-start : goal.offset_bounds-levels-start
offset_bounds-levels-start c = omega (arith, base_next c.args.n c.args.i c.requires.0.some)

pub bounds-levels-start : goal.bounds-levels-start
bounds-levels-start c = omega (arith, base_next c.args.n c.args.i c.requires.0.some)

pub note_first-top-requires : goal.note_first-top-requires
note_first-top-requires c =
    let i = c.loop-p.invariant in
    (c.requires.0.few, omega (arith, i.steady.size, c.requires.0.area_room), c.loop-p-test.true, i.small)

pub loop-p-preserved : goal.loop-p-preserved
loop-p-preserved c =
    let i = c.loop-p.invariant in
    let T = level_of c.args.n c.args.levels.now in
    let g = marked_graph c.args.n c.args.area.now in
    let k = get_or c.args.levels.now ((c.args.i - 1) * (c.args.n * c.args.n) + c.loop-p.p) 0 in
    let ek : k ≡ get_or (T c.args.i) c.loop-p.p 0 = sym (place_get _ _ _ _ c.requires.0.some c.loop-p-test.true) in
    let ok = ok_kept _ _ _ _ _ _ i.steady c.is_right.ensures.0 in
    let z = right_small rule g c.args.i T c.loop-p.p ok (not_from_true _ c.if-not-is_right.false) ek in
    let y : k ≤ suc c.loop-p.top = omega (arith, z, i.largest) in
    let len = level_length c.args.n c.args.levels.now c.args.i c.requires.0.some c.requires.0.room in
    let d = c.note_first-top.ensures in
    let room : 9 * (c.args.n * c.args.n) ≤ length c.loop-p.area = omega (arith, i.steady.size, c.requires.0.area_room) in
    record {
      bytes = λ q. omega (arith, c.type_inv.area q);
      small = omega (arith, y, d.largest, i.small);
      largest = d.largest ∙ max_take (T c.args.i) c.loop-p.p _ _ (omega (arith, len, c.loop-p-test.true)) i.largest ek;
      right = any_more _ _ i.right (fault_no _ _ _ _ _ ok (not_from_true _ c.if-not-is_right.false));
      firsts = note_firsts _ _ _ _ _ _ _ d room c.loop-p-test.true i.small _ _ i.firsts ek y i.largest;
      steady = steady_trans _ _ _ _ i.steady (note_steady _ _ _ _ _ _ _ d room c.loop-p-test.true i.small);
      mine = c.is_right.ensures.1;
      other = c.is_right.ensures.2;
    }

pub returns : goal.returns
returns c =
    let l = c.loop-p in
    record { fault = fault_none _ _ _ _ _ l.auto.p-end c.loop-p-test.false l.invariant.right; steady = l.invariant.steady }
