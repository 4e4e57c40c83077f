-- Three cases: not connected; alike an earlier position, whose number is read; new, when p heads its chain and the number is top + 1.
use native.Mathlib.Omega.{arith}
use Rattle.rules.proofs.Laws.Places.{square_le}
use Rattle.twins.proofs.Laws.Tables.{base_next}
use Rattle.twins.proofs.Laws.Midpoints.{midpoints_cut}
use Rattle.twins.proofs.Laws.Reach.{byte_set, byte_clear}
use Rattle.numbering.proofs.Laws.Taken.{taken_out, taken_old, taken_new}
use Rattle.numbering.proofs.number.next_number.Goals as goal

pub returns-then-area-n-eq0 : goal.returns-then-area-n-eq0
returns-then-area-n-eq0 c = (taken_out _ _ _ _ _ _ c.requires.2 c.requires.3 c.requires.4 (byte_clear _ (c.requires.1.byte_at c.args.p c.requires.3) c.if-area-n-eq0.true), c.requires.7)

pub find_alike-requires : goal.find_alike-requires
find_alike-requires c =
    let list = midpoints_cut _ _ _ _ _ _ _ c.midpoints-many.ensures in
    let b = rw (c.steps.ensures.0, c.steps.ensures.1) at c.bucket-b.ensures in
    (c.requires.3, b.0 _ _ list, b.1, c.requires.4, list, c.requires.7)

pub overflow_mul-result : goal.overflow_mul-result
overflow_mul-result c = omega (arith, square_le c.requires.0.few)

pub overflow_add-result : goal.overflow_add-result
overflow_add-result c = omega (arith, base_next c.args.n c.args.i c.requires.0.some, (c.find_alike.ensures.0.found _ c.in-Some.is).0, c.requires.3, c.requires.0.room)

pub offset_bounds-levels-i : goal.offset_bounds-levels-i
offset_bounds-levels-i c = omega (arith, base_next c.args.n c.args.i c.requires.0.some, (c.find_alike.ensures.0.found _ c.in-Some.is).0, c.requires.3, c.requires.0.room)

pub bounds-levels-i : goal.bounds-levels-i
bounds-levels-i c = omega (arith, base_next c.args.n c.args.i c.requires.0.some, (c.find_alike.ensures.0.found _ c.in-Some.is).0, c.requires.3, c.requires.0.room)

pub returns-in-Some : goal.returns-in-Some
returns-in-Some c = (
  taken_old _ _ _ _ _ _ c.requires.2 c.requires.3 c.requires.4 (byte_set _ (c.requires.1.byte_at c.args.p c.requires.3) c.if-area-n-eq0.false) c.find_alike.ensures.0 (rw c.steps.ensures.1 at c.steps.result.bytes) _ c.in-Some.is,
  c.find_alike.ensures.1,
)

pub overflow_add-result-2 : goal.overflow_add-result-2
overflow_add-result-2 c = omega (arith, square_le c.requires.0.few, c.requires.2.small)

pub returns : goal.returns
returns c =
    let list = midpoints_cut _ _ _ _ _ _ _ c.midpoints-many.ensures in
    let b = rw (c.steps.ensures.0, c.steps.ensures.1) at c.bucket-b.ensures in (
      taken_new _ _ _ _ _ _ c.requires.2 c.requires.3 c.requires.4 (byte_set _ (c.requires.1.byte_at c.args.p c.requires.3) c.if-area-n-eq0.false) c.find_alike.ensures.0
          _ _ c.requires.0.area_room (b.0 _ _ list, b.1) c.in_default.is c.add_head.ensures,
      c.find_alike.ensures.1,
    )
