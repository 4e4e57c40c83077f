-- Four cases: not connected, 0 though connected, a new number, an old one; the last reads its first position and tests agreement with it.
use lib.ListN.{get_or}
use Prim.Native.Nat.{◌*◌, ◌<◌}
use mathlib.Core.Path.{◌≡◌, sym, ap, ◌∙◌}
use native.Mathlib.Omega.{arith}
use Rattle.rules.specs.Rule.{rule}
use Rattle.rules.specs.Levels.{level_of, agree_at, first_of}
use Rattle.rules.proofs.Laws.Places.{square_le}
use Rattle.rules.proofs.Laws.Accepted.{first_of_lt}
use Rattle.twins.specs.Marks.{marked_graph}
use Rattle.twins.proofs.Laws.Tables.{base_next, place_get}
use Rattle.twins.proofs.Laws.Reach.{byte_set, byte_clear}
use Rattle.faults.proofs.Laws.Right.{right_out, right_zero, right_agree}
use Rattle.faults.proofs.Laws.Firsts.{right_new, first_read}
use Rattle.faults.proofs.is_right.Goals as goal

pub overflow_mul-c-2 : goal.overflow_mul-c-2
overflow_mul-c-2 c = omega (arith, base_next c.args.over.n c.args.over.i c.args.over.ready.some)

pub overflow_add-c : goal.overflow_add-c
overflow_add-c c = omega (arith, base_next c.args.over.n c.args.over.i c.args.over.ready.some, c.requires.1.inside)

pub offset_bounds-over-over : goal.offset_bounds-over-over
offset_bounds-over-over c = omega (arith, base_next c.args.over.n c.args.over.i c.args.over.ready.some, c.requires.1.inside)

pub bounds-over-over : goal.bounds-over-over
bounds-over-over c = omega (arith, base_next c.args.over.n c.args.over.i c.args.over.ready.some, c.requires.1.inside)

pub returns-then-over-n-eq0 : goal.returns-then-over-n-eq0
returns-then-over-n-eq0 c = (right_out _ _ _ _ _ (sym (place_get _ _ _ _ c.args.over.ready.some c.requires.1.inside)) (byte_clear _ (c.requires.0.byte_at c.args.p c.requires.1.inside) c.if-over-n-eq0.true), c.requires.3, c.requires.4)

pub returns-then-c-eq0 : goal.returns-then-c-eq0
returns-then-c-eq0 c = (right_zero _ _ _ _ _ (sym (place_get _ _ _ _ c.args.over.ready.some c.requires.1.inside)) (byte_set _ (c.requires.0.byte_at c.args.p c.requires.1.inside) c.if-over-n-eq0.false) c.if-c-eq0.true, c.requires.3, c.requires.4)

pub overflow_add-result : goal.overflow_add-result
overflow_add-result c = omega (arith, square_le c.args.over.ready.few, c.requires.1.small, c.requires.1.inside)

pub returns-then-top-c : goal.returns-then-top-c
returns-then-top-c c = (
  right_new _ _ _ _ _ (sym (place_get _ _ _ _ c.args.over.ready.some c.requires.1.inside)) c.requires.1.inside
      (byte_set _ (c.requires.0.byte_at c.args.p c.requires.1.inside) c.if-over-n-eq0.false) c.if-c-eq0.false c.requires.1.largest c.if-top-c.true,
  c.requires.3,
  c.requires.4,
)

pub agree_at-requires : goal.agree_at-requires
agree_at-requires c =
    let is-first : c.word_at-q.result ≡ first_of (c.args.over.n * c.args.over.n) (level_of c.args.over.n c.args.over.levels.now c.args.over.i) (get_or (level_of c.args.over.n c.args.over.levels.now c.args.over.i) c.args.p 0) = first_read _ _ _ _ _ c.requires.2 _ c.if-c-eq0.false c.if-top-c.false c.word_at-q.ensures.number
    ∙ ap (first_of (c.args.over.n * c.args.over.n) (level_of c.args.over.n c.args.over.levels.now c.args.over.i)) (sym (place_get _ _ _ _ c.args.over.ready.some c.requires.1.inside)) in
    let h : c.word_at-q.result < c.args.over.n * c.args.over.n =
    rw is-first (first_of_lt (c.args.over.n * c.args.over.n) (level_of c.args.over.n c.args.over.levels.now c.args.over.i) c.args.p c.requires.1.inside) in (
      c.requires.1.inside,
      omega (arith, h, c.requires.1.inside),
      c.requires.3,
      c.requires.4,
    )

pub returns : goal.returns
returns c =
    let is-first : c.word_at-q.result ≡ first_of (c.args.over.n * c.args.over.n) (level_of c.args.over.n c.args.over.levels.now c.args.over.i) (get_or (level_of c.args.over.n c.args.over.levels.now c.args.over.i) c.args.p 0) = first_read _ _ _ _ _ c.requires.2 _ c.if-c-eq0.false c.if-top-c.false c.word_at-q.ensures.number
    ∙ ap (first_of (c.args.over.n * c.args.over.n) (level_of c.args.over.n c.args.over.levels.now c.args.over.i)) (sym (place_get _ _ _ _ c.args.over.ready.some c.requires.1.inside)) in
    let m = marked_graph c.args.over.n c.args.over.area.now in
    let T = level_of c.args.over.n c.args.over.levels.now in (
      right_agree _ _ _ _ _ (sym (place_get _ _ _ _ c.args.over.ready.some c.requires.1.inside)) (byte_set _ (c.requires.0.byte_at c.args.p c.requires.1.inside) c.if-over-n-eq0.false)
          c.if-c-eq0.false (omega (arith, c.if-top-c.false, c.requires.1.largest))
          (c.agree_at.ensures.0 ∙ ap (agree_at rule m c.args.over.i T c.args.p) is-first),
      c.agree_at.ensures.1,
      c.agree_at.ensures.2,
    )
