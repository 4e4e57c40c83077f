use Prim.Native.Nat.{ℕ, ◌+◌, ◌*◌, ◌≤◌}
use mathlib.Core.Path.{◌≡◌, ap}
use native.Mathlib.Omega.{arith}
use Rattle.relations.proofs.Laws.Areas as areas
use Rattle.relations.proofs.Laws.Joining.{next_row}
use Rattle.rules.proofs.Laws.Places.{row_fits, square_le}
use Rattle.entries.specs.Entries.{entries_rows}
use Rattle.entries.proofs.Laws.Went as went
use Rattle.entries.proofs.Laws.Emitting as emitting
use Rattle.entries.proofs.emit.emit.Goals as goal

pub loop-v-init : goal.loop-v-init
loop-v-init c = (omega arith, went.same_refl _, λ J s f. went.went_as _ _ _ _ _ _ _ _ _ (emitting.rows_none _ _ J _) (went.went_none _ _ _ _))

pub overflow_mul-row : goal.overflow_mul-row
overflow_mul-row c =
    let row : c.loop-v.v * c.args.n + c.args.n ≤ c.args.n * c.args.n = row_fits c.args.n c.loop-v-test.true in
    omega (arith, row, square_le c.requires.small)

pub overflow_add-row : goal.overflow_add-row
overflow_add-row c =
    let row : c.loop-v.v * c.args.n + c.args.n ≤ c.args.n * c.args.n = row_fits c.args.n c.loop-v-test.true in
    omega (arith, row, c.requires.room)

pub loop-v-preserved-then-lacks : goal.loop-v-preserved-then-lacks
loop-v-preserved-then-lacks c =
    let a = c.args in
    let row : c.loop-v.v * a.n + a.n ≤ a.n * a.n = row_fits a.n c.loop-v-test.true in
    let next : (c.loop-v.v + 1) * a.n ≡ c.loop-v.v * a.n + a.n = next_row c.loop-v.v a.n in
    let none = areas.lacks_in (a.from + c.loop-v.v * a.n) a.n a.l a.area.now (omega (arith, row, c.requires.room)) (c.lacks.ensures c.if-lacks.true) in (
      omega (arith, c.loop-v.invariant.0, next),
      c.loop-v.invariant.1,
      λ J s f.
          went.went_as _ _ _ _ _ _ _ _ _
          (emitting.rows_skip a.n a.table.now J a.code c.loop-v.v (emitting.row_lacks a.n a.from a.l c.loop-v.v a.area.now J c.loop-v-test.true none s))
          (c.loop-v.invariant.2 J s f),
    )

pub emit_row-requires : goal.emit_row-requires
emit_row-requires c =
    let row : c.loop-v.v * c.args.n + c.args.n ≤ c.args.n * c.args.n = row_fits c.args.n c.loop-v-test.true in (
      c.loop-v-test.true,
      record {
        small = c.requires.small;
        label = c.requires.label;
        square = c.requires.square;
        few = omega (arith, c.loop-v.invariant.0, row, c.requires.few);
        room = c.requires.room;
        area = c.requires.area;
      },
    )

pub loop-v-preserved : goal.loop-v-preserved
loop-v-preserved c =
    let next : (c.loop-v.v + 1) * c.args.n ≡ c.loop-v.v * c.args.n + c.args.n = next_row c.loop-v.v c.args.n in (
      omega (arith, c.loop-v.invariant.0, c.emit_row.ensures.0, next),
      went.same_trans c.loop-v.invariant.1 c.emit_row.ensures.2,
      λ J s f.
          went.went_as _ _ _ _ _ _ _ _ _ (emitting.rows_more _ _ J _ _)
          (went.went_trans _ _ _ _ _ _ _ _ _ _ _ _ (c.loop-v.invariant.2 J s f) (went.went_on c.loop-v.invariant.1 (c.emit_row.ensures.1 J s f))),
    )

pub returns : goal.returns
returns c =
    let e : c.loop-v.v ≡ c.args.n = omega arith in (
      omega (arith, c.loop-v.invariant.0, ap (λ (k : ℕ). k * c.args.n) e),
      λ J s f. went.went_as _ _ _ _ _ _ _ _ _ (ap (λ (k : ℕ). entries_rows c.args.n c.args.table.now J c.args.code k) e) (c.loop-v.invariant.2 J s f),
      c.loop-v.invariant.1,
    )
