use Prim.Native.Nat.{ℕ, ◌+◌, ◌*◌, ◌<◌}
use mathlib.Core.Path.{◌≡◌, sym, ap, ◌∙◌}
use native.Mathlib.Omega.{arith}
use borrow.Author.Tests.{not-true, not-false}
use Rattle.rules.proofs.Laws.Places.{place_lt, row_fits, square_le}
use Rattle.entries.specs.Entries.{entries_row}
use Rattle.entries.proofs.Laws.Went as went
use Rattle.entries.proofs.Laws.Emitting as emitting
use Rattle.std.proofs.lemmas.Bool.{not_from_false, not_from_true}
use Rattle.entries.proofs.emit.put_places.Goals as goal

pub overflow_mul-row : goal.overflow_mul-row
overflow_mul-row c = omega (arith, row_fits c.args.n c.requires.0, square_le c.requires.3.small)

pub overflow_mul-firsts : goal.overflow_mul-firsts
overflow_mul-firsts c = omega (arith, square_le c.requires.3.small)

pub overflow_mul-firsts-2 : goal.overflow_mul-firsts-2
overflow_mul-firsts-2 c = omega (arith, square_le c.requires.3.small)

pub loop-u-init : goal.loop-u-init
loop-u-init c = (omega arith, went.same_refl _, λ J a m o s f w. w)

pub overflow_add-p : goal.overflow_add-p
overflow_add-p c =
    let inside : c.loop-u.u < c.args.n = omega (arith, c.loop-u-test.true, c.requires.2) in
    let cell : c.args.v * c.args.n + c.loop-u.u < c.args.n * c.args.n = place_lt c.args.n _ _ c.requires.0 inside in
    omega (arith, cell, square_le c.requires.3.small)

pub overflow_add-from : goal.overflow_add-from
overflow_add-from c =
    let inside : c.loop-u.u < c.args.n = omega (arith, c.loop-u-test.true, c.requires.2) in
    let cell : c.args.v * c.args.n + c.loop-u.u < c.args.n * c.args.n = place_lt c.args.n _ _ c.requires.0 inside in
    omega (arith, cell, c.requires.3.room)

pub bounds-area-from : goal.bounds-area-from
bounds-area-from c =
    let inside : c.loop-u.u < c.args.n = omega (arith, c.loop-u-test.true, c.requires.2) in
    let cell : c.args.v * c.args.n + c.loop-u.u < c.args.n * c.args.n = place_lt c.args.n _ _ c.requires.0 inside in
    omega (arith, cell, c.requires.3.room)

pub has_bit-requires : goal.has_bit-requires
has_bit-requires c = c.requires.3.label

pub loop-u-preserved-then-not-has_bit : goal.loop-u-preserved-then-not-has_bit
loop-u-preserved-then-not-has_bit c =
    let inside : c.loop-u.u < c.args.n = omega (arith, c.loop-u-test.true, c.requires.2) in (
      omega (arith, c.loop-u.invariant.0),
      c.loop-u.invariant.1,
      λ J a m o s f w.
          went.went_as _ _ _ _ _ _ _ _ _
          (emitting.row_without c.args.n c.args.table.now J c.args.code c.args.v c.args.area.now f c.loop-u.u c.requires.0 inside c.args.from c.args.l s
          (sym c.has_bit.ensures ∙ not-true _ (not_from_false _ c.if-not-has_bit.true)))
          (c.loop-u.invariant.2 J a m o s f w),
    )

pub overflow_add-firsts : goal.overflow_add-firsts
overflow_add-firsts c =
    let inside : c.loop-u.u < c.args.n = omega (arith, c.loop-u-test.true, c.requires.2) in
    let cell : c.args.v * c.args.n + c.loop-u.u < c.args.n * c.args.n = place_lt c.args.n _ _ c.requires.0 inside in
    omega (arith, cell, square_le c.requires.3.small)

pub bounds-area-firsts : goal.bounds-area-firsts
bounds-area-firsts c =
    let inside : c.loop-u.u < c.args.n = omega (arith, c.loop-u-test.true, c.requires.2) in
    let cell : c.args.v * c.args.n + c.loop-u.u < c.args.n * c.args.n = place_lt c.args.n _ _ c.requires.0 inside in
    omega (arith, cell, c.requires.3.area)

pub loop-u-preserved-then-area-firsts-eq0 : goal.loop-u-preserved-then-area-firsts-eq0
loop-u-preserved-then-area-firsts-eq0 c =
    let inside : c.loop-u.u < c.args.n = omega (arith, c.loop-u-test.true, c.requires.2) in (
      omega (arith, c.loop-u.invariant.0),
      c.loop-u.invariant.1,
      λ J a m o s f w.
          went.went_as _ _ _ _ _ _ _ _ _
          (emitting.row_later c.args.n c.args.table.now J c.args.code c.args.v c.args.area.now f c.loop-u.u c.requires.0 inside c.if-area-firsts-eq0.true)
          (c.loop-u.invariant.2 J a m o s f w),
    )

pub offset_bounds-table-p : goal.offset_bounds-table-p
offset_bounds-table-p c =
    let inside : c.loop-u.u < c.args.n = omega (arith, c.loop-u-test.true, c.requires.2) in
    let cell : c.args.v * c.args.n + c.loop-u.u < c.args.n * c.args.n = place_lt c.args.n _ _ c.requires.0 inside in
    omega (arith, cell, square_le c.requires.3.small)

pub bounds-table-p : goal.bounds-table-p
bounds-table-p c =
    let inside : c.loop-u.u < c.args.n = omega (arith, c.loop-u-test.true, c.requires.2) in
    let cell : c.args.v * c.args.n + c.loop-u.u < c.args.n * c.args.n = place_lt c.args.n _ _ c.requires.0 inside in
    omega (arith, cell, c.requires.3.square)

pub put-requires : goal.put-requires
put-requires c = omega (arith, c.loop-u.invariant.0, c.requires.3.few)

pub loop-u-preserved : goal.loop-u-preserved
loop-u-preserved c =
    let inside : c.loop-u.u < c.args.n = omega (arith, c.loop-u-test.true, c.requires.2) in (
      omega (arith, c.loop-u.invariant.0, c.put.ensures.0),
      went.same_trans c.loop-u.invariant.1 c.put.ensures.2,
      λ J a m o s f w.
          went.went_as _ _ _ _ _ _ _ _ _
          (emitting.row_with c.args.n c.args.table.now J c.args.code c.args.v c.args.area.now f c.loop-u.u c.requires.0 inside c.args.from c.args.l s
          c.if-area-firsts-eq0.false (sym c.has_bit.ensures ∙ not-false _ (not_from_true _ c.if-not-has_bit.false)))
          (went.went_trans _ _ _ _ _ _ _ _ _ _ _ _ (c.loop-u.invariant.2 J a m o s f w) (went.went_on c.loop-u.invariant.1 c.put.ensures.1)),
    )

pub returns : goal.returns
returns c =
    let e : c.loop-u.u ≡ c.args.end = omega arith in (
      omega (arith, c.loop-u.invariant.0),
      λ J a m o s f w. went.went_as _ _ _ _ _ _ _ _ _ (ap (λ (k : ℕ). entries_row c.args.n c.args.table.now J c.args.code c.args.v k) e) (c.loop-u.invariant.2 J a m o s f w),
      c.loop-u.invariant.1,
    )
