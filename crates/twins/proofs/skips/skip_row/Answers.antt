use Prim.Native.Nat.{◌-◌, ◌+◌}
use mathlib.Core.Path.{◌≡◌}
use native.Mathlib.Omega.{arith}
use Rattle.rules.proofs.Laws.Places.{place_lt, square_le}
use Rattle.twins.proofs.Laws.Skips.{next_end, next_passed, next_here, from_start, from_down, from_done}
use Rattle.twins.proofs.skips.skip_row.Goals.{then-number_at-ne0, else-number_at-ne0}
use Rattle.twins.proofs.skips.skip_row.Goals as goal

pub loop-m-init : goal.loop-m-init
loop-m-init c = record { first = next_end _ _ _; written = from_start _ _ _ _ }

pub number_at-requires : goal.number_at-requires
number_at-requires c = record { first = c.requires.2; second = omega (arith, c.loop-m-test.true, c.loop-m.auto.m) }

pub overflow_cast-area : goal.overflow_cast-area
overflow_cast-area c = elim c.if-number_at-ne0.branch [
  | then-number_at-ne0 w ↦ omega (arith, w.next-is, c.loop-m-test.true, c.loop-m.auto.m, c.requires.0)
  | else-number_at-ne0 w ↦ omega (arith, w.next-is, c.loop-m.invariant.first.few, c.requires.0)
]

pub overflow_mul-area : goal.overflow_mul-area
overflow_mul-area c = omega (arith, square_le c.requires.0)

pub overflow_mul-area-in-loop-m : goal.overflow_mul-area-in-loop-m
overflow_mul-area-in-loop-m c = omega (arith, square_le c.requires.0)

pub bounds-area-n : goal.bounds-area-n
bounds-area-n c = omega (arith, place_lt _ _ (c.loop-m.m - 1) c.requires.2 (omega (arith, c.loop-m-test.true, c.loop-m.auto.m)), c.loop-m.auto.area, c.requires.1)

pub loop-m-preserved : goal.loop-m-preserved
loop-m-preserved c =
    let i = c.loop-m.invariant in
    let last : c.loop-m.m - 1 + 1 ≡ c.loop-m.m = omega (arith, c.loop-m-test.true) in
    elim c.if-number_at-ne0.branch [
      | then-number_at-ne0 w ↦
          let d = next_here c.args.level.n c.args.level.numbers.now c.args.v (c.loop-m.m - 1) (omega (arith, c.loop-m-test.true, c.loop-m.auto.m)) in
          rw w.next-is (record { first = d; written = from_down _ _ _ _ _ _ _ c.loop-m-test.true c.loop-m.auto.m c.requires.2 c.requires.1 i.written d })
      | else-number_at-ne0 w ↦
          let d = next_passed _ _ _ (c.loop-m.m - 1) _ (rw last i.first) c.number_at.ensures w.if-number_at-ne0.false in
          rw w.next-is (record { first = d; written = from_down _ _ _ _ _ _ _ c.loop-m-test.true c.loop-m.auto.m c.requires.2 c.requires.1 i.written d })
    ]

pub returns : goal.returns
returns c = from_done _ _ _ _ _ _ (omega (arith, c.loop-m-test.false)) c.loop-m.invariant.written
