use mathlib.Core.Path.{◌≡◌, refl}
use native.Mathlib.Omega.{arith}
use lib.ListN.{length-set}
use Rattle.twins.specs.Skips.{Next}
use Rattle.twins.proofs.Laws.Halves.{listed_cut, halves_start, halves_skip, halves_first, halves_second, halves_old, halves_new}
use Rattle.twins.proofs.halves.halves.Goals as goal

pub loop-m-init : goal.loop-m-init
loop-m-init c = (omega arith, halves_start _ _ _ _ _ _ _ _ c.requires.3, refl)

pub next_from-w-requires : goal.next_from-w-requires
next_from-w-requires c = (c.requires.0.skips.room, record { first = c.requires.2.first; second = c.loop-m-test.true })

pub loop-m-smaller-then-w-m : goal.loop-m-smaller-then-w-m
loop-m-smaller-then-w-m c =
    let ahead : Next c.args.first.n c.args.first.numbers.now c.args.v c.loop-m.m c.next_from-w.result = rw c.next_from-w.ensures (c.requires.0.skips.next_at _ _ c.requires.2.first c.loop-m-test.true) in
    omega (arith, ahead.up, ahead.few, c.if-w-m.true)

pub loop-m-preserved-then-w-m : goal.loop-m-preserved-then-w-m
loop-m-preserved-then-w-m c =
    let ahead : Next c.args.first.n c.args.first.numbers.now c.args.v c.loop-m.m c.next_from-w.result = rw c.next_from-w.ensures (c.requires.0.skips.next_at _ _ c.requires.2.first c.loop-m-test.true) in
    let l = c.loop-m in
    (ahead.few, halves_skip _ _ _ _ _ _ _ _ _ _ _ l.invariant.1 _ ahead, l.invariant.2)

pub number_at-b-requires : goal.number_at-b-requires
number_at-b-requires c = record { first = omega (arith, c.if-w-m.false, c.loop-m-test.true, c.requires.1); second = omega (arith, c.requires.2.second, c.requires.1) }

pub loop-m-preserved-then-b-eq0 : goal.loop-m-preserved-then-b-eq0
loop-m-preserved-then-b-eq0 c =
    let l = c.loop-m in
    (omega arith, halves_second _ _ _ _ _ _ _ _ _ _ _ l.invariant.1 (rw (c.if-w-m.false, c.requires.1) at c.number_at-b.ensures) c.if-b-eq0.true, l.invariant.2)

pub number_at-a-requires : goal.number_at-a-requires
number_at-a-requires c = record { first = c.requires.2.first; second = omega (arith, c.if-w-m.false, c.loop-m-test.true) }

pub loop-m-preserved-then-a-eq0 : goal.loop-m-preserved-then-a-eq0
loop-m-preserved-then-a-eq0 c =
    let l = c.loop-m in
    (omega arith, halves_first _ _ _ _ _ _ _ _ _ _ _ l.invariant.1 (rw c.if-w-m.false at c.number_at-a.ensures) c.if-a-eq0.true, l.invariant.2)

pub midpoint_of-x-requires : goal.midpoint_of-x-requires
midpoint_of-x-requires c =
    let p = c.requires.0 in
    (p.few, rw c.number_at-a.ensures (p.small _ _))

pub is_last-requires : goal.is_last-requires
is_last-requires c =
    let l = c.loop-m in
    omega (arith, l.invariant.1.few, l.invariant.1.room)

pub loop-m-preserved-then-is_last : goal.loop-m-preserved-then-is_last
loop-m-preserved-then-is_last c =
    let l = c.loop-m in (
      omega arith,
      halves_old _ _ _ _ _ _ _ _ _ _ _ l.invariant.1 (rw c.if-w-m.false at c.number_at-a.ensures) (rw (c.if-w-m.false, c.requires.1) at c.number_at-b.ensures) c.midpoint_of-x.ensures
          (listed_cut _ _ _ (omega (arith, l.invariant.1.few, l.invariant.1.room)) (c.is_last.ensures c.if-is_last.true)),
      l.invariant.2,
    )

pub offset_bounds-list-at : goal.offset_bounds-list-at
offset_bounds-list-at c = omega (arith, c.loop-m.invariant.1.few, c.loop-m.invariant.1.room)

pub bounds-list-at : goal.bounds-list-at
bounds-list-at c = omega (arith, c.loop-m.invariant.1.few, c.loop-m.invariant.1.room)

pub overflow_add-at : goal.overflow_add-at
overflow_add-at c = omega (arith, c.loop-m.invariant.1.few, c.loop-m.invariant.1.room)

pub loop-m-preserved : goal.loop-m-preserved
loop-m-preserved c =
    let l = c.loop-m in (
      omega arith,
      halves_new _ _ _ _ _ _ _ _ _ _ _ l.invariant.1 (rw c.if-w-m.false at c.number_at-a.ensures) (rw (c.if-w-m.false, c.requires.1) at c.number_at-b.ensures) c.midpoint_of-x.ensures
          c.if-a-eq0.false c.if-b-eq0.false c.loop-m-test.true,
      simp length-set l.invariant.2,
    )

pub shape_of-list : goal.shape_of-list
shape_of-list c = c.loop-m.invariant.2

pub returns : goal.returns
returns c =
    let l = c.loop-m in
    let e : l.m ≡ c.args.first.n = omega arith in
    rw e at l.invariant.1
