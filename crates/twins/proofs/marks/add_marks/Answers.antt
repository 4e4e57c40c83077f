use Prim.Native.Nat.{◌+◌, ◌*◌, ◌<◌}
use mathlib.Core.Path.{refl, sym, ap, ◌∙◌}
use native.Mathlib.Omega.{arith}
use lib.ListN.{get_or}
use lib.Seq.{drop-set-lt}
use Rattle.rules.specs.Finite.{any_below}
use Rattle.rules.specs.Graph.{has_edge}
use Rattle.twins.specs.Marks.{bit_at}
use Rattle.rules.proofs.Laws.Places.{place_lt}
use Rattle.rules.proofs.Laws.Loops.{any_done}
use Rattle.rules.proofs.Laws.Bits.{bit_zero}
use Rattle.twins.proofs.Laws.Bits.{mark_more}
use Rattle.twins.proofs.marks.add_marks.Goals as goal

pub loop-e-init : goal.loop-e-init
unfolding any_below
loop-e-init c = record { rest = refl; bits = λ q l i j. ap (bit_at l) (c.requires.1.zero_at q i) ∙ bit_zero l }

pub one_bit-b-requires : goal.one_bit-b-requires
one_bit-b-requires c = c.requires.0.label c.loop-e.e c.loop-e-test.true

pub overflow_mul-p : goal.overflow_mul-p
overflow_mul-p c =
    let inside : get_or c.args.edges.now (3 * c.loop-e.e) 0 * c.args.n + get_or c.args.edges.now (3 * c.loop-e.e + 1) 0 < c.args.n * c.args.n = place_lt _ _ _ (c.requires.0.source c.loop-e.e c.loop-e-test.true) (c.requires.0.target c.loop-e.e c.loop-e-test.true) in
    omega (arith, inside)

pub overflow_add-p : goal.overflow_add-p
overflow_add-p c =
    let inside : get_or c.args.edges.now (3 * c.loop-e.e) 0 * c.args.n + get_or c.args.edges.now (3 * c.loop-e.e + 1) 0 < c.args.n * c.args.n = place_lt _ _ _ (c.requires.0.source c.loop-e.e c.loop-e-test.true) (c.requires.0.target c.loop-e.e c.loop-e-test.true) in
    omega (arith, inside)

pub bounds-area-p : goal.bounds-area-p
bounds-area-p c =
    let inside : get_or c.args.edges.now (3 * c.loop-e.e) 0 * c.args.n + get_or c.args.edges.now (3 * c.loop-e.e + 1) 0 < c.args.n * c.args.n = place_lt _ _ _ (c.requires.0.source c.loop-e.e c.loop-e-test.true) (c.requires.0.target c.loop-e.e c.loop-e-test.true) in
    omega (arith, inside, c.requires.1.room)

pub bounds-area-p-in-loop-e : goal.bounds-area-p-in-loop-e
bounds-area-p-in-loop-e c =
    let inside : get_or c.args.edges.now (3 * c.loop-e.e) 0 * c.args.n + get_or c.args.edges.now (3 * c.loop-e.e + 1) 0 < c.args.n * c.args.n = place_lt _ _ _ (c.requires.0.source c.loop-e.e c.loop-e-test.true) (c.requires.0.target c.loop-e.e c.loop-e-test.true) in
    omega (arith, inside, c.requires.1.room)

pub loop-e-preserved : goal.loop-e-preserved
loop-e-preserved c =
    let inside : get_or c.args.edges.now (3 * c.loop-e.e) 0 * c.args.n + get_or c.args.edges.now (3 * c.loop-e.e + 1) 0 < c.args.n * c.args.n = place_lt _ _ _ (c.requires.0.source c.loop-e.e c.loop-e-test.true) (c.requires.0.target c.loop-e.e c.loop-e-test.true) in
    record {
      rest = rw drop-set-lt c.loop-e.invariant.rest;
      bits = mark_more _ _ _ _ _ _ refl refl refl (c.requires.0.target _ c.loop-e-test.true) c.loop-e.area c.one_bit-b.result (c.requires.0.source _ c.loop-e-test.true)
          (c.requires.0.label _ c.loop-e-test.true) (omega arith) c.one_bit-b.ensures c.loop-e.invariant.bits;
    }

pub returns : goal.returns
unfolding has_edge
returns c =
    let l = c.loop-e in
    (record { bit_at_lem = λ q k i j. l.invariant.bits q k i j ∙ sym (any_done _ l.auto.e-end c.loop-e-test.false refl) }, l.invariant.rest)
