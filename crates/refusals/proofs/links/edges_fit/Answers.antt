-- A bad edge that is met is the first, and refused; past the last there is none.
use Prim.Native.Nat.{◌/◌}
use mathlib.Core.Path.{◌≡◌, sym, ◌∙◌}
use native.Mathlib.Omega.{arith}
use lib.ListN.{length}
use borrow.Author.Tests.{lt-ltb, le-ltb}
use Rattle.rules.specs.Verdict.{when, bad_edge, first_bad, edges_fit}
use Rattle.rules.specs.Outcomes.{told}
use Rattle.rules.proofs.Laws.Finite.{first_none}
use Rattle.rules.proofs.Laws.Loops.{any_start, any_more, first_found}
use Rattle.refusals.proofs.links.edges_fit.Goals as goal

pub loop-e-init : goal.loop-e-init
loop-e-init c = any_start _

pub returns-then-is_bad : goal.returns-then-is_bad
unfolding told when bad_edge first_bad edges_fit
returns-then-is_bad c =
    let a = c.args in
    let first : c.loop-e.e ≡ first_bad a.items a.labels a.edges.now =
    first_found (bad_edge a.items a.labels a.edges.now) (length a.edges.now / 3) c.loop-e.e c.loop-e-test.true c.loop-e.invariant (sym c.is_bad.ensures ∙ c.if-is_bad.true) in
    rw (← first, lt-ltb _ _ c.loop-e-test.true)

pub loop-e-preserved : goal.loop-e-preserved
unfolding bad_edge
loop-e-preserved c =
    let a = c.args in
    any_more (bad_edge a.items a.labels a.edges.now) c.loop-e.e c.loop-e.invariant (sym c.is_bad.ensures ∙ c.if-is_bad.false)

pub returns : goal.returns
unfolding told when first_bad edges_fit
returns c =
    let a = c.args in
    let e : c.loop-e.e ≡ length a.edges.now / 3 = omega arith in
    let none : first_bad a.items a.labels a.edges.now ≡ length a.edges.now / 3 =
    first_none (length a.edges.now / 3) (bad_edge a.items a.labels a.edges.now) (rw e at c.loop-e.invariant) in
    rw (none, le-ltb (length a.edges.now / 3) (length a.edges.now / 3) (omega arith))
