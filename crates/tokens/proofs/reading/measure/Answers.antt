-- Each token leaves the diameters that `measured` says; a join's sum is at most 64.
use Prim.Native.Nat.{◌<◌}
use native.Mathlib.Omega.{arith}
use Rattle.tokens.proofs.Laws.Waiting.{room_identity, room_step, two_join, two_conjunction}
use Rattle.tokens.specs.Waiting.{measured}
use Rattle.tokens.proofs.reading.measure.Goals as goal

pub bounds-diameters-depth : goal.bounds-diameters-depth
bounds-diameters-depth c = omega (arith, room_identity _ _ c.in-Identity.is c.requires.stands)

pub bounds-diameters-depth-in-Step : goal.bounds-diameters-depth-in-Step
bounds-diameters-depth-in-Step c = omega (arith, room_step _ _ _ c.in-Step.is c.requires.stands)

pub overflow_sub-diameters : goal.overflow_sub-diameters
overflow_sub-diameters c =
    let two : 1 < c.args.depth = two_join _ _ c.in-Join.is c.requires.stands in
    omega (arith, two)

pub overflow_sub-diameters-in-Join : goal.overflow_sub-diameters-in-Join
overflow_sub-diameters-in-Join c =
    let two : 1 < c.args.depth = two_join _ _ c.in-Join.is c.requires.stands in
    omega (arith, two)

pub overflow_add-diameters : goal.overflow_add-diameters
overflow_add-diameters c =
    let two : 1 < c.args.depth = two_join _ _ c.in-Join.is c.requires.stands in
    let s = c.requires in omega (arith, s.sum two)

pub overflow_sub-diameters-in-Join-2 : goal.overflow_sub-diameters-in-Join-2
overflow_sub-diameters-in-Join-2 c =
    let two : 1 < c.args.depth = two_join _ _ c.in-Join.is c.requires.stands in
    omega (arith, two)

pub overflow_sub-depth : goal.overflow_sub-depth
overflow_sub-depth c =
    let two-both : 1 < c.args.depth = two_conjunction _ _ c.in-Conjunction.is c.requires.stands in
    omega (arith, two-both)

pub overflow_sub-depth-in-Conjunction : goal.overflow_sub-depth-in-Conjunction
overflow_sub-depth-in-Conjunction c =
    let two-both : 1 < c.args.depth = two_conjunction _ _ c.in-Conjunction.is c.requires.stands in
    omega (arith, two-both)

pub overflow_sub-diameters-in-Conjunction : goal.overflow_sub-diameters-in-Conjunction
overflow_sub-diameters-in-Conjunction c =
    let two-both : 1 < c.args.depth = two_conjunction _ _ c.in-Conjunction.is c.requires.stands in
    omega (arith, two-both)

pub returns-in-Identity : goal.returns-in-Identity
unfolding measured
returns-in-Identity c = rw c.in-Identity.is

pub returns-in-Step : goal.returns-in-Step
unfolding measured
returns-in-Step c = rw c.in-Step.is

pub returns-in-Join : goal.returns-in-Join
unfolding measured
returns-in-Join c = rw c.in-Join.is

pub returns-in-Conjunction : goal.returns-in-Conjunction
unfolding measured
returns-in-Conjunction c = rw (c.in-Conjunction.is, c.max.ensures)

pub returns-in-Unknown : goal.returns-in-Unknown
unfolding measured
returns-in-Unknown c = rw c.in-Unknown.is
