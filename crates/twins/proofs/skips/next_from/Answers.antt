-- The place is in the area (`place_lt`).
use Prim.Native.Nat.{◌+◌, ◌*◌}
use native.Mathlib.Omega.{arith}
use Rattle.rules.proofs.Laws.Places.{place_lt}
use Rattle.twins.proofs.skips.next_from.Goals as goal

pub overflow_mul-result-3 : goal.overflow_mul-result-3
overflow_mul-result-3 c = omega (arith, place_lt _ _ _ c.requires.1.first c.requires.1.second)

pub overflow_add-result : goal.overflow_add-result
overflow_add-result c = omega (arith, place_lt _ _ _ c.requires.1.first c.requires.1.second)

pub overflow_add-result-2 : goal.overflow_add-result-2
overflow_add-result-2 c = omega (arith, place_lt _ _ _ c.requires.1.first c.requires.1.second)

pub bounds-area-n : goal.bounds-area-n
bounds-area-n c = omega (arith, place_lt _ _ _ c.requires.1.first c.requires.1.second)

pub overflow_cast-result : goal.overflow_cast-result
overflow_cast-result c = omega (arith, c.type_inv.area (8 * (c.args.n * c.args.n) + (c.args.v * c.args.n + c.args.m)))
