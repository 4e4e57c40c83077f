-- The pair's position is below n·n (`place_lt`), so the read is in the area; a byte is below 256.
use mathlib.Core.Path.{refl}
use native.Mathlib.Omega.{arith}
use Rattle.rules.proofs.Laws.Places.{place_lt}
use Rattle.twins.proofs.steps.Steps.mark_at.Goals as goal

pub overflow_mul-result : goal.overflow_mul-result
overflow_mul-result c = omega (arith, place_lt _ _ _ c.requires.first c.requires.second)

pub overflow_add-result : goal.overflow_add-result
overflow_add-result c = omega (arith, place_lt _ _ _ c.requires.first c.requires.second)

pub returns : goal.returns
returns c = (refl, c.args.self.bytes _)
