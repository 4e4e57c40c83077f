-- The product by definition; at most 128 items have at most 16384 pairs (`square_le`).
use mathlib.Core.Path.{refl}
use native.Mathlib.Omega.{arith}
use Rattle.rules.proofs.Laws.Places.{square_le}
use Rattle.refusals.proofs.chains.pairs.Goals as goal

pub overflow_mul-result : goal.overflow_mul-result
overflow_mul-result c = omega (arith, square_le c.requires)

pub returns : goal.returns
returns c = (refl, square_le c.requires)
