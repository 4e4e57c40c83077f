-- The part from (i-1)·n·n to i·n·n lies among the levels and is level i by definition (`level_part`).
use mathlib.Core.Path.{refl}
use Rattle.twins.proofs.Laws.Tables.{level_part}
use Rattle.twins.proofs.level.Level.of.Goals as goal

pub returns : goal.returns
returns c = (refl, level_part _ _ _)
