-- The number stands at the place of the pair, by the definition.
use mathlib.Core.Path.{refl}
use Rattle.rules.specs.Levels.{number_at}
use Rattle.twins.proofs.level.Level.number_at.Goals as goal

pub returns : goal.returns
unfolding number_at
returns c = refl
