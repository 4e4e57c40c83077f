-- Condition A by its definition; it is the same for every graph.
use mathlib.Core.Path.{refl}
use Rattle.rules.specs.Levels.{same_ends}
use Rattle.twins.proofs.agree.same_ends.Goals as goal

pub returns : goal.returns
unfolding same_ends
returns c = λ g. refl
