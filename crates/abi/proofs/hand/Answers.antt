-- Field by field the same numbers.
use mathlib.Core.Path.{refl}
use Rattle.abi.specs.Handed.{handed}
use Rattle.abi.proofs.hand.Goals as goal

pub returns : goal.returns
unfolding handed
returns c = refl
