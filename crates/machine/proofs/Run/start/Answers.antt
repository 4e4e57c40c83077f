-- `machine::Run::start` meets its contract.
use mathlib.Core.Path.{refl}
use Rattle.machine.specs.Machine.{beginning}
use Rattle.machine.specs.Standing.{stage_by}
use Rattle.machine.proofs.Run.start.Goals as goal

pub returns : goal.returns
unfolding beginning stage_by
returns c = refl
