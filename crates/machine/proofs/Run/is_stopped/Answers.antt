-- `machine::Run::is_stopped` meets its contract.
use Rattle.machine.specs.Machine.{is_stopped}
use Rattle.machine.specs.Standing.{stage_by}
use Rattle.machine.proofs.Laws.Steps.{reads_on}
use Rattle.machine.proofs.Run.is_stopped.Goals as goal

pub returns-in-Stopped : goal.returns-in-Stopped
unfolding is_stopped stage_by
returns-in-Stopped c = rw c.in-Stopped.is

pub returns-in_default : goal.returns-in_default
returns-in_default c = reads_on _ _ _ _ c.in_default.not-Stopped
