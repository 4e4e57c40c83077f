-- `machine::stages::bad_frame` meets its contract.
use Rattle.machine.specs.Machine.{bad_frame}
use Rattle.machine.proofs.stages.bad_frame.Goals as goal

pub returns : goal.returns
unfolding bad_frame
returns c = c.stop.ensures
