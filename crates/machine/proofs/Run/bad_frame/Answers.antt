-- `machine::Run::bad_frame` meets its contract.
use mathlib.Core.Path.{refl}
use Rattle.machine.proofs.Laws.Stages.{comes_by}
use Rattle.machine.proofs.Run.bad_frame.Goals as goal

pub returns-clause-turn : goal.returns-clause-turn
returns-clause-turn c = comes_by _ _ (c.bad_frame-moved.ensures _ _ _) refl refl refl
