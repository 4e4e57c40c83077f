-- `machine::Run::stop` meets its contract.
use mathlib.Core.Path.{refl}
use Rattle.machine.proofs.Laws.Stages.{comes_by}
use Rattle.machine.proofs.Run.stop.Goals as goal

pub returns-clause-turn : goal.returns-clause-turn
returns-clause-turn c = comes_by _ _ (c.stop-moved.ensures _ _ _) refl refl refl
