-- `machine::Run::on_sizes` meets its contract.
use mathlib.Core.Path.{refl}
use Rattle.machine.proofs.Laws.Stages.{comes_by}
use Rattle.machine.proofs.Run.on_sizes.Goals as goal

pub returns-clause-turn : goal.returns-clause-turn
returns-clause-turn c = comes_by _ _ (c.on_sizes-moved.ensures _ _ _) refl refl refl
