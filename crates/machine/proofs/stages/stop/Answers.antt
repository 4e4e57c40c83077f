-- `machine::stages::stop` meets its contract.
use mathlib.Core.Path.{refl, sym}
use Rattle.format.proofs.Laws.Texts.{refusal_length}
use Rattle.machine.specs.Machine.{stops}
use Rattle.machine.specs.Standing.{stage_by}
use Rattle.machine.proofs.stages.stop.Goals as goal

pub returns : goal.returns
unfolding stops stage_by
returns c = λ edges levels entries. record { stage = refl; many = sym (refusal_length c.args.refusal); text = c.put_refusal.ensures; inside = c.requires }
