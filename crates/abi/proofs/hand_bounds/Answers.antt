-- The number and values of each case.
use Rattle.std.proofs.Common.{Result}
use Rattle.rules.specs.declared.Part.{Part}
use Rattle.rules.specs.declared.Refusal.{Refusal}
use mathlib.Core.Path.{sym, ap, ◌∙◌}
use Rattle.rules.specs.Numbers.{of_bounds}
use Rattle.abi.specs.Handed.{handed, narrowed}
use Rattle.abi.proofs.hand_bounds.Goals as goal

pub returns-in-Ok : goal.returns-in-Ok
unfolding handed narrowed of_bounds
returns-in-Ok c = rw (c.narrow.ensures, c.narrow-in-Ok.ensures) (sym (ap (λ (b : Result Part Refusal). handed (of_bounds (narrowed b))) c.in-Ok.is))

pub returns-in-Err : goal.returns-in-Err
unfolding narrowed of_bounds
returns-in-Err c = c.hand.ensures ∙ ap handed c.report_refusal.ensures ∙ sym (ap (λ (b : Result Part Refusal). handed (of_bounds (narrowed b))) c.in-Err.is)
