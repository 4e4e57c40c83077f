-- What the entry promises, its answer as numbers.
use Rattle.std.proofs.Common.{Result}
use Rattle.rules.specs.declared.Part.{Part}
use Rattle.rules.specs.declared.Refusal.{Refusal}
use mathlib.Core.Path.{◌∙◌, ap}
use Rattle.rules.specs.Numbers.{of_bounds}
use Rattle.abi.specs.Handed.{handed, narrowed}
use Rattle.abi.proofs.kv_lookup.Goals as goal

pub returns : goal.returns
returns c = record { result = c.hand_bounds.ensures ∙ ap (λ (b : Result Part Refusal). handed (of_bounds (narrowed b))) c.lookup_bounds.ensures.bounds }
