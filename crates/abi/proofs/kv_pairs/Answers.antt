-- What the entry promises; its bounds are numbers of the starts list, and so are not changed by narrowing.
use Rattle.std.proofs.Common.{Result}
use Rattle.rules.specs.declared.Part.{Part}
use Rattle.rules.specs.declared.Refusal.{Refusal}
use mathlib.Core.Path.{◌∙◌, ap}
use Rattle.rules.specs.Numbers.{of_bounds}
use Rattle.abi.specs.Handed.{handed, narrowed}
use Rattle.abi.proofs.Laws.Narrowing.{class_narrowed}
use Rattle.abi.proofs.kv_pairs.Goals as goal

pub returns : goal.returns
returns c =
    let known = c.type_inv.starts in
    record {
      result =
          c.hand_bounds.ensures
          ∙ ap (λ (b : Result Part Refusal). handed (of_bounds (narrowed b))) c.class_bounds.ensures.bounds
          ∙ ap (λ (b : Result Part Refusal). handed (of_bounds b)) (class_narrowed _ c.args.starts.now _ (λ i. (known i).fits));
    }
