-- What the entry promises, its answer as numbers.
use mathlib.Core.Path.{◌∙◌, ap}
use Rattle.rules.specs.Numbers.{of_checked}
use Rattle.abi.specs.Handed.{handed}
use Rattle.abi.proofs.kv_check.Goals as goal

pub returns : goal.returns
returns c =
    record {
      result = c.hand.ensures ∙ ap handed (c.report_checked.ensures ∙ ap of_checked c.check-checked.ensures.result);
      area = c.check-checked.ensures.area;
    }
