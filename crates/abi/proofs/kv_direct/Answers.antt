-- What the entry promises, its answer as numbers.
use mathlib.Core.Path.{◌∙◌, ap}
use Rattle.rules.specs.Numbers.{of_answered}
use Rattle.abi.specs.Handed.{handed}
use Rattle.abi.proofs.kv_direct.Goals as goal

pub returns : goal.returns
returns c =
    record {
      result = c.hand.ensures ∙ ap handed (c.report_answered.ensures ∙ ap of_answered c.direct-answered.ensures.result);
      answers = c.direct-answered.ensures.answers;
      area = c.direct-answered.ensures.area;
    }
