-- What the entry promises, its answer as numbers.
use mathlib.Core.Path.{◌∙◌, ap}
use Rattle.rules.specs.Numbers.{of_answered}
use Rattle.abi.specs.Handed.{handed}
use Rattle.abi.proofs.kv_stored.Goals as goal

pub returns : goal.returns
returns c =
    record {
      result = c.hand.ensures ∙ ap handed (c.report_answered.ensures ∙ ap of_answered c.stored-answered.ensures.result);
      answers = c.stored-answered.ensures.answers;
      area = c.stored-answered.ensures.area;
    }
