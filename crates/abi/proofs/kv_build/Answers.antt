-- What the entry promises, its answer as numbers.
use mathlib.Core.Path.{◌∙◌, ap}
use Rattle.rules.specs.Numbers.{of_built}
use Rattle.abi.specs.Handed.{handed}
use Rattle.abi.proofs.kv_build.Goals as goal

pub returns : goal.returns
returns c =
    let e = c.build-built.ensures in
    record {
      result = c.hand.ensures ∙ ap handed (c.report_built.ensures ∙ ap of_built e.result);
      levels = e.levels;
      starts = e.starts;
      order = e.order;
      entries = e.entries;
      area = e.area;
    }
