-- The library copies the part of the level below (`copy_done`).
use mathlib.Core.Path.{◌∙◌}
use Rattle.levels.proofs.Laws.Repeat.{copy_done}
use Rattle.levels.proofs.repeat.copy_below.Goals as goal

pub returns : goal.returns
returns c = c.copy_within.ensures.after ∙ copy_done _ _ _ c.requires.0 c.requires.1
