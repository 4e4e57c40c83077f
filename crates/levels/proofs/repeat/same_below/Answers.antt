-- The library compares the numbers of the two levels, one by one.
use mathlib.Core.Path.{sym, ◌∙◌}
use Rattle.std.proofs.lemmas.Bool.Decides.{Decides-eqb}
use Rattle.std.proofs.lemmas.Slice.Eq.{slice_eq-Decides}
use Rattle.levels.proofs.Laws.Repeat.{lower_stands}
use Rattle.levels.proofs.repeat.same_below.Goals as goal

pub of-requires-2 : goal.of-requires-2
of-requires-2 c = lower_stands _ _ _ c.requires.0 c.requires.1

pub returns : goal.returns
returns c = λ e. sym c.of.ensures.1 ∙ (slice_eq-Decides Decides-eqb _ _ _ c.eq.ensures).0 e ∙ c.of-2.ensures.1
