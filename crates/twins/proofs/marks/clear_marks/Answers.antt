-- The library's fill writes the zeros that a loop would, one after the other (`zeros_front`).
use Rattle.twins.proofs.Laws.Areas.{zeros_front}
use Rattle.twins.proofs.marks.clear_marks.Goals as goal

pub returns : goal.returns
returns c = zeros_front _ _ _ c.requires.room (c.fill.ensures.after (λ y e. e))
