-- The numbers between two bounds in the list are its slice (`take_from`).
use Rattle.parts.proofs.Laws.Parts.{take_from}
use Rattle.parts.proofs.between.Goals as goal

pub returns : goal.returns
returns c = take_from _ _ _ c.requires.0
