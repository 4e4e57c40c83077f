-- The two cases of bounds: a part, which lies in the list, or a refusal and nothing.
use Rattle.parts.proofs.Laws.Parts.{part_numbers, part_none}
use Rattle.parts.proofs.part_of.Goals as goal

pub between-requires : goal.between-requires
between-requires c = c.requires.within _ _ c.in-Ok.is

pub returns-in-Ok : goal.returns-in-Ok
returns-in-Ok c = part_numbers _ _ _ _ _ c.in-Ok.is c.between.ensures

pub returns-in-Err : goal.returns-in-Err
returns-in-Err c = part_none _ _ _ c.in-Err.is
