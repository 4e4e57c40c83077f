-- What is laid out, the bytes of connected pairs and empty chains are what numbering needs (`level_ready`); none changes the marks (`level_numbered`).
use Rattle.numbering.proofs.Laws.Turn.{level_ready, level_numbered}
use Rattle.numbering.proofs.Laws.Aside.{ready_aside, numbered_aside}
use Rattle.numbering.proofs.number.number_level.Goals as goal

pub mark_near-requires : goal.mark_near-requires
mark_near-requires c = ready_aside _ _ _ c.lay_out.ensures.1 _ _ c.requires

pub number_positions-requires : goal.number_positions-requires
number_positions-requires c = level_ready _ _ _ _ _ _ (ready_aside _ _ _ c.lay_out.ensures.1 _ _ c.requires) c.mark_near.ensures c.clear_heads.ensures c.lay_out.ensures.0

pub returns : goal.returns
returns c =
    numbered_aside _ _ _ c.lay_out.ensures.1 _ _ _ _ _
    (level_numbered _ _ _ _ _ _ (ready_aside _ _ _ c.lay_out.ensures.1 _ _ c.requires) c.mark_near.ensures c.clear_heads.ensures _ _ _ c.number_positions.ensures)
