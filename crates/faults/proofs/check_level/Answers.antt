-- What is laid out and the bytes of connected pairs leave the marks alone, so the first fault found over them is that of the area at entry.
use Rattle.twins.proofs.Laws.Areas.{near_ready}
use Rattle.numbering.proofs.Laws.Turn.{laid_near, level_faulty}
use Rattle.numbering.proofs.Laws.Aside.{ready_aside, faulty_aside}
use Rattle.faults.proofs.check_level.Goals as goal

pub mark_near-requires : goal.mark_near-requires
mark_near-requires c = ready_aside _ _ _ c.lay_out.ensures.1 _ _ c.requires

pub check_positions-requires : goal.check_positions-requires
check_positions-requires c =
    let r = near_ready _ _ _ _ _ (ready_aside _ _ _ c.lay_out.ensures.1 _ _ c.requires) c.mark_near.ensures in
    (r.0, r.1, laid_near _ _ _ _ _ c.mark_near.ensures c.lay_out.ensures.0)

pub returns : goal.returns
returns c =
    faulty_aside _ _ _ c.lay_out.ensures.1 _ _ _ _
    (level_faulty _ _ _ _ _ _ _ (ready_aside _ _ _ c.lay_out.ensures.1 _ _ c.requires) c.mark_near.ensures c.check_positions.ensures)
