-- A level fault is the verdict; right levels make the stored level k fit for the lists, which then decide (`lists_decide`).
use mathlib.Core.Path.{refl, ◌∙◌}
use Rattle.rules.proofs.Laws.Results.{handed_on}
use Rattle.top.proofs.Laws.Fronts.{frame_trans, past_frame}
use Rattle.checking.proofs.Laws.Checking.{told_good, few_labels, level_edges, level_labels, level_room, standing, lists_stored, levels_refused, lists_decide}
use Rattle.checking.proofs.check_tables.Goals as goal

pub check_levels-requires : goal.check_levels-requires
check_levels-requires c = let p = c.requires in (level_edges _ p, level_room _ p)

pub returns-in_err-check_levels : goal.returns-in_err-check_levels
returns-in_err-check_levels c =
    let p = c.requires in
    let fault = c.in_err-check_levels.ensures in
    (handed_on _ _ c.from_residual.ensures.1 ∙ levels_refused _ p _ _ (fault.verdict _ (few_labels _ p) (level_labels _ p)) refl, past_frame _ _ _ fault.past.size fault.past.rest)

pub top_of-table-requires : goal.top_of-table-requires
top_of-table-requires c = standing _ c.requires

pub check_lists-requires : goal.check_lists-requires
check_lists-requires c =
    let p = c.requires in
    let v = c.in_ok-check_levels.ensures in
    lists_stored _ p (told_good _ _ (v.verdict _ (few_labels _ p) (level_labels _ p)) refl) _ _ c.top_of-table.ensures v.past.size

pub returns : goal.returns
returns c =
    let p = c.requires in
    let levels = c.in_ok-check_levels.ensures in
    let l = c.check_lists.ensures in
    (lists_decide _ p _ _ (told_good _ _ (levels.verdict _ (few_labels _ p) (level_labels _ p)) refl) c.top_of-table.ensures l.0, frame_trans 0 _ _ _ _ (past_frame _ _ _ levels.past.size levels.past.rest) l.1)
