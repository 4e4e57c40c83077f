-- A link that refuses is the refusal of the call; else the verdict is `check_tables`'s, and the area that it worked in is cleared.
use mathlib.Core.Path.{◌≡◌, refl}
use native.Mathlib.Omega.{arith}
use Rattle.rules.specs.Verdict.{good}
use Rattle.rules.specs.Outcomes.{check_refusal, check_graph}
use Rattle.rules.proofs.Laws.Calls.{passed}
use Rattle.rules.specs.Calls.{check_call}
use Rattle.rules.proofs.Laws.Results.{handed_on}
use Rattle.refusals.proofs.Laws.Links.{link_good, link_refused}
use Rattle.rules.proofs.Laws.Places.{square_le}
use Rattle.checking.proofs.Laws.Checking.{few_items, checks_worked, checks_refused}
use Rattle.tables.proofs.check.Goals as goal

pub returns-in_err-check_order : goal.returns-in_err-check_order
returns-in_err-check_order c =
    rw (handed_on _ _ c.from_residual.ensures.1) (checks_refused _ _ (link_refused _ _ (c.in_err-check_order.ensures _ _ _)) _ refl)

pub check_tables-verdict-requires : goal.check_tables-verdict-requires
check_tables-verdict-requires c =
    let unrefused : let a = c.args in check_refusal (check_call a.items a.labels a.k a.edges.now a.levels.now a.starts.now a.order.now a.entries.now a.area.now) ≡ good = link_good _ (c.in_ok-check_order.ensures _ _ _) in
    unrefused

pub overflow_mul-n : goal.overflow_mul-n
overflow_mul-n c =
    let unrefused : let a = c.args in check_refusal (check_call a.items a.labels a.k a.edges.now a.levels.now a.starts.now a.order.now a.entries.now a.area.now) ≡ good = link_good _ (c.in_ok-check_order.ensures _ _ _) in
    omega (arith, square_le (few_items _ unrefused))

pub overflow_mul-n-2 : goal.overflow_mul-n-2
overflow_mul-n-2 c =
    let unrefused : let a = c.args in check_refusal (check_call a.items a.labels a.k a.edges.now a.levels.now a.starts.now a.order.now a.entries.now a.area.now) ≡ good = link_good _ (c.in_ok-check_order.ensures _ _ _) in
    omega (arith, square_le (few_items _ unrefused))

pub clear-requires : goal.clear-requires
clear-requires c =
    let unrefused : let a = c.args in check_refusal (check_call a.items a.labels a.k a.edges.now a.levels.now a.starts.now a.order.now a.entries.now a.area.now) ≡ good = link_good _ (c.in_ok-check_order.ensures _ _ _) in
    omega (arith, (passed _ unrefused).area, c.check_tables-verdict.ensures.1.size)

pub returns : goal.returns
unfolding check_graph
returns c =
    let unrefused : let a = c.args in check_refusal (check_call a.items a.labels a.k a.edges.now a.levels.now a.starts.now a.order.now a.entries.now a.area.now) ≡ good = link_good _ (c.in_ok-check_order.ensures _ _ _) in
    let t = c.check_tables-verdict.ensures in
    checks_worked _ _ _ _ unrefused t.0 t.1 c.clear.ensures
