-- A link that refuses is the refusal of the call, nothing written; a good one is what `build_tables` asks, and its end is the call's.
use mathlib.Core.Path.{refl}
use Rattle.rules.proofs.Laws.Results.{handed_on}
use Rattle.refusals.proofs.Laws.Links.{link_good, link_refused}
use Rattle.building.proofs.Laws.Building.{builds_worked, builds_refused}
use Rattle.tables.proofs.build.Goals as goal

pub returns-in_err-build_order : goal.returns-in_err-build_order
returns-in_err-build_order c =
    rw (handed_on _ _ c.from_residual.ensures.1) (builds_refused _ _ (link_refused _ _ (c.in_err-build_order.ensures _)) _ refl)

pub build_tables-requires : goal.build_tables-requires
build_tables-requires c = link_good _ (c.in_ok-build_order.ensures _)

pub returns : goal.returns
returns c = builds_worked _ _ (link_good _ (c.in_ok-build_order.ensures _)) c.build_tables.ensures
