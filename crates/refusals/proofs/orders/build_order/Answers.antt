-- Two ends, check's refusals and room for order, and room for starts last. Build's order is check's with these two behind it.
use Prim.Native.Nat.{◌*◌}
use mathlib.Core.Path.{◌≡◌}
use mathlib.Core.List.{[]}
use Rattle.rules.specs.Verdict.{good, room}
use Rattle.rules.proofs.Laws.Calls.{passed}
use Rattle.rules.proofs.Laws.Results.{handed_on}
use Rattle.refusals.proofs.Laws.Links.{link_good}
use Rattle.refusals.proofs.Laws.Orders.{order_end, order_short, order_last}
use Rattle.refusals.proofs.orders.build_order.Goals as goal

pub returns-in_err-check_order : goal.returns-in_err-check_order
returns-in_err-check_order c = λ entries. order_end _ _ _ (c.in_err-check_order.ensures _ _ _) (handed_on _ _ c.from_residual.ensures.1)

pub pairs-requires : goal.pairs-requires
pairs-requires c = (passed _ (link_good _ (c.in_ok-check_order.ensures [] [] []))).sizes_fit.items_fit

pub returns-in_err-room : goal.returns-in_err-room
returns-in_err-room c = λ entries.
    order_short _ (link_good _ (c.in_ok-check_order.ensures _ _ entries)) _ _ _ c.pairs.ensures.0 c.in_err-room.ensures (handed_on _ _ c.from_residual-in_err-room.ensures.1)

pub pairs-requires-2 : goal.pairs-requires-2
pairs-requires-2 c = (passed _ (link_good _ (c.in_ok-check_order.ensures [] [] []))).sizes_fit.items_fit

pub returns : goal.returns
unfolding room
returns c =
    let roomy : let a = c.args in room a.order.now (a.items * a.items) ≡ good = link_good _ (rw c.pairs.ensures.0 at c.in_ok-room.ensures) in
    λ entries. order_last _ (link_good _ (c.in_ok-check_order.ensures _ _ entries)) _ _ c.pairs-2.ensures.0 roomy c.room-2.ensures
