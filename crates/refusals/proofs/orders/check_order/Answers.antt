-- Five ends, one a link: those before it were good (`link_on`), and its own refusal ends the chain (`chain_end`). And past all of them.
use native.Mathlib.Nat.{mul-le-mul}
use native.Mathlib.Omega.{arith}
use Rattle.rules.specs.Verdict.{room}
use Rattle.rules.specs.Outcomes.{check_refusal}
use Rattle.rules.proofs.Laws.Links.{sizes_fit, levels_fit, edges_whole}
use Rattle.rules.proofs.Laws.Results.{handed_on}
use Rattle.refusals.proofs.Laws.Links.{link_good, chain_end, link_on}
use Rattle.refusals.proofs.orders.check_order.Goals as goal

pub returns-in_err-sizes : goal.returns-in_err-sizes
unfolding check_refusal
returns-in_err-sizes c = λ starts order entries. chain_end _ _ _ c.in_err-sizes.ensures (handed_on _ _ c.from_residual.ensures.1)

pub returns-in_err-level_count : goal.returns-in_err-level_count
unfolding check_refusal
returns-in_err-level_count c = λ starts order entries.
    link_on _ _ c.in_ok-sizes.ensures (chain_end _ _ _ c.in_err-level_count.ensures (handed_on _ _ c.from_residual-in_err-level_count.ensures.1))

pub returns-in_err-edge_count : goal.returns-in_err-edge_count
unfolding check_refusal
returns-in_err-edge_count c = λ starts order entries.
    link_on _ _ c.in_ok-sizes.ensures
    (link_on _ _ c.in_ok-level_count.ensures
    (chain_end _ _ _ c.in_err-edge_count.ensures (handed_on _ _ c.from_residual-in_err-edge_count.ensures.1)))

pub edges_fit-requires : goal.edges_fit-requires
edges_fit-requires c = (edges_whole _ (link_good _ c.in_ok-edge_count.ensures)).few_edges

pub returns-in_err-edges_fit : goal.returns-in_err-edges_fit
unfolding check_refusal
returns-in_err-edges_fit c = λ starts order entries.
    link_on _ _ c.in_ok-sizes.ensures
    (link_on _ _ c.in_ok-level_count.ensures
    (link_on _ _ c.in_ok-edge_count.ensures
    (chain_end _ _ _ c.in_err-edges_fit.ensures (handed_on _ _ c.from_residual-in_err-edges_fit.ensures.1))))

pub pairs-requires : goal.pairs-requires
pairs-requires c = (sizes_fit _ _ (link_good _ c.in_ok-sizes.ensures)).items_fit

pub returns-in_err-room : goal.returns-in_err-room
unfolding check_refusal room
returns-in_err-room c = λ starts order entries.
    link_on _ _ c.in_ok-sizes.ensures
    (link_on _ _ c.in_ok-level_count.ensures
    (link_on _ _ c.in_ok-edge_count.ensures
    (link_on _ _ c.in_ok-edges_fit.ensures
    (chain_end _ _ _ (rw c.pairs.ensures.0 at c.in_err-room.ensures) (handed_on _ _ c.from_residual-in_err-room.ensures.1)))))

pub pairs-requires-2 : goal.pairs-requires-2
pairs-requires-2 c = (sizes_fit _ _ (link_good _ c.in_ok-sizes.ensures)).items_fit

pub overflow_mul-k : goal.overflow_mul-k
overflow_mul-k c =
    omega
    (arith, mul-le-mul {n₁ = c.args.k} {m₁ = c.pairs-2.result} {n₂ = 4} {m₂ = 16384} (levels_fit _ (link_good _ c.in_ok-level_count.ensures)).few_levels c.pairs-2.ensures.1)

pub returns : goal.returns
unfolding check_refusal room
returns c = λ starts order entries.
    link_on _ _ c.in_ok-sizes.ensures
    (link_on _ _ c.in_ok-level_count.ensures
    (link_on _ _ c.in_ok-edge_count.ensures
    (link_on _ _ c.in_ok-edges_fit.ensures
    (link_on _ _ (rw c.pairs.ensures.0 at c.in_ok-room.ensures) (rw c.pairs-2.ensures.0 at c.room-2.ensures)))))
