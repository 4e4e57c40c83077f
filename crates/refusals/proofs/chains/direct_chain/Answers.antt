-- Four ends, one a link, and past all of them.
use Rattle.rules.specs.Verdict.{room}
use Rattle.rules.specs.Outcomes.{direct_refusal}
use Rattle.rules.proofs.Laws.Links.{sizes_fit, edges_whole}
use Rattle.rules.proofs.Laws.Results.{handed_on}
use Rattle.refusals.proofs.Laws.Links.{link_good, chain_end, link_on, read_on, read_end}
use Rattle.refusals.proofs.chains.direct_chain.Goals as goal

pub returns-in_err-sizes : goal.returns-in_err-sizes
unfolding direct_refusal
returns-in_err-sizes c = λ answers. chain_end _ _ _ c.in_err-sizes.ensures (handed_on _ _ c.from_residual.ensures.1)

pub returns-in_err-edge_count : goal.returns-in_err-edge_count
unfolding direct_refusal
returns-in_err-edge_count c = λ answers.
    link_on _ _ c.in_ok-sizes.ensures (chain_end _ _ _ c.in_err-edge_count.ensures (handed_on _ _ c.from_residual-in_err-edge_count.ensures.1))

pub edges_fit-requires : goal.edges_fit-requires
edges_fit-requires c = (edges_whole _ (link_good _ c.in_ok-edge_count.ensures)).few_edges

pub returns-in_err-edges_fit : goal.returns-in_err-edges_fit
unfolding direct_refusal
returns-in_err-edges_fit c = λ answers.
    link_on _ _ c.in_ok-sizes.ensures
    (link_on _ _ c.in_ok-edge_count.ensures
    (chain_end _ _ _ c.in_err-edges_fit.ensures (handed_on _ _ c.from_residual-in_err-edges_fit.ensures.1)))

pub read_tokens-requires : goal.read_tokens-requires
read_tokens-requires c = (sizes_fit _ _ (link_good _ c.in_ok-sizes.ensures)).labels_fit

pub returns-in_err-read_tokens : goal.returns-in_err-read_tokens
unfolding direct_refusal
returns-in_err-read_tokens c = λ answers.
    link_on _ _ c.in_ok-sizes.ensures
    (link_on _ _ c.in_ok-edge_count.ensures
    (link_on _ _ c.in_ok-edges_fit.ensures
    (read_end _ _ _ c.in_err-read_tokens.ensures (handed_on _ _ c.from_residual-in_err-read_tokens.ensures.1))))

pub pairs-needed-requires : goal.pairs-needed-requires
pairs-needed-requires c = (sizes_fit _ _ (link_good _ c.in_ok-sizes.ensures)).items_fit

pub returns : goal.returns
unfolding direct_refusal room
returns c = λ answers.
    link_on _ _ c.in_ok-sizes.ensures
    (link_on _ _ c.in_ok-edge_count.ensures
    (link_on _ _ c.in_ok-edges_fit.ensures
    (read_on _ _ _ c.in_ok-read_tokens.ensures (rw c.pairs-needed.ensures.0 at c.room.ensures))))
