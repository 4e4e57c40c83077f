-- Three ends, one a link, and past all of them.
use Rattle.rules.specs.Verdict.{room}
use Rattle.rules.specs.Outcomes.{stored_refusal}
use Rattle.rules.proofs.Laws.Links.{sizes_fit}
use Rattle.rules.proofs.Laws.Results.{handed_on}
use Rattle.refusals.proofs.Laws.Links.{link_good, chain_end, link_on, read_on, read_end}
use Rattle.refusals.proofs.chains.stored_chain.Goals as goal

pub returns-in_err-sizes : goal.returns-in_err-sizes
unfolding stored_refusal
returns-in_err-sizes c = λ entries answers. chain_end _ _ _ c.in_err-sizes.ensures (handed_on _ _ c.from_residual.ensures.1)

pub read_tokens-requires : goal.read_tokens-requires
read_tokens-requires c = (sizes_fit _ _ (link_good _ c.in_ok-sizes.ensures)).labels_fit

pub returns-in_err-read_tokens : goal.returns-in_err-read_tokens
unfolding stored_refusal
returns-in_err-read_tokens c = λ entries answers.
    link_on _ _ c.in_ok-sizes.ensures
    (read_end _ _ _ c.in_err-read_tokens.ensures (handed_on _ _ c.from_residual-in_err-read_tokens.ensures.1))

pub pairs-requires : goal.pairs-requires
pairs-requires c = (sizes_fit _ _ (link_good _ c.in_ok-sizes.ensures)).items_fit

pub returns-in_err-room : goal.returns-in_err-room
unfolding stored_refusal room
returns-in_err-room c = λ entries answers.
    link_on _ _ c.in_ok-sizes.ensures
    (read_on _ _ _ c.in_ok-read_tokens.ensures
    (chain_end _ _ _ (rw c.pairs.ensures.0 at c.in_err-room.ensures) (handed_on _ _ c.from_residual-in_err-room.ensures.1)))

pub pairs-requires-2 : goal.pairs-requires-2
pairs-requires-2 c = (sizes_fit _ _ (link_good _ c.in_ok-sizes.ensures)).items_fit

pub returns : goal.returns
unfolding stored_refusal room
returns c = λ entries answers.
    link_on _ _ c.in_ok-sizes.ensures
    (read_on _ _ _ c.in_ok-read_tokens.ensures
    (link_on _ _ (rw c.pairs.ensures.0 at c.in_ok-room.ensures) (rw c.pairs-2.ensures.0 at c.room-2.ensures)))
