-- Six ends, one a link, and past all of them. At 12 the number that reading gave is the diameter of the query (`read_diameter`).
use mathlib.Core.Path.{◌≡◌, refl}
use borrow.Author.Tests.{lt-ltb, le-ltb}
use Rattle.rules.specs.declared.Refusal.TheVariants.{TooLong}
use Rattle.rules.specs.Query.{diameter}
use Rattle.rules.specs.Reading.{read_tokens}
use Rattle.rules.specs.Verdict.{good, room, when, query_of, within_diameter}
use Rattle.rules.specs.Outcomes.{class_refusal}
use Rattle.rules.proofs.Laws.Links.{sizes_fit}
use Rattle.rules.proofs.Laws.Results.{handed_on}
use Rattle.refusals.proofs.Laws.Links.{link_good, read_diameter, chain_on, chain_fault, chain_end, link_on, read_on, read_end}
use Rattle.refusals.proofs.chains.class_chain.Goals as goal

pub returns-in_err-sizes : goal.returns-in_err-sizes
unfolding class_refusal
returns-in_err-sizes c = λ entries answers. chain_end _ _ _ c.in_err-sizes.ensures (handed_on _ _ c.from_residual.ensures.1)

pub returns-in_err-level_count : goal.returns-in_err-level_count
unfolding class_refusal
returns-in_err-level_count c = λ entries answers.
    link_on _ _ c.in_ok-sizes.ensures
    (chain_end _ _ _ c.in_err-level_count.ensures (handed_on _ _ c.from_residual-in_err-level_count.ensures.1))

pub read_tokens-requires : goal.read_tokens-requires
read_tokens-requires c = (sizes_fit _ _ (link_good _ c.in_ok-sizes.ensures)).labels_fit

pub returns-in_err-diameter : goal.returns-in_err-diameter
unfolding class_refusal
returns-in_err-diameter c = λ entries answers.
    link_on _ _ c.in_ok-sizes.ensures
    (link_on _ _ c.in_ok-level_count.ensures
    (read_end _ _ _ c.in_err-diameter.ensures (handed_on _ _ c.from_residual-in_err-diameter.ensures.1)))

pub returns-then-k-diameter : goal.returns-then-k-diameter
unfolding class_refusal within_diameter when
returns-then-k-diameter c =
    let long : let a = c.args in c.in_ok-diameter.diameter ≡ diameter (query_of (read_tokens a.labels a.tokens.now)) = read_diameter _ _ c.in_ok-diameter.ensures in
    λ entries answers.
    link_on _ _ c.in_ok-sizes.ensures
    (link_on _ _ c.in_ok-level_count.ensures
    (read_on _ _ _ c.in_ok-diameter.ensures (chain_fault _ _ TooLong (rw (← long, lt-ltb _ _ c.if-k-diameter.true)) refl)))

pub pairs-requires : goal.pairs-requires
pairs-requires c = (sizes_fit _ _ (link_good _ c.in_ok-sizes.ensures)).items_fit

pub returns-in_err-room : goal.returns-in_err-room
unfolding class_refusal room within_diameter when
returns-in_err-room c =
    let long : let a = c.args in c.in_ok-diameter.diameter ≡ diameter (query_of (read_tokens a.labels a.tokens.now)) = read_diameter _ _ c.in_ok-diameter.ensures in
    let within : let a = c.args in within_diameter a.k (query_of (read_tokens a.labels a.tokens.now)) ≡ good = rw (← long, le-ltb _ _ c.if-k-diameter.false) in
    λ entries answers.
    link_on _ _ c.in_ok-sizes.ensures
    (link_on _ _ c.in_ok-level_count.ensures
    (read_on _ _ _ c.in_ok-diameter.ensures
    (chain_on _ _ within
    (chain_end _ _ _ (rw c.pairs.ensures.0 at c.in_err-room.ensures) (handed_on _ _ c.from_residual-in_err-room.ensures.1)))))

pub pairs-requires-2 : goal.pairs-requires-2
pairs-requires-2 c = (sizes_fit _ _ (link_good _ c.in_ok-sizes.ensures)).items_fit

pub returns : goal.returns
unfolding class_refusal room within_diameter when
returns c =
    let long : let a = c.args in c.in_ok-diameter.diameter ≡ diameter (query_of (read_tokens a.labels a.tokens.now)) = read_diameter _ _ c.in_ok-diameter.ensures in
    let within : let a = c.args in within_diameter a.k (query_of (read_tokens a.labels a.tokens.now)) ≡ good = rw (← long, le-ltb _ _ c.if-k-diameter.false) in
    λ entries answers.
    link_on _ _ c.in_ok-sizes.ensures
    (link_on _ _ c.in_ok-level_count.ensures
    (read_on _ _ _ c.in_ok-diameter.ensures
    (chain_on _ _ within
    (link_on _ _ (rw c.pairs.ensures.0 at c.in_ok-room.ensures) (rw c.pairs-2.ensures.0 at c.room-2.ensures)))))
