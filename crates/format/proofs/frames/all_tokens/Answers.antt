use Rattle.std.proofs.Common.{true, false, sym, ap, ◌∙◌, is_some, arith, rules}
use Rattle.rules.proofs.Laws.Loops.{all_start, all_more, all_done, all_not_at}
use Rattle.format.specs.Frames.{is_token, token_count}
use Rattle.format.proofs.Laws.Frames.{count_small, tokens_odd, tokens_even}
use Rattle.format.proofs.frames.all_tokens.Goals as goal

pub returns-then-line-ne0 : goal.returns-then-line-ne0
returns-then-line-ne0 c = tokens_odd c.args.line.now c.if-line-ne0.true

pub loop-i-init : goal.loop-i-init
loop-i-init c = all_start (is_token c.args.line.now)

pub token_at-requires : goal.token_at-requires
token_at-requires c = omega (arith, count_small c.args.line.now c.requires, c.token_count-i-end.ensures)

pub returns-then-is_none : goal.returns-then-is_none
unfolding is_token
returns-then-is_none c =
    let line = c.args.line.now in
    tokens_even line false c.if-line-ne0.false
    (all_not_at (is_token line) (token_count line) c.loop-i.i (omega (arith, c.token_count-i-end.ensures)) (ap is_some (sym c.token_at.ensures) ∙ c.if-is_none.ensures))

pub loop-i-preserved : goal.loop-i-preserved
unfolding is_token
loop-i-preserved c = let line = c.args.line.now in all_more (is_token line) c.loop-i.i c.loop-i.invariant (search rules)

pub returns : goal.returns
returns c =
    let line = c.args.line.now in
    tokens_even line true c.if-line-ne0.false
    (all_done (is_token line) {i = c.loop-i.i} (omega (arith, c.token_count-i-end.ensures)) (omega (arith, c.token_count-i-end.ensures)) c.loop-i.invariant)
