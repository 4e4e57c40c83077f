use Rattle.std.proofs.Common.{refl, arith, length-set}
use Rattle.rules.proofs.Laws.Writing.{fill_none, fill_more}
use Rattle.format.specs.Frames.{token_at}
use Rattle.format.proofs.Laws.Frames.{count_small}
use Rattle.format.proofs.frames.put_tokens.Goals as goal

pub loop-i-init : goal.loop-i-init
loop-i-init c = (fill_none _ _ _, refl)

pub token_at-requires : goal.token_at-requires
token_at-requires c = omega (arith, count_small c.args.line.now c.requires.0, c.token_count-i-end.ensures)

pub loop-i-preserved : goal.loop-i-preserved
unfolding token_at
loop-i-preserved c =
    let a = c.args in
    let l = c.loop-i in
    (fill_more a.tokens.now 0 l.i (token_at a.line.now) l.tokens l.i _ l.invariant.0 (omega arith) (cc), simp length-set l.invariant.1)
