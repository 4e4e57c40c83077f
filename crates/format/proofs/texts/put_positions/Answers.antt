use Rattle.std.proofs.Common.{refl, ◌∙◌, arith}
use Rattle.format.proofs.Laws.Texts.{positions_none, positions_more}
use Rattle.format.proofs.texts.put_positions.Goals as goal

pub loop-i-init : goal.loop-i-init
loop-i-init c = let a = c.args in (positions_none a.out.now a.list.now a.at, refl)

pub loop-i-preserved : goal.loop-i-preserved
loop-i-preserved c =
    let a = c.args in
    let l = c.loop-i in
    (c.put_digits.ensures ∙ positions_more a.out.now l.out a.list.now a.at l.i (omega arith) l.invariant.0, c.put_digits.auto.out ∙ l.invariant.1)
