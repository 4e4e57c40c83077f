-- FF, number, value and line feed, stored one behind the other, are one run of stores.
use Rattle.format.proofs.Laws.Texts.{refusal_run}
use Rattle.format.proofs.texts.put_refusal.Goals as goal

pub returns : goal.returns
returns c = let a = c.args in cc (refusal_run a.out.now a.at a.refusal)
