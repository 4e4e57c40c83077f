-- 81, three counts of four digits and a line feed, stored one behind the other, are one run of stores.
use Rattle.format.proofs.Laws.Texts.{built_run}
use Rattle.format.proofs.texts.put_built.Goals as goal

pub returns : goal.returns
returns c = let n = c.args.counts in cc (built_run n.classes n.pairs n.entries c.args.out.now)
