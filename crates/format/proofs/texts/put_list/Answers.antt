-- 83, the count, the positions and a line feed, stored one behind the other, are one run of stores.
use Rattle.format.proofs.Laws.Texts.{list_run}
use Rattle.format.proofs.texts.put_list.Goals as goal

pub returns : goal.returns
returns c = let a = c.args in cc (list_run a.out.now a.list.now a.at a.many c.requires.1)
