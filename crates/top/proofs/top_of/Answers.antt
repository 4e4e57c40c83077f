-- Level k among the levels.
use Rattle.top.proofs.top_of.Goals as goal

pub of-requires : goal.of-requires
of-requires c = record { some = c.requires.some_level; room = c.requires.room }

pub returns : goal.returns
returns c = c.of.ensures.1
