-- A level that repeats the two below is right (`level_repeats`); any other is searched.
use Rattle.levels.proofs.Laws.Repeat.{level_repeats}
use Rattle.levels.proofs.over.level_fault.Goals as goal

pub returns-then-repeats_on : goal.returns-then-repeats_on
returns-then-repeats_on c =
    let d = c.repeats_on.ensures c.if-repeats_on.true in
    level_repeats _ _ _ _ c.requires d.0 d.1
