-- Above two equal levels the level below is the numbering of this one, too (`copied`); else it is numbered.
use native.Mathlib.Omega.{arith}
use Rattle.levels.proofs.Laws.Repeat.{copied}
use Rattle.levels.proofs.over.next_level.Goals as goal

pub copy_below-requires : goal.copy_below-requires
copy_below-requires c =
    let p = c.requires in
    (record { some = p.0.some; room = p.0.room }, omega (arith, (c.repeats.ensures c.if-repeats.true).deep))

pub returns-then-repeats : goal.returns-then-repeats
returns-then-repeats c =
    let p = c.requires in
    copied _ _ _ _ _ _ p.0 (c.repeats.ensures c.if-repeats.true) p.1 c.copy_below.ensures
