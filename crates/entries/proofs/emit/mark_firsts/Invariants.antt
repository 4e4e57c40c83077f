-- The invariant: `most` is the largest of the first p numbers, and their bytes say which are first: those above all before them.
use mathlib.Core.Path.{◌≡◌}
use mathlib.Core.Bool.{cond}
use lib.ListN.{take}
use Rattle.relations.specs.Relations.{Run}
use Rattle.entries.specs.Entries.{is_first}
use Rattle.rules.specs.Levels.{max_of}
use Rattle.entries.proofs.emit.mark_firsts.Given as goal

abbrev pub invariant-loop-p : goal.invariant-loop-p
invariant-loop-p l = (l.most ≡ max_of (take l.p l.table)) × (Run l.at l.p (λ i. cond (is_first l.table i) 1 0) l.initial.area l.area)
