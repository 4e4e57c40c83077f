-- The invariant: the entries of the sequences of 1 to j symbols have gone by. The empty sequence is the identity, emitted before.
use Prim.Native.Nat.{ℕ, ◌+◌, ◌*◌, ◌≤◌}
use mathlib.Core.List.{List}
use Rattle.relations.specs.Relations.{Frame, Marked}
use Rattle.entries.specs.Lent.{Same}
use Rattle.entries.specs.Entries.{Went, Firsts}
use Rattle.rules.specs.Levels.{max_of}
use Rattle.rules.specs.Graph.{graph_of}
use Rattle.sorting.specs.Sort.{Contiguous}
use Rattle.lists.proofs.Laws.Lengths as listed
use Rattle.lists.proofs.listing.lengths.Given as goal

abbrev pub invariant-loop-j : goal.invariant-loop-j
invariant-loop-j l = (l.list.past.count ≤ l.initial.list.past.count + l.j * 1073741824) × (Frame (2 * (l.n * l.n)) (8 * (l.n * l.n)) l.initial.area l.area) × (Same l.initial.list l.list) × ((es : List ℕ) → Contiguous l.table → Firsts l.n l.table l.initial.area → Marked l.n es l.initial.area → Went l.initial.list.past.count l.initial.list.past.met l.list.past.count l.list.past.met (listed.longer (graph_of l.n l.labels es) l.table (max_of l.table) l.j) l.initial.list.stored.now l.initial.list.out.now l.list.out.now)
