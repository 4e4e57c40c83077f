-- The invariant: the entries of the first v rows have gone by, at most n a row. A row without bit l has none.
use Prim.Native.Nat.{ℕ, ◌+◌, ◌*◌, ◌≤◌}
use mathlib.Core.Bool.{Bool}
use Rattle.relations.specs.Relations.{Slot}
use Rattle.entries.specs.Lent.{Same}
use Rattle.entries.specs.Entries.{Went, Firsts, entries_rows}
use Rattle.entries.proofs.emit.emit.Given as goal

abbrev pub invariant-loop-v : goal.invariant-loop-v
invariant-loop-v l = (l.list.past.count ≤ l.initial.list.past.count + l.v * l.n) × (Same l.initial.list l.list) × ((J : ℕ → ℕ → Bool) → Slot l.n l.from l.l l.area J → Firsts l.n l.table l.area → Went l.initial.list.past.count l.initial.list.past.met l.list.past.count l.list.past.met (entries_rows l.n l.table J l.code l.v) l.initial.list.stored.now l.initial.list.out.now l.list.out.now)
