-- The invariant: the entries of the places up to u have gone by, behind those before. A missing bit and a later position add none.
use Prim.Native.Nat.{ℕ, ◌+◌, ◌-◌, ◌≤◌}
use mathlib.Core.Bool.{Bool}
use mathlib.Core.List.{List}
use Rattle.relations.specs.Relations.{Slot}
use Rattle.entries.specs.Lent.{Same}
use Rattle.entries.specs.Entries.{Went, Firsts, entries_row}
use Rattle.entries.proofs.emit.put_places.Given as goal

abbrev pub invariant-loop-u : goal.invariant-loop-u
invariant-loop-u l = (l.list.past.count ≤ l.initial.list.past.count + (l.u - l.start)) × (Same l.initial.list l.list)
    × ((J : ℕ → ℕ → Bool) (at met : ℕ) (old : List ℕ) → Slot l.n l.from l.l l.area J → Firsts l.n l.table l.area → Went at met l.initial.list.past.count l.initial.list.past.met (entries_row l.n l.table J l.code l.v l.start) l.initial.list.stored.now old l.initial.list.out.now
    → Went at met l.list.past.count l.list.past.met (entries_row l.n l.table J l.code l.v l.u) l.initial.list.stored.now old l.list.out.now)
