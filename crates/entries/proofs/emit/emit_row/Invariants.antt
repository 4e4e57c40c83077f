-- Two ways. Where nothing is lent the count of hits is all. Else the invariant: the entries of the first 16·i places have gone by; sixteen places without the bit have none.
use Prim.Native.Nat.{ℕ, ◌+◌, ◌*◌, ◌≤◌}
use mathlib.Core.Bool.{Bool}
use Rattle.relations.specs.Relations.{Slot}
use Rattle.entries.specs.Lent.{Same}
use Rattle.entries.specs.Entries.{Went, Firsts, entries_row}
use Rattle.entries.proofs.emit.emit_row.Given as goal

abbrev pub invariant-loop-i : goal.invariant-loop-i
invariant-loop-i l = (l.list.past.count ≤ l.initial.list.past.count + 16 * l.i) × (Same l.initial.list l.list)
    × ((J : ℕ → ℕ → Bool) → Slot l.n l.from l.l l.area J → Firsts l.n l.table l.area → Went l.initial.list.past.count l.initial.list.past.met l.list.past.count l.list.past.met (entries_row l.n l.table J l.code l.v (16 * l.i)) l.initial.list.stored.now l.initial.list.out.now l.list.out.now)
