-- The invariant: `some` counts the hits among the first u places and is at most u, so that it fits a byte.
use Prim.Native.Nat.{◌≤◌}
use mathlib.Core.Path.{◌≡◌}
use Rattle.rules.specs.Finite.{count_below}
use Rattle.entries.specs.Entries.{is_hit}
use Rattle.entries.proofs.emit.count_row.Given as goal

abbrev pub invariant-loop-u : goal.invariant-loop-u
invariant-loop-u l = (l.some ≡ count_below l.u (is_hit l.area l.from l.firsts l.l)) × (l.some ≤ l.u)
