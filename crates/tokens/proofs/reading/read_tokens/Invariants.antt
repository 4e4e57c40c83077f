-- The reading so far is kept by `Measuring`; the first token that may not stand ends it with its refusal.
use Prim.Native.Nat.{◌≤◌}
use Rattle.tokens.proofs.Laws.Diameters.{Measuring}
use Rattle.tokens.proofs.reading.read_tokens.Given as goal

abbrev pub invariant-loop-at : goal.invariant-loop-at
invariant-loop-at l = (l.depth ≤ 8) × Measuring l.labels l.tokens l.at l.depth l.diameters
