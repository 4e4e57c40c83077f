-- What is asked of the edge table below, from what links 1 to 4 leave.
use Prim.Native.Nat.{ℕ, ◌≤◌}
use mathlib.Core.List.{List}
use native.Mathlib.Omega.{arith}
use Rattle.rules.proofs.Laws.Links.{EdgesIn}
use Rattle.twins.specs.Standing.{EdgesFit}
use Rattle.relations.specs.Relations.{EdgesIn as Inside}

module _ (n labels : ℕ) (edges : List ℕ) (fit : EdgesIn n labels edges) where
  pub edges_fit : (m : ℕ) → labels ≤ m → EdgesFit n m edges
  edges_fit m h = record { source = fit.source; target = fit.target; label = λ e l. omega (arith, fit.label e l) }

  pub edges_inside : labels ≤ 8 → Inside edges n
  edges_inside h e l = (fit.source e l, fit.target e l, omega (arith, fit.label e l))
