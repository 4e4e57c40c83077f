-- The invariant: no edge passed is bad.
use Rattle.std.proofs.Common.{◌≡◌, false}
use Rattle.rules.specs.Finite.{any_below}
use Rattle.rules.specs.Verdict.{bad_edge}
use Rattle.refusals.proofs.links.edges_fit.Given as goal

abbrev pub invariant-loop-e : goal.invariant-loop-e
invariant-loop-e l = any_below l.e (bad_edge l.items l.labels l.edges) ≡ false
