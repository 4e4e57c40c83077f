-- That the numbers of an accepted level are in order.
use Prim.Native.Nat.{ℕ, ◌*◌}
use mathlib.Core.Path.{◌≡◌}
use mathlib.Core.List.{List}
use native.Mathlib.Omega.{arith}
use lib.ListN.{length}
use Rattle.rules.specs.Graph.{Graph}
use Rattle.rules.specs.Rule.{Rule}
use Rattle.rules.specs.Accept.{LevelAccepted}
use Rattle.rules.proofs.Laws.Accepted.{right_at}
use Rattle.sorting.specs.Sort.{Contiguous}

pub accepted_contiguous : (ρ : Rule) (g : Graph) (i : ℕ) (T : ℕ → List ℕ) → LevelAccepted ρ g i T → length (T i) ≡ g.items * g.items → Contiguous (T i)
accepted_contiguous ρ g i T ok size p h = (right_at ρ g i T ok p (omega (arith, h, size))).next
