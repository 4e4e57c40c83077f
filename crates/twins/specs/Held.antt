-- The midpoints of a position, kept beside it.
use Rattle.std.specs.Prelude.{ℕ, ◌/◌, ◌%◌, ◌≡◌, List, Some}
use Rattle.twins.specs.declared.kept.Kept.{Kept}
use Rattle.twins.specs.Halves.{Midpoints}

-- where a position is named, its midpoints stand at the front of the list, and so many
pub record Held (n i : ℕ) (levels : List ℕ) (kept : Kept) : Type 0 where
  pub listed : (q : ℕ) → kept.position ≡ Some q → Midpoints n i levels (q / n) (q % n) kept.many kept.list
