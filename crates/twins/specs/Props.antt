-- A fact that a struct keeps has one proof at most.
use Rattle.std.specs.Prelude.{ℕ, List}
use Rattle.std.proofs.Props.{props}
use Rattle.rules.specs.Graph.{Graph}
use Rattle.rules.specs.Rule.{Rule}
use Rattle.rules.specs.Accept.{LevelAccepted, LevelsAccepted}
use Rattle.twins.specs.Standing.{Ready}

levels-prop : (ρ : Rule) (g : Graph) (k : ℕ) (T : ℕ → List ℕ) → IsProp (LevelsAccepted ρ g k T)
unfolding LevelsAccepted LevelAccepted
levels-prop ρ g k T = Prim.hlevel props

pub Ready-prop : (n i : ℕ) (levels area : List ℕ) → IsProp (Ready n i levels area)
Ready-prop n i levels area = Prim.hlevel (props, levels-prop)
