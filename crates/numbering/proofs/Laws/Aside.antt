-- What is laid out at the end of the area leaves the marks, and so what is ready, numbered or faulty.
use Prim.Native.Nat.{ℕ, ◌*◌}
use mathlib.Core.Path.{◌≡◌, sym, ap, ◌∙◌}
use mathlib.Core.List.{List}
use native.Mathlib.Omega.{arith}
use lib.ListN.{take}
use lib.Seq.{take-take}
use Rattle.twins.specs.Standing.{Ready, Kept}
use Rattle.std.specs.Prelude.{Option}
use Rattle.numbering.proofs.Laws.Turn.{fault_kept}
use Rattle.numbering.specs.Needs.{Numbered, Faulty}
use Rattle.twins.specs.Skips.{Aside}
use Rattle.twins.proofs.Laws.Areas.{ready_area, placed_kept}

module _ (n : ℕ) (w w' : List ℕ) (a : Aside n w w') where
  aside_marks : take (n * n) w' ≡ take (n * n) w
  aside_marks =
      sym (take-take (n * n) (8 * (n * n)) w' (omega arith)) ∙ ap (take (n * n)) a.front ∙ take-take (n * n) (8 * (n * n)) w (omega arith)

  kept_aside : (v : List ℕ) → Kept n w' v → Kept n w v
  kept_aside v k = record { marks = k.marks ∙ aside_marks; rest = k.rest ∙ a.rest; size = k.size ∙ a.size }

  pub ready_aside : (i : ℕ) (l : List ℕ) → Ready n i l w → Ready n i l w'
  ready_aside i l r = ready_area n i l w w' r aside_marks a.size

  pub numbered_aside : (i : ℕ) (l : List ℕ) (r : ℕ) (l' v : List ℕ) → Numbered n i l w' r l' v → Numbered n i l w r l' v
  numbered_aside i l r l' v d = record { placed = placed_kept n i l w w' r l' aside_marks d.placed; kept = kept_aside v d.kept }

  pub faulty_aside : (i : ℕ) (l : List ℕ) (r : Option ℕ) (v : List ℕ) → Faulty n i l w' r v → Faulty n i l w r v
  faulty_aside i l r v d = record { fault = fault_kept n i l w w' aside_marks d.fault; kept = kept_aside v d.kept }
