-- `machine::stages::on_sizes` meets its contract.
use Prim.Native.Nat.{◌≤◌}
use mathlib.Core.Path.{refl}
use native.Mathlib.Omega.{arith}
use borrow.Author.Tests.{le-leb}
use Rattle.machine.specs.Machine.{on_sizes, silent}
use Rattle.machine.specs.Standing.{stage_by}
use Rattle.machine.proofs.Laws.Stages.{moved_as, sizes_bad}
use Rattle.machine.proofs.stages.on_sizes.Goals.{in_default-via-in-Opening+else-sizes-le-MOST_ITEMS, in_default-via-in_default}
use Rattle.machine.proofs.stages.on_sizes.Goals as goal

pub returns-in-Opening : goal.returns-in-Opening
unfolding on_sizes silent stage_by
returns-in-Opening c =
    λ edges levels entries.
    let few : c.args.sizes.items ≤ 32 = omega (arith, c.if-sizes-le-MOST_ITEMS.true) in
    rw (c.in-Opening.is, le-leb c.args.sizes.items 32 few) (record { stage = refl; many = refl; text = refl; inside = omega arith })

pub returns-in_default : goal.returns-in_default
returns-in_default c =
    λ edges levels entries.
    moved_as
    (sizes_bad _ _ _ _ _ _ _ _ (λ e.
    elim c.in_default.branch [
      | in_default-via-in-Opening+else-sizes-le-MOST_ITEMS w ↦ omega (arith, w.if-sizes-le-MOST_ITEMS.false)
      | in_default-via-in_default w ↦ absurd (w.in_default.not-Opening e)
    ]))
    (c.bad_frame.ensures edges levels entries)
