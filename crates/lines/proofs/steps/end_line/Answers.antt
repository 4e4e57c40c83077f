-- `lines::steps::end_line` meets its contract.
use Prim.Native.Nat.{ℕ}
use mathlib.Core.Path.{◌≡◌, refl, sym, ap}
use Rattle.machine.specs.Machine.{next_line, on_line, end_line}
use Rattle.machine.specs.Standing.{stage_of, line_of, machine_of}
use Rattle.machine.proofs.Laws.Stages.{comes_as}
use Rattle.machine.proofs.Laws.Steps.{next_number, turned_steps}
use Rattle.lines.proofs.steps.end_line.Goals as goal

pub returns-clause-step : goal.returns-clause-step
unfolding end_line
returns-clause-step c =
    let r = c.args.run.now in
    let number : c.saturating_add-run.result ≡ next_line r.lines = next_number _ _ c.saturating_add-run.ensures in
    turned_steps (machine_of r) _ (comes_as (ap (λ (n : ℕ). on_line (stage_of r) n (line_of r)) (sym number)) c.on_line-many.ensures.turn) number refl refl refl
