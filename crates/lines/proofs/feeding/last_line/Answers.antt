-- `lines::feeding::last_line` meets its contract.
use mathlib.Core.Path.{sym, ◌∙◌}
use native.Mathlib.Omega.{arith}
use Rattle.machine.proofs.Laws.Steps.{steps_as, still}
use Rattle.lines.proofs.Laws.Feeding.{last_stopped, last_empty, last_held}
use Rattle.lines.proofs.feeding.last_line.Goals.{then-is_stopped-via-then-is_stopped, then-is_stopped-via-else-is_stopped+then-run-eq0}
use Rattle.lines.proofs.feeding.last_line.Goals as goal

pub returns-then-is_stopped-clause-step : goal.returns-then-is_stopped-clause-step
returns-then-is_stopped-clause-step c =
    let r = c.args.run.now in
    elim c.then-is_stopped.branch [
      | then-is_stopped-via-then-is_stopped w ↦ steps_as (last_stopped r (sym c.is_stopped.ensures ∙ w.if-is_stopped.true)) (still r)
      | then-is_stopped-via-else-is_stopped+then-run-eq0 w ↦ steps_as (last_empty r (sym c.is_stopped.ensures ∙ w.if-is_stopped.false) w.if-run-eq0.true) (still r)
    ]

pub returns-clause-step : goal.returns-clause-step
returns-clause-step c = steps_as (last_held c.args.run.now (sym c.is_stopped.ensures ∙ c.if-is_stopped.false) (omega (arith, c.if-run-eq0.false))) c.end_line.ensures.step
