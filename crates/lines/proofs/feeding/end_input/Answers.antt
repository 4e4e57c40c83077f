-- `lines::feeding::end_input` meets its contract.
use mathlib.Core.Path.{◌≡◌, sym, ap}
use Rattle.machine.specs.Machine.{bad_frame, next_line, ended}
use Rattle.machine.specs.Standing.{stage_by}
use Rattle.machine.proofs.Laws.Stages.{comes_as}
use Rattle.machine.proofs.Laws.Steps.{next_number}
use Rattle.lines.proofs.Laws.Feeding.{written_comes, ended_none}
use Rattle.lines.proofs.feeding.end_input.Goals as goal

pub returns-in-Opening-clause-written : goal.returns-in-Opening-clause-written
unfolding ended stage_by
returns-in-Opening-clause-written c =
    let number : c.saturating_add-run.result ≡ next_line c.args.run.now.lines = next_number _ _ c.saturating_add-run.ensures in
    rw c.in-Opening.is (written_comes (comes_as (ap bad_frame (sym number)) c.bad_frame.ensures.turn))

pub returns-in-Gathering-clause-written : goal.returns-in-Gathering-clause-written
unfolding ended stage_by
returns-in-Gathering-clause-written c = rw c.in-Gathering.is (written_comes c.build_tables.ensures.turn.0)

pub returns-in_default-clause-written : goal.returns-in_default-clause-written
returns-in_default-clause-written c = ended_none _ _ _ _ _ _ c.in_default.not-Opening c.in_default.not-Gathering
