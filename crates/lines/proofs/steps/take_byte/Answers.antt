-- `lines::steps::take_byte` meets its contract.
use mathlib.Core.Path.{◌≡◌, sym, ◌∙◌}
use mathlib.Core.Bool.{true, false}
use borrow.Author.Tests.{eq-eqb, ne_eqb}
use Rattle.machine.specs.Machine.{is_stopped, byte}
use Rattle.machine.specs.Standing.{stage_of}
use Rattle.machine.proofs.Laws.Steps.{still}
use Rattle.lines.proofs.steps.take_byte.Goals as goal

pub returns-then-is_stopped : goal.returns-then-is_stopped
unfolding byte
returns-then-is_stopped c =
    let on : is_stopped (stage_of c.args.run.now) ≡ true = sym c.is_stopped.ensures ∙ c.if-is_stopped.true in
    rw on (still c.args.run.now)

pub returns-then-b-eq10 : goal.returns-then-b-eq10
unfolding byte
returns-then-b-eq10 c =
    let on : is_stopped (stage_of c.args.run.now) ≡ false = sym c.is_stopped.ensures ∙ c.if-is_stopped.false in
    rw (on, eq-eqb _ _ c.if-b-eq10.true) c.end_line.ensures.step

pub returns : goal.returns
unfolding byte
returns c =
    let on : is_stopped (stage_of c.args.run.now) ≡ false = sym c.is_stopped.ensures ∙ c.if-is_stopped.false in
    rw (on, ne_eqb _ _ c.if-b-eq10.false) c.keep_byte.ensures.step
