-- Two ways: no entry has the code, and the part is empty; or the run from the first such entry on, two numbers an entry.
use native.Mathlib.Omega.{arith}
use Rattle.stored.proofs.Laws.Runs.{to_at_most}
use Rattle.parts.proofs.Laws.Parts.{run_none, run_some}
use Rattle.parts.proofs.run_bounds.Goals as goal

pub returns-then-from-entries : goal.returns-then-from-entries
returns-then-from-entries c = run_none _ _ (omega (arith, c.first_entry-from.ensures, c.if-from-entries.true))

pub overflow_mul-end : goal.overflow_mul-end
overflow_mul-end c = omega (arith, c.run_end-to.ensures, to_at_most c.args.entries.now c.args.code)

pub returns : goal.returns
returns c = run_some _ _ _ _ c.first_entry-from.ensures c.run_end-to.ensures c.if-from-entries.false
