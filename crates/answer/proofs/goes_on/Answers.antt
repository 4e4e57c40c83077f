-- By the two tests.
use Rattle.std.proofs.Common.{◌≡◌, ap, not, arith}
use borrow.Author.Tests.{ne_eqb}
use Rattle.answer.specs.Reads.{goes_on}
use Rattle.answer.proofs.goes_on.Goals as goal

pub returns-then-got-gt0 : goal.returns-then-got-gt0
unfolding goes_on
returns-then-got-gt0 c = rw (ne_eqb c.args.got 0 (λ e. omega (arith, e, c.if-got-gt0.true))) (ap not c.is_stopped.ensures)

pub returns-else-got-gt0 : goal.returns-else-got-gt0
unfolding goes_on
returns-else-got-gt0 c = let none : c.args.got ≡ 0 = omega (arith, c.if-got-gt0.false) in rw none
