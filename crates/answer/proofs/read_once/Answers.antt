-- The machine goes on by what stands at the front of the buffer.
use Rattle.answer.proofs.read_once.Goals as goal

pub returns-clause-machine : goal.returns-clause-machine
returns-clause-machine g c = record { inside = c.in_ok-got.ensures.bound.0; fed = c.in_ok-print_all.ensures.machine }
