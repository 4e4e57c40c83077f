-- `lines::turns::on_query` meets its contract.
use Rattle.machine.proofs.Laws.Stages.{comes_as}
use Rattle.lines.proofs.Laws.Turns.{silent_comes, query_bad, query_gathering, query_answering}
use Rattle.lines.proofs.turns.on_query.Goals as goal

pub returns-in-Gathering-clause-turn : goal.returns-in-Gathering-clause-turn
returns-in-Gathering-clause-turn c = let b = c.build_tables-many.ensures.turn.0 in comes_as (query_gathering _ _ _ _ _ _ _ c.in-Gathering.is) (rw b.line at (c.then_ask.ensures.turn _ _ b))

pub returns-in-Answering-clause-turn : goal.returns-in-Answering-clause-turn
returns-in-Answering-clause-turn c = comes_as (query_answering _ _ _ _ _ _ _ c.in-Answering.is) (c.then_ask-in-Answering.ensures.turn _ _ (silent_comes c.args.run.now))

pub returns-in_default-clause-turn : goal.returns-in_default-clause-turn
returns-in_default-clause-turn c = comes_as (query_bad _ _ _ _ _ _ c.in_default.not-Gathering c.in_default.not-Answering) c.bad_frame.ensures.turn
