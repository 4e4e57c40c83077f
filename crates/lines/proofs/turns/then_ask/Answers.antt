-- `lines::turns::then_ask` meets its contract.
use Rattle.lines.proofs.Laws.Turns.{unasked, asked_there, answers_none}
use Rattle.lines.proofs.turns.then_ask.Goals as goal

pub returns-in-Answering-clause-turn : goal.returns-in-Answering-clause-turn
returns-in-Answering-clause-turn c = λ turn old h. asked_there turn _ old _ h _ _ _ _ c.in-Answering.is c.ask_run.ensures.added

pub returns-in_default-clause-turn : goal.returns-in_default-clause-turn
returns-in_default-clause-turn c = λ turn old h. unasked turn _ old _ h _ (answers_none _ _ _ _ _ c.in_default.not-Answering)
