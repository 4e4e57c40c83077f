-- `lines::turns::on_line` meets its contract.
use mathlib.Core.Path.{sym, ◌∙◌}
use Rattle.machine.proofs.Laws.Stages.{comes_as}
use Rattle.lines.proofs.Laws.Turns.{line_sizes, line_edge, line_query, line_faulty}
use Rattle.lines.proofs.turns.on_line.Goals as goal

pub returns-in-Sizes-clause-turn : goal.returns-in-Sizes-clause-turn
returns-in-Sizes-clause-turn c = comes_as (line_sizes _ _ _ _ _ _ (sym c.frame.ensures ∙ c.in-Sizes.is)) c.on_sizes.ensures.turn

pub returns-in-Edge-clause-turn : goal.returns-in-Edge-clause-turn
returns-in-Edge-clause-turn c = comes_as (line_edge _ _ _ _ _ _ (sym c.frame.ensures ∙ c.in-Edge.is)) c.on_edge.ensures.turn

pub returns-in-Query-clause-turn : goal.returns-in-Query-clause-turn
returns-in-Query-clause-turn c = comes_as (line_query _ _ _ (sym c.frame.ensures ∙ c.in-Query.is)) c.on_query.ensures.turn

pub returns-in-Faulty-clause-turn : goal.returns-in-Faulty-clause-turn
returns-in-Faulty-clause-turn c = comes_as (line_faulty _ _ _ (sym c.frame.ensures ∙ c.in-Faulty.is)) c.bad_frame.ensures.turn
