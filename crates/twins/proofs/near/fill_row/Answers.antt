-- Level 1 is one step by definition (`row_first`); above, connected within i is a midpoint at i-1 and a step (`row_far`).
use native.Mathlib.Omega.{arith}
use mathlib.Core.Path.{sym, ◌∙◌}
use Rattle.twins.proofs.Laws.Agreement.{one_stands}
use Rattle.twins.proofs.Laws.Tables.{base_next}
use Rattle.twins.proofs.Laws.Rows.{row_first, row_far}
use Rattle.twins.proofs.near.fill_row.Goals as goal

pub returns-then-i-eq1 : goal.returns-then-i-eq1
returns-then-i-eq1 c = row_first _ _ _ _ _ _ c.requires.2.room c.if-i-eq1.true c.first_row.ensures

pub of-level-requires : goal.of-level-requires
of-level-requires c = record { some = omega (arith, c.if-i-eq1.false); room = omega (arith, base_next c.args.n c.args.i c.requires.0.some) }

pub of-first-requires : goal.of-first-requires
of-first-requires c = one_stands _ _ _ (record { some = c.requires.0.some; room = c.requires.0.room })

pub gather_row-requires : goal.gather_row-requires
gather_row-requires c = (c.of-first.ensures.0 ∙ sym c.of-level.ensures.0, rw c.of-level.ensures.0 c.requires.1, rw c.of-level.ensures.0 c.requires.2)

pub returns : goal.returns
returns c = row_far _ _ _ _ _ _ c.requires.0 c.if-i-eq1.false c.requires.1 (rw (c.of-level.ensures.0, c.of-level.ensures.1, c.of-first.ensures.1) at c.gather_row.ensures)
