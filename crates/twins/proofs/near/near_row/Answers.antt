-- The row is filled from zeros, and its signs are put n·n + v·n bytes in: `row_bytes_lem` makes the two one row of `connected`.
use native.Mathlib.Omega.{arith}
use Rattle.rules.proofs.Laws.Places.{row_fits, square_le}
use Rattle.rules.proofs.Laws.Writing.{get_or_zeros}
use Rattle.twins.proofs.Laws.Rows.{row_bytes_lem}
use Rattle.twins.proofs.near.near_row.Goals as goal

pub fill_row-requires : goal.fill_row-requires
fill_row-requires c = (c.requires.0, c.requires.1, record { room = c.requires.0.few; zero_at = λ u h. get_or_zeros 128 u })

pub overflow_mul-v : goal.overflow_mul-v
overflow_mul-v c = omega (arith, row_fits c.args.n c.requires.1, square_le c.requires.0.few)

pub overflow_add-n : goal.overflow_add-n
overflow_add-n c = omega (arith, row_fits c.args.n c.requires.1, square_le c.requires.0.few)

pub put_row-requires : goal.put_row-requires
put_row-requires c = (c.fill_row.ensures.room, omega (arith, row_fits c.args.n c.requires.1, c.requires.0.area_room))

pub returns : goal.returns
returns c = row_bytes_lem _ _ _ _ _ _ _ _ c.fill_row.ensures c.put_row.ensures
