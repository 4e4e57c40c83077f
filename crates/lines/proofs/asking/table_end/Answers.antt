-- `lines::asking::table_end` meets its contract.
use native.Mathlib.Omega.{arith}
use Rattle.lines.proofs.Laws.Asking.{square_small, table_small}
use Rattle.lines.proofs.asking.table_end.Goals as goal

pub overflow_mul-result : goal.overflow_mul-result
overflow_mul-result c = omega (arith, square_small c.args.items c.requires.0)

pub overflow_mul-result-2 : goal.overflow_mul-result-2
overflow_mul-result-2 c = omega (arith, table_small c.args.items c.args.k c.requires.0 c.requires.1)

pub overflow_cast-result : goal.overflow_cast-result
overflow_cast-result c = omega (arith, table_small c.args.items c.args.k c.requires.0 c.requires.1)
