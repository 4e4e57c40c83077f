-- `lines::asking::ask_tokens` meets its contract.
use native.Mathlib.Omega.{arith}
use Rattle.lines.proofs.Laws.Asking.{one_table, found_by}
use Rattle.lines.proofs.asking.ask_tokens.Goals as goal

pub overflow_sub-from : goal.overflow_sub-from
overflow_sub-from c = let t = c.args.tables in omega (arith, c.table_end.ensures, c.table_end-to.ensures, one_table t.sizes.items t.sizes.k t.some_level)

pub returns : goal.returns
returns c =
    let a = c.args in
    let t = a.tables in
    let s = t.sizes in
    found_by s.items s.labels s.k _ _ _ _ _ c.table_end-to.ensures c.table_end.ensures t.some_level _ c.requires.2 _ _ c.stored.ensures.result c.stored.ensures.answers
