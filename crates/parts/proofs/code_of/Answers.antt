use mathlib.Core.Path.{refl}
use native.Mathlib.Omega.{arith}
use Rattle.parts.proofs.Laws.Parts.{code_more, code_done, code_small}
use Rattle.parts.proofs.code_of.Goals as goal

pub loop-symbol-init : goal.loop-symbol-init
loop-symbol-init c = (refl, omega arith)

pub overflow_mul-code : goal.overflow_mul-code
overflow_mul-code c = omega (arith, code_small c.loop-symbol.code c.loop-symbol.symbol-index 0 (omega arith) c.loop-symbol.invariant.1 (omega arith))

pub overflow_add-code : goal.overflow_add-code
overflow_add-code c =
    let l = c.loop-symbol in
    omega (arith, (code_small l.code l.symbol-index c.from.result (omega arith) l.invariant.1 (omega (arith, c.from.ensures, c.type_inv.symbols l.symbol-index))).0)

pub loop-symbol-preserved : goal.loop-symbol-preserved
loop-symbol-preserved c =
    let l = c.loop-symbol in (
      rw c.from.ensures (code_more _ l.code l.symbol-index _ c.loop-symbol-test.true l.invariant.0),
      (code_small l.code l.symbol-index c.from.result (omega arith) l.invariant.1 (omega (arith, c.from.ensures, c.type_inv.symbols l.symbol-index))).1,
    )

pub returns : goal.returns
returns c = code_done _ _ c.loop-symbol.symbol-index _ (omega arith) (omega arith) c.loop-symbol.invariant.0
