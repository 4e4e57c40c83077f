-- Five ways, a law each: class 0, past the starts, bounds out of order, past the order list, or the part.
use Prim.Native.Nat.{◌-◌}
use native.Mathlib.Omega.{arith}
use Rattle.parts.proofs.Laws.Parts.{class_zero, class_past, class_disordered, class_outside, class_inside}
use Rattle.parts.proofs.class_bounds.Goals as goal

pub returns-then-at-eq0 : goal.returns-then-at-eq0
returns-then-at-eq0 c = record { bounds = class_zero _ _ _ c.if-at-eq0.true }

pub returns-then-starts-at : goal.returns-then-starts-at
returns-then-starts-at c = record { bounds = class_past _ _ _ c.if-at-eq0.false c.if-starts-at.true }

pub overflow_cast-from : goal.overflow_cast-from
overflow_cast-from c = omega (arith, c.type_inv.starts (c.args.c - 1))

pub overflow_cast-to : goal.overflow_cast-to
overflow_cast-to c = omega (arith, c.type_inv.starts c.args.c)

pub returns-then-to-from : goal.returns-then-to-from
returns-then-to-from c = record { bounds = class_disordered _ _ _ c.if-at-eq0.false c.if-starts-at.false c.if-to-from.true }

pub returns-then-order-to : goal.returns-then-order-to
returns-then-order-to c = record { bounds = class_outside _ _ _ c.if-at-eq0.false c.if-starts-at.false c.if-to-from.false c.if-order-to.true }

pub returns : goal.returns
returns c = record { bounds = class_inside _ _ _ c.if-at-eq0.false c.if-starts-at.false c.if-to-from.false c.if-order-to.false }
