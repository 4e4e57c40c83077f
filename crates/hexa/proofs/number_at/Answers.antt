use Rattle.std.proofs.Common.{◌+◌, ◌*◌, ◌<◌, ◌^◌, None, sym, ◌∙◌, arith}
use Rattle.hexa.proofs.Laws.Reading.{number_none, number_lost, byte_there, byte_past, below_wider, turn}
use Rattle.hexa.proofs.number_at.Goals as goal

pub loop-i-init : goal.loop-i-init
loop-i-init c = (number_none c.args.s.now c.args.at, omega arith)

pub overflow_mul-x : goal.overflow_mul-x
overflow_mul-x c =
    let w : c.loop-i.x < 16 ^ 7 = below_wider c.loop-i.i 7 c.loop-i.x (omega arith) c.loop-i.invariant.1 in
    record { fits = omega (arith, w) }

pub overflow_add-x : goal.overflow_add-x
overflow_add-x c =
    let t = turn c.args.s.now c.args.at c.loop-i.i c.loop-i.x c.in_ok-byte_at.field-0 c.in_ok-x.field-0 c.loop-i.invariant (sym c.in_ok-byte_at.ensures) (sym c.in_ok-x.ensures) in
    let w : c.loop-i.x * 16 + c.in_ok-x.field-0 < 16 ^ 8 = below_wider (c.loop-i.i + 1) 8 _ (omega arith) t.below in
    record { fits = omega (arith, w) }

pub loop-i-preserved : goal.loop-i-preserved
loop-i-preserved c =
    let t = turn c.args.s.now c.args.at c.loop-i.i c.loop-i.x c.in_ok-byte_at.field-0 c.in_ok-x.field-0 c.loop-i.invariant (sym c.in_ok-byte_at.ensures) (sym c.in_ok-x.ensures) in
    (t.reads, t.below)

pub returns-in_err-byte_at : goal.returns-in_err-byte_at
returns-in_err-byte_at c =
    c.from_residual.ensures
    ∙ sym (number_lost c.args.s.now c.args.at c.loop-i.i c.args.d c.loop-i.x (omega arith) c.loop-i.invariant.0 (byte_past c.args.s.now (c.args.at + c.loop-i.i) (sym c.in_err-byte_at.ensures)))

pub returns-in_err-x : goal.returns-in_err-x
returns-in_err-x c =
    c.from_residual-in_err-x.ensures
    ∙ sym (number_lost c.args.s.now c.args.at c.loop-i.i c.args.d c.loop-i.x (omega arith) c.loop-i.invariant.0 (byte_there c.args.s.now (c.args.at + c.loop-i.i) c.in_ok-byte_at.field-0 None (sym c.in_ok-byte_at.ensures) (sym c.in_err-x.ensures)))
