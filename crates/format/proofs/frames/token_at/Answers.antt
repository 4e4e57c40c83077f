use Rattle.std.proofs.Common.{◌+◌, ◌*◌, ◌<◌, sym, arith}
use Rattle.hexa.proofs.Laws.Reading.{number_below}
use Rattle.format.proofs.frames.token_at.Goals as goal

-- two digits are a byte
pub overflow_cast-result : goal.overflow_cast-result
overflow_cast-result c =
    let byte : c.in_ok-token.token < 256 = number_below c.args.line.now (2 + 2 * c.args.i) 2 c.in_ok-token.token (sym c.in_ok-token.ensures) in
    record { fits = omega (arith, byte) }
