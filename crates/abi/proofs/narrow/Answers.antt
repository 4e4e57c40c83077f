-- The mask is 2³² - 1, so what is left is the number modulo 2³², which fits.
use lib.Bits.{and_mask, mask_lt}
use Rattle.abi.proofs.narrow.Goals as goal

pub overflow_cast-result : goal.overflow_cast-result
overflow_cast-result c = record { fits = mask_lt c.args.x 32 }

pub returns : goal.returns
returns c = and_mask c.args.x 32
