-- The hash by its definition; a remainder by 2^32 is below 2^32.
use Rattle.twins.proofs.Laws.Signature.{mix_is}
use Rattle.twins.proofs.hashes.mix.Goals as goal

pub returns : goal.returns
returns c = mix_is c.args.x
