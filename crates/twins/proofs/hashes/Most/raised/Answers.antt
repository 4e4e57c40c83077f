-- Each of the four becomes the larger of itself and the hash turned by its quarter (`turn_up`).
use Rattle.twins.proofs.Laws.Signature.{turn_up}
use Rattle.twins.proofs.hashes.Most.raised.Goals as goal

pub returns : goal.returns
returns c = record {
  none = turn_up _ _ _ c.mix-y.ensures.0 c.turn.ensures.0 c.max.ensures;
  quarter = turn_up _ _ _ c.mix-y.ensures.0 c.turn-2.ensures.0 c.max-2.ensures;
  half = turn_up _ _ _ c.mix-y.ensures.0 c.turn-3.ensures.0 c.max-3.ensures;
  most = turn_up _ _ _ c.mix-y.ensures.0 c.turn-4.ensures.0 c.max-4.ensures;
}
