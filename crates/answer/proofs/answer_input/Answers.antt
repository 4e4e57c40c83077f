-- The last text is written behind the others.
use Rattle.std.proofs.lemmas.Result.{on_ok_weaker}
use Rattle.answer.proofs.Streams.{answered}
use Rattle.answer.proofs.answer_input.Goals as goal

pub returns : goal.returns
returns g c = on_ok_weaker c.write_all.result (λ a. answered _ _ _ _ _ _ (rw c.start-state.ensures at c.in_ok-many.ensures.moved) a) c.write_all.ensures.bytes
