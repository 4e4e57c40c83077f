-- One read more, and the end of the reads.
use Rattle.std.proofs.Common.{refl, sym, ◌∙◌, arith}
use Rattle.answer.proofs.Streams.{goes_true, goes_false, going_start, going_more, moves_over, moves_long}
use Rattle.answer.proofs.read_all.Goals as goal

pub reads-init : goal.reads-init
reads-init g c = record { going = going_start _ _ _; buffer_lent = refl }

pub reads-preserved : goal.reads-preserved
reads-preserved g c =
    let v = c.reads.invariant in
    let t = c.in_ok-got.ensures in
    record {
      going = going_more _ _ _ _ _ _ _ _ _ _ _ _ v.going t.machine t.read t.written (goes_true _ _ (sym c.goes_on.ensures ∙ c.if-not-goes_on.false));
      buffer_lent = c.read_once.auto.buffer ∙ v.buffer_lent;
    }

pub returns-then-not-goes_on : goal.returns-then-not-goes_on
returns-then-not-goes_on g c =
    let v = c.reads.invariant in
    let t = c.in_ok-got.ensures in
    moves_over _ _ _ _ _ _ _ _ _ _ _ _ v.going t.machine t.read t.written
    (λ on. t.end (goes_false _ _ (sym c.goes_on.ensures ∙ c.if-not-goes_on.true) on) (omega (arith, c.read_once.auto.buffer, v.buffer_lent)))

pub returns-after-reads : goal.returns-after-reads
returns-after-reads g c = moves_long _ _ _ _ _ _ _ (omega arith) c.reads.invariant.going
