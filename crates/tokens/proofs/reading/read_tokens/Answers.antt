use Rattle.std.proofs.Common.{Err}
use mathlib.Core.Path.{refl, sym, ap, ◌∙◌}
use native.Mathlib.Omega.{arith}
use borrow.Author.Rules.{rules}
use borrow.Author.Tests.{ltb-false}
use Rattle.tokens.specs.Waiting.{read_of}
use Rattle.tokens.proofs.Laws.Waiting.{now_takes, refused_takes}
use Rattle.tokens.proofs.Laws.Reading.{read_none, read_long, halfway_off}
use Rattle.tokens.proofs.Laws.Diameters.{measuring_start, measuring_ready, measuring_on, measuring_one, measuring_other}
use Rattle.tokens.proofs.reading.read_tokens.Goals as goal
use Rattle.tokens.proofs.reading.read_tokens.Goals.{then-is_empty-via-then-is_empty, then-is_empty-via-else-is_empty+then-tokens-gt64}

pub returns-then-is_empty : goal.returns-then-is_empty
unfolding read_of
returns-then-is_empty c =
    let a = c.args in
    elim c.then-is_empty.branch [
      | then-is_empty-via-then-is_empty w ↦ ap read_of (sym (read_none a.labels a.tokens.now (search (rules, w.if-is_empty.true, c.is_empty.ensures))))
      | then-is_empty-via-else-is_empty+then-tokens-gt64 w ↦ ap read_of (sym (read_long a.labels a.tokens.now w.if-tokens-gt64.true))
    ]

pub loop-at-init : goal.loop-at-init
loop-at-init c = (search rules, measuring_start _ _ _ (search (rules, c.is_empty.ensures, c.if-is_empty.false)) c.if-tokens-gt64.false refl)

pub overflow_cast-at : goal.overflow_cast-at
overflow_cast-at c = omega (arith, ltb-false)

pub returns-in_default : goal.returns-in_default
unfolding read_of
returns-in_default c =
    let l = c.loop-at in
    let a = c.args in
    let m = l.invariant.1 in
    let s = refused_takes c.read_token-t.result l.depth l.at c.in_default.field-0 (sym c.in_default.is ∙ c.wait_after.ensures) in
    ap Err c.fault_of.ensures
    ∙ ap read_of (sym (halfway_off a.labels a.tokens.now l.at l.depth m.waits m.halfway c.read_token-t.result c.loop-at-test.true c.read_token-t.ensures s.0))

pub measure-requires : goal.measure-requires
measure-requires c =
    let l = c.loop-at in
    let a = c.args in
    let s = now_takes c.read_token-t.result l.depth l.at c.in-Ok.waiting (sym c.in-Ok.is ∙ c.wait_after.ensures) in
    measuring_ready a.labels a.tokens.now l.at l.depth l.diameters l.invariant.1 c.read_token-t.result c.loop-at-test.true c.if-tokens-gt64.false s.0

pub loop-at-preserved : goal.loop-at-preserved
loop-at-preserved c =
    let l = c.loop-at in
    let a = c.args in
    let t = c.read_token-t.result in
    let s = now_takes t l.depth l.at c.in-Ok.waiting (sym c.in-Ok.is ∙ c.wait_after.ensures) in
    let m = measuring_on a.labels a.tokens.now l.at l.depth l.diameters l.invariant.1 t c.loop-at-test.true c.read_token-t.ensures s.0 in
    (omega (arith, m.halfway.few, s.1), rw (s.1, c.measure.ensures) m)

pub returns-then-depth-eq1 : goal.returns-then-depth-eq1
returns-then-depth-eq1 c =
    let l = c.loop-at in
    let a = c.args in
    measuring_one a.labels a.tokens.now l.at l.depth l.diameters l.invariant.1 (omega arith) c.if-depth-eq1.true

pub returns-else-depth-eq1 : goal.returns-else-depth-eq1
returns-else-depth-eq1 c =
    let l = c.loop-at in
    let a = c.args in
    measuring_other a.labels a.tokens.now l.at l.depth l.diameters l.invariant.1 (omega arith) c.if-depth-eq1.false
