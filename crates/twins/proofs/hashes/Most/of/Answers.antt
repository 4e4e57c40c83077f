use mathlib.Core.Path.{◌≡◌}
use native.Mathlib.Omega.{arith}
use lib.ListN.{length}
use Rattle.twins.proofs.Laws.Signature.{mosts_start, mosts_more}
use Rattle.twins.proofs.hashes.Most.of.Goals as goal

pub loop-x-init : goal.loop-x-init
loop-x-init c = mosts_start _

pub loop-x-preserved : goal.loop-x-preserved
loop-x-preserved c = mosts_more _ _ c.loop-x.invariant c.raised-most.ensures

pub returns : goal.returns
returns c =
    let l = c.loop-x in
    let e : l.x-index ≡ length c.args.list.now = omega arith in
    rw e at l.invariant
