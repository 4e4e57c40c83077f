-- The library's fill writes the zeros that a loop would, one after the other (`zeros_mid`).
use Prim.Native.Nat.{◌+◌, ◌*◌, ◌-◌, ◌≤◌}
use mathlib.Core.Path.{◌≡◌}
use native.Mathlib.Omega.{arith}
use lib.ListN.{length, take, drop, length-take, length-drop}
use Rattle.twins.proofs.Laws.Areas.{zeros_mid}
use Rattle.numbering.proofs.chains.clear_heads.Goals as goal

pub returns : goal.returns
returns c =
    let n = c.args.n in
    let e : 4 * (n * n) + 2 * (n * n) - 4 * (n * n) ≡ 2 * (n * n) = omega arith in
    let h : 9 * (n * n) ≤ length c.args.area.now = c.requires.1 in
    let size : length (take (2 * (n * n)) (drop (4 * (n * n)) c.args.area.now)) ≡ 2 * (n * n) = simp (length-take, length-drop) (omega arith) in
    rw e (zeros_mid c.args.area.now (4 * (n * n)) (2 * (n * n)) c.fill.new.self (omega arith) size (rw e at (c.fill.ensures.after (λ y q. q))))
