-- `machine::bytes::keep_byte` meets its contract.
use Prim.Native.Nat.{◌≤◌}
use mathlib.Core.Path.{◌≡◌, refl, sym, ap}
use native.Mathlib.Omega.{arith}
use borrow.Author.Tests.{le-ltb}
use lib.ListN.{length, take}
use lib.Seq.{length-take-le}
use Rattle.machine.specs.Machine.{bad_frame, next_line, keep}
use Rattle.machine.specs.Standing.{machine_by}
use Rattle.machine.proofs.Laws.Stages.{moved_as}
use Rattle.machine.proofs.Laws.Steps.{next_number, keep_more, turned_taken}
use Rattle.machine.proofs.bytes.keep_byte.Goals as goal

pub returns-then-s-lt-MOST_DIGITS : goal.returns-then-s-lt-MOST_DIGITS
returns-then-s-lt-MOST_DIGITS c =
    λ edges levels entries.
    rw (keep_more _ c.args.s.lines c.args.s.held c.args.part.now c.args.b c.requires.1 (omega (arith, c.if-s-lt-MOST_DIGITS.true)))
    (record { machine = refl; many = refl; text = refl; inside = omega arith; held_fits = omega (arith, c.if-s-lt-MOST_DIGITS.true) })

pub returns : goal.returns
unfolding keep
returns c =
    λ edges levels entries.
    let s = c.args.s in
    let part = c.args.part.now in
    let full : 512 ≤ length (take s.held part) = omega (arith, length-take-le s.held part (omega (arith, c.requires.0, c.requires.1)), c.if-s-lt-MOST_DIGITS.false) in
    let number : c.saturating_add-number.result ≡ next_line s.lines = next_number _ _ c.saturating_add-number.ensures in
    rw (le-ltb (length (take s.held part)) 512 full)
    (turned_taken (machine_by s part edges levels entries) _ _ (moved_as (ap bad_frame (sym number)) (c.bad_frame-moved.ensures edges levels entries)) number)
