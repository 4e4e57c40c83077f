-- `machine::Run::keep_byte` meets its contract.
use mathlib.Core.Path.{refl}
use mathlib.Core.List.{[]}
use native.Mathlib.Omega.{arith}
use Rattle.machine.proofs.Laws.Steps.{keep_more}
use Rattle.machine.proofs.Run.keep_byte.Goals as goal

pub returns-then-self-lt-MOST_DIGITS-clause-step : goal.returns-then-self-lt-MOST_DIGITS-clause-step
returns-then-self-lt-MOST_DIGITS-clause-step c =
    let r = c.args.self.now in
    rw (keep_more _ r.lines r.held r.part c.args.b r.part_room (omega (arith, c.if-self-lt-MOST_DIGITS.true))) (record { machine = refl; many = refl; text = refl; inside = omega arith })

pub invariant_of-self-2-clause-held_fits : goal.invariant_of-self-2-clause-held_fits
invariant_of-self-2-clause-held_fits c = (c.keep_byte-taken.ensures [] [] []).held_fits

pub returns-clause-step : goal.returns-clause-step
returns-clause-step c = let h = c.keep_byte-taken.ensures _ _ _ in record { machine = h.machine; many = h.many; text = h.text; inside = h.inside }
