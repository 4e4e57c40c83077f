-- Two ways: an old number changes nothing; a new one stores p at the place of number top + 1, which is in the area since top ≤ p.
use mathlib.Core.Path.{refl}
use native.Mathlib.Omega.{arith}
use Rattle.rules.proofs.Laws.Places.{square_le}
use Rattle.faults.proofs.note_first.Goals as goal

pub returns-then-c-top : goal.returns-then-c-top
returns-then-c-top c = record { largest = omega arith; old = λ h. refl; new = λ h. absurd (omega (arith, c.if-c-top.true)) }

pub set_word-requires : goal.set_word-requires
set_word-requires c = record { room = omega arith; small = omega (arith, square_le c.requires.0) }

pub returns : goal.returns
returns c = record { largest = omega (arith, c.if-c-top.false); old = λ h. absurd (omega (arith, c.if-c-top.false)); new = λ h. c.set_word.ensures }
