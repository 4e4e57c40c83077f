-- Fewer than two levels below are no repetition, nor is a level that looks elsewhere; else the level below is compared with the one below it.
use Prim.Native.Nat.{ℕ}
use mathlib.Core.Path.{◌≡◌}
use native.Mathlib.Omega.{arith}
use borrow.Author.Tests.{not-false}
use Rattle.levels.proofs.Laws.Repeat.{lower_stands}
use Rattle.std.proofs.lemmas.Bool.{not_from_true}
use Rattle.levels.proofs.repeat.repeats.Goals as goal

pub returns-then-i-lt3 : goal.returns-then-i-lt3
returns-then-i-lt3 c = λ e. absurd (let z : ◌≡◌ {A = ℕ} 0 1 = cc in omega arith)

pub returns-then-not-looks_alike : goal.returns-then-not-looks_alike
returns-then-not-looks_alike c = λ e. absurd (let z : ◌≡◌ {A = ℕ} 0 1 = cc in omega arith)

pub same_below-requires : goal.same_below-requires
same_below-requires c = (lower_stands _ _ _ c.requires (omega (arith, c.if-i-lt3.false)), omega (arith, c.if-i-lt3.false))

pub returns : goal.returns
returns c = λ e. record { deep = omega (arith, c.if-i-lt3.false); looks = c.looks_alike.ensures (not-false _ (not_from_true _ c.if-not-looks_alike.false)); same = c.same_below.ensures e }
