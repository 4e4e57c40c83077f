-- Both comparisons are needed; each promises only its yes.
use Prim.Native.Nat.{ℕ}
use mathlib.Core.Path.{◌≡◌}
use native.Mathlib.Omega.{arith}
use borrow.Author.Tests.{not-false}
use Rattle.std.proofs.lemmas.Bool.{not_from_true}
use Rattle.levels.proofs.over.repeats_on.Goals as goal

pub returns-then-not-repeats : goal.returns-then-not-repeats
returns-then-not-repeats c = λ e. absurd (let z : ◌≡◌ {A = ℕ} 0 1 = cc in omega arith)

pub same_below-requires : goal.same_below-requires
same_below-requires c = (c.requires, omega (arith, (c.repeats.ensures (not-false _ (not_from_true _ c.if-not-repeats.false))).deep))

pub returns : goal.returns
returns c = λ e. (c.repeats.ensures (not-false _ (not_from_true _ c.if-not-repeats.false)), c.same_below.ensures e)
