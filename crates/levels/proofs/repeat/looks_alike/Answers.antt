-- Three tests, each of which promises only its yes.
use Prim.Native.Nat.{ℕ}
use mathlib.Core.Path.{◌≡◌, sym, ◌∙◌}
use native.Mathlib.Omega.{arith}
use borrow.Author.Tests.{eqb-true, not-false}
use Rattle.std.proofs.lemmas.Bool.{not_from_true}
use Rattle.levels.proofs.repeat.looks_alike.Goals as goal

pub returns-then-not-looks_below : goal.returns-then-not-looks_below
returns-then-not-looks_below c = λ e. absurd (let z : ◌≡◌ {A = ℕ} 0 1 = cc in omega arith)

pub returns-then-not-looks_below-2 : goal.returns-then-not-looks_below-2
returns-then-not-looks_below-2 c = λ e. absurd (let z : ◌≡◌ {A = ℕ} 0 1 = cc in omega arith)

pub returns : goal.returns
returns c =
    λ e. record {
      upper = c.looks_below.ensures (not-false _ (not_from_true _ c.if-not-looks_below.false));
      lower = c.looks_below-2.ensures (not-false _ (not_from_true _ c.if-not-looks_below-2.false));
      many = sym c.splits.ensures.0 ∙ eqb-true _ _ e ∙ c.splits-2.ensures.0;
    }
