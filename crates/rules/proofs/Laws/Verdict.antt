-- Chains of refusals: nothing is refused exactly if no link refuses.
use Prim.Native.Nat.{ℕ}
use mathlib.Core.Path.{◌≡◌, refl, ◌∙◌}
use mathlib.Core.Bool.{Bool, true, false}
use native.Mathlib.Omega.{arith}
use Rattle.rules.specs.declared.Refusal.{Refusal}
use Rattle.rules.specs.Verdict.{Verdict, good, refuse, ◌or_else◌, when}

pub refuse_good : {C : Type 0} {r : Refusal} → refuse r ≡ good → C
refuse_good e = let z : ◌≡◌ {A = ℕ} 0 1 = cc in absurd (omega arith)

pub or_else_good : (a b : Verdict) → (a or_else b) ≡ good → (a ≡ good) × (b ≡ good)
unfolding ◌or_else◌
or_else_good good b e = (refl, e)
or_else_good (refuse r) b e = refuse_good e

pub good_or_else : (a b : Verdict) → a ≡ good → (a or_else b) ≡ b
unfolding ◌or_else◌
good_or_else good b e = refl
good_or_else (refuse r) b e = refuse_good e

pub both_good : (a b : Verdict) → a ≡ good → b ≡ good → (a or_else b) ≡ good
both_good a b p q = good_or_else a b p ∙ q

pub when_good : (b : Bool) (r : Refusal) → when b r ≡ good → b ≡ false
unfolding when
when_good true r e = refuse_good e
when_good false r e = refl

pub good_when : (b : Bool) (r : Refusal) → b ≡ false → when b r ≡ good
unfolding when
good_when b r e = rw e
