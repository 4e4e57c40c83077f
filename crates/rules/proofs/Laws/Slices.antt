-- A part of a list, and the number before another.
use Prim.Native.Nat.{ℕ, zero, suc, pred, ◌-◌, ◌≤◌}
use mathlib.Core.Path.{◌≡◌, refl, ap, ◌∙◌}
use mathlib.Core.List.{List, [], ◌∷◌}
use native.Mathlib.Omega.{arith}
use lib.ListN.{take, drop}
use lib.Seq.{slice, take-nil}

pub pred_is : (c : ℕ) → pred c ≡ c - 1
pred_is zero = refl
pred_is (suc c) = omega arith

pub take_from : (from to : ℕ) (list : List ℕ) → from ≤ to → take (to - from) (drop from list) ≡ slice from to list
take_from zero to list h = let e : to - 0 ≡ to = omega arith in ap (λ (n : ℕ). take n list) e
take_from (suc from) zero list h = absurd (omega arith)
take_from (suc from) (suc to) [] h = take-nil (suc to - suc from)
take_from (suc from) (suc to) (x ∷ list) h =
    let e : suc to - suc from ≡ to - from = omega arith in ap (λ (n : ℕ). take n (drop from list)) e ∙ take_from from to list (omega arith)
