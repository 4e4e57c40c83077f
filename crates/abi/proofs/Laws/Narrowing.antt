-- Bounds that fit 32 bits are not changed by narrowing.
use Rattle.std.proofs.Common.{Err, Ok, Result}
use Rattle.rules.specs.declared.Part.{Part}
use Rattle.rules.specs.Outcomes.{span}
use Prim.Native.Nat.{ℕ, pred, ◌<◌, ◌^◌}
use mathlib.Core.Path.{◌≡◌, refl}
use mathlib.Core.List.{List}
use mathlib.Core.Bool.{Bool, true, false, ◌||◌, cond}
use native.Mathlib.Nat.{mod-eq_of_lt}
use native.Mathlib.Omega.{arith}
use lib.Dec.{eqb, leb, ltb}
use lib.ListN.{length, get_or}
use Rattle.rules.specs.declared.Refusal.{Refusal}
use Rattle.rules.specs.declared.Refusal.TheVariants.{NoClass}
use Rattle.rules.specs.Outcomes.{class_bounds}
use Rattle.parts.specs.Parts.{Inside}
use Rattle.abi.specs.Handed.{narrowed}

either_narrowed : (t : Bool) (r : Refusal) (from to : ℕ) → from < 2 ^ 32 → to < 2 ^ 32 → narrowed (cond t (Err r) (Ok (span from to))) ≡ cond t (Err r) (Ok (span from to))
unfolding narrowed
either_narrowed true r from to f g = refl
either_narrowed false r from to f g = rw (mod-eq_of_lt f, mod-eq_of_lt g)

pub class_narrowed : (c : ℕ) (starts order : List ℕ) → ((i : ℕ) → get_or starts i 0 < 2 ^ 32) → narrowed (class_bounds c starts order) ≡ class_bounds c starts order
unfolding class_bounds
class_narrowed c starts order small = either_narrowed (eqb c 0 || (leb (length starts) c || (ltb (get_or starts c 0) (get_or starts (pred c) 0) || ltb (length order) (get_or starts c 0)))) NoClass (get_or starts (pred c) 0) (get_or starts c 0) (small (pred c)) (small c)

-- a part of a list of fewer than 2³² numbers
pub inside_narrowed : (b : Result Part Refusal) (list : List ℕ) → length list < 2 ^ 32 → Inside b list → narrowed b ≡ b
unfolding narrowed
inside_narrowed (Ok part) list short i =
    let w = i.within part.from part.to refl in
    let f : part.from < 2 ^ 32 = omega (arith, short, w.0, w.1) in
    let t : part.to < 2 ^ 32 = omega (arith, short, w.1) in
    rw (mod-eq_of_lt f, mod-eq_of_lt t)
inside_narrowed (Err r) list short i = refl
