-- Writing a number: the digits put before a rest, and stored one by one from the last to the first.
-- Assumes nothing.
use mathlib.Core.Path.{◌≡◌, refl, sym, ap, ◌∙◌}
use mathlib.Core.List.{List, [], ◌∷◌, ◌++◌}
use Prim.Native.Nat.{ℕ, zero, suc, ◌+◌, ◌/◌, ◌%◌}
use native.Mathlib.Nat.{add-zero, add-suc, suc-add}
use native.Mathlib.Numerals.{add-one}
use native.Mathlib.Omega.{arith}
use lib.ListN.{length, set, drop}
use lib.Seq.{sets, set_comm, drop-drop}
use Rattle.hexa.specs.Digits.{digit_of, put_digits, spelling}

-- no digit, and one digit more
pub put_none : (x : ℕ) (rest : List ℕ) → put_digits 0 x rest ≡ rest
unfolding put_digits
put_none x rest = refl

pub put_more : (d x : ℕ) (rest : List ℕ) → put_digits (suc d) x rest ≡ put_digits d (x / 16) (digit_of (x % 16) ∷ rest)
unfolding put_digits
put_more d x rest = refl

-- d digits are d bytes
pub length_put : (d x : ℕ) (rest : List ℕ) → length (put_digits d x rest) ≡ d + length rest
unfolding put_digits
length_put zero x rest = omega arith
length_put (suc d) x rest = omega (arith, length_put d (x / 16) (digit_of (x % 16) ∷ rest))

-- behind them stands the rest
pub drop_put : (d x : ℕ) (rest : List ℕ) → drop d (put_digits d x rest) ≡ rest
unfolding put_digits
drop_put zero x rest = refl
drop_put (suc d) x rest = rw (← add-one d, ← drop-drop 1 d, drop_put d (x / 16) (digit_of (x % 16) ∷ rest))

-- put before a rest is written in front of it
pub put_append : (d x : ℕ) (front rest : List ℕ) → put_digits d x (front ++ rest) ≡ put_digits d x front ++ rest
unfolding put_digits
put_append zero x front rest = refl
put_append (suc d) x front rest = put_append d (x / 16) (digit_of (x % 16) ∷ front) rest

-- stores in a row, the last of them first
sets_last : (t l : List ℕ) (i g : ℕ) → sets l i (t ++ (g ∷ [])) ≡ sets (set l (i + length t) g) i t
sets_last [] l i g = ap (λ (k : ℕ). set l k g) (sym (add-zero i))
sets_last (a ∷ t) l i g =
    sets_last t (set l i a) (suc i) g
    ∙ ap (λ (m : List ℕ). sets m (suc i) t)
    (ap (λ (k : ℕ). set (set l i a) k g) (suc-add i (length t) ∙ sym (add-suc i (length t)))
    ∙ set_comm l i (i + suc (length t)) a g (λ e. omega arith))

-- a turn of the loop that writes
pub sets_turn : (l : List ℕ) (at d x : ℕ) → sets l at (spelling (suc d) x) ≡ sets (set l (at + d) (digit_of (x % 16))) at (spelling d (x / 16))
sets_turn l at d x =
    ap (sets l at) (put_more d x [] ∙ put_append d (x / 16) [] (digit_of (x % 16) ∷ []))
    ∙ (sets_last (spelling d (x / 16)) l at (digit_of (x % 16))
    ∙ ap (λ (k : ℕ). sets (set l (at + k) (digit_of (x % 16))) at (spelling d (x / 16))) (length_put d (x / 16) [] ∙ add-zero d))

-- digits, and then a rest behind them, are the digits put before the rest
pub sets_before : (d x : ℕ) (l rest : List ℕ) (at : ℕ) → sets (sets l at (spelling d x)) (at + d) rest ≡ sets l at (put_digits d x rest)
unfolding put_digits
sets_before zero x l rest at = ap (λ (k : ℕ). sets l k rest) (add-zero at)
sets_before (suc d) x l rest at =
    ap (λ (m : List ℕ). sets m (at + suc d) rest) (sym (sets_before d (x / 16) l (digit_of (x % 16) ∷ []) at))
    ∙ (ap (λ (k : ℕ). sets (set (sets l at (spelling d (x / 16))) (at + d) (digit_of (x % 16))) k rest) (add-suc at d)
    ∙ sets_before d (x / 16) l (digit_of (x % 16) ∷ rest) at)
