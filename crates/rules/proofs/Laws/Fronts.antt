-- A list written at the front of a lent one.
use Prim.Native.Nat.{ℕ, ◌≤◌, ◌<◌}
use mathlib.Core.Path.{◌≡◌, ◌∙◌}
use mathlib.Core.List.{List}
use native.Mathlib.Omega.{arith}
use lib.ListN.{length, get_or, take, drop, length-append, length-drop, get_or-append}
use lib.Seq.{take_at}
use Rattle.rules.specs.Outcomes.{front}

pub front_take : (list old : List ℕ) (n : ℕ) → length list ≡ n → take n (front list old) ≡ list
unfolding front
front_take list old n e = take_at list (drop (length list) old) n e

pub front_length : (list old : List ℕ) → length list ≤ length old → length (front list old) ≡ length old
unfolding front
front_length list old h = length-append list (drop (length list) old) ∙ omega (arith, length-drop (length list) old)

pub front_in : (list old : List ℕ) (j : ℕ) → j < length list → get_or (front list old) j 0 ≡ get_or list j 0
unfolding front
front_in list old j h = get_or-append list (drop (length list) old) 0 j h
