-- A list with a part written over, one element more at a time.
use Prim.Native.Nat.{ℕ, suc, ◌+◌, ◌≤◌, ◌<◌}
use mathlib.Core.Path.{◌≡◌, ◌∙◌}
use mathlib.Core.List.{List, [], ◌∷◌, ◌++◌, append_assoc}
use native.Mathlib.Nat.{add-zero}
use native.Mathlib.Omega.{arith}
use lib.ListN.{length, get_or, take, drop, set, length-append, length-take, length-drop, take-append-drop}
use lib.Seq.{length-take-le, set_at, take_at, drop_at, drop-cons}
use Rattle.rules.specs.Writing.{put}

pub length_snoc : (s : List ℕ) (k : ℕ) → length (s ++ (k ∷ [])) ≡ length s + 1
length_snoc s k = length-append s (k ∷ [])

module _ (l : List ℕ) (at : ℕ) where
  pub put_none : put l at [] ≡ l
  unfolding put
  put_none = rw (add-zero) (take-append-drop at l)

  pub length_put : (s : List ℕ) → at + length s ≤ length l → length (put l at s) ≡ length l
  unfolding put
  length_put s h = simp (length-append, length-take, length-drop) (omega arith)

  pub put_more : (s : List ℕ) (p k : ℕ) → length s ≡ p → at + p < length l → set (put l at s) (at + p) k ≡ put l at (s ++ (k ∷ []))
  unfolding put
  put_more s p k e h =
      let at_end = at + length s in
      let rest = drop (suc at_end) l in
      let y = get_or l at_end 0 in
      let d : drop at_end l ≡ y ∷ rest = drop-cons l at_end 0 (omega (arith, e)) in
      let n : at + length (s ++ (k ∷ [])) ≡ suc at_end = omega (arith, length_snoc s k) in
      let i : length (take at l ++ s) ≡ at + p = length-append (take at l) s ∙ omega (arith, length-take-le at l (omega arith), e) in
      rw (n, append_assoc s (k ∷ []) rest, d, ← append_assoc (take at l) s (y ∷ rest), set_at (take at l ++ s) y rest k (at + p) i)
      (append_assoc (take at l) s (k ∷ rest))

  pub put_read : (s : List ℕ) (p : ℕ) → length s ≡ p → at ≤ length l → take p (drop at (put l at s)) ≡ s
  unfolding put
  put_read s p e h = rw (drop_at (take at l) (s ++ drop (at + length s) l) at (length-take-le at l h), take_at s (drop (at + length s) l) p e)
