-- How contracts of the crates above say what a loop has written. None of this is of document 01; the outcomes of the entries do not use it.
use Rattle.std.specs.Prelude.{ℕ, zero, suc, ◌+◌, ◌*◌, List, ◌++◌, length, set, take, drop}

-- w with f 0, f 1, .. f (k-1) at b, b+1, ..
unfoldable pub fill : List ℕ → ℕ → ℕ → (ℕ → ℕ) → List ℕ
fill w b zero f = w
fill w b (suc k) f = set (fill w b k f) (b + k) (f k)

-- w with m rows of n numbers from b on, f v u at row v, column u
unfoldable pub rows : List ℕ → ℕ → ℕ → ℕ → (ℕ → ℕ → ℕ) → List ℕ
rows w b n zero f = w
rows w b n (suc v) f = fill (rows w b n v f) (b + v * n) n (f v)

-- l with the list s written over it from place `at` on
unfoldable pub put : List ℕ → ℕ → List ℕ → List ℕ
put l at s = take at l ++ (s ++ drop (at + length s) l)
