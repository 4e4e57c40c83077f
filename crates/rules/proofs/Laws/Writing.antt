-- A list after k stores in a row, and after m rows of n stores.
use Prim.Native.Nat.{ℕ, zero, suc, ◌+◌, ◌*◌, ◌≤◌, ◌<◌}
use mathlib.Core.Path.{◌≡◌, refl, sym, ap, ◌∙◌}
use mathlib.Core.List.{List}
use native.Mathlib.Nat.{suc-mul, zero-mul, not-suc-le-zero, zero-add, add-zero, add-suc, add_assoc}
use native.Mathlib.Decide.{dec_lt}
use native.Mathlib.Omega.{arith}
use native.Mathlib.Numerals.{add-one}
use lib.ListN.{length, get_or, set, length-set, replicate}
use lib.Seq.{get_or-set_same, get_or-set_other}
use Rattle.rules.specs.Writing.{fill, rows}
use Rattle.rules.proofs.Laws.Places.{row_fits}

pub length_fill : (w : List ℕ) (b k : ℕ) (f : ℕ → ℕ) → length (fill w b k f) ≡ length w
unfolding fill
length_fill w b zero f = refl
length_fill w b (suc k) f = length-set (fill w b k f) (b + k) (f k) ∙ length_fill w b k f

pub get_or_fill_other : (w : List ℕ) (b k : ℕ) (f : ℕ → ℕ) (j : ℕ) → ((i : ℕ) → i < k → j ≡ b + i → ⊥) → get_or (fill w b k f) j 0 ≡ get_or w j 0
unfolding fill
get_or_fill_other w b zero f j h = refl
get_or_fill_other w b (suc k) f j h =
    get_or-set_other (fill w b k f) (b + k) j (f k) 0 (h k (omega arith))
    ∙ get_or_fill_other w b k f j (λ i l. h i (omega arith))

pub get_or_fill_in : (w : List ℕ) (b k : ℕ) (f : ℕ → ℕ) (i : ℕ) → i < k → b + k ≤ length w → get_or (fill w b k f) (b + i) 0 ≡ f i
unfolding fill
get_or_fill_in w b zero f i h r = absurd (not-suc-le-zero h)
get_or_fill_in w b (suc k) f i h r = go (get_or_fill_in w b k f i) (dec_lt i k)
  where
    go : (i < k → b + k ≤ length w → get_or (fill w b k f) (b + i) 0 ≡ f i) → Dec (i < k) → get_or (set (fill w b k f) (b + k) (f k)) (b + i) 0 ≡ f i
    go ih (yes l) = get_or-set_other (fill w b k f) (b + k) (b + i) (f k) 0 (λ e. omega arith) ∙ ih l (omega arith)
    go ih (no l) =
        let e : i ≡ k = omega arith in
        rw e (get_or-set_same (fill w b k f) (b + k) (f k) 0 (omega (arith, length_fill w b k f)))

pub fill_ext : (w : List ℕ) (b k : ℕ) (f g : ℕ → ℕ) → ((i : ℕ) → i < k → f i ≡ g i) → fill w b k f ≡ fill w b k g
unfolding fill
fill_ext w b zero f g h = refl
fill_ext w b (suc k) f g h =
    rw (h k (omega arith)) (ap (λ (l : List ℕ). set l (b + k) (g k)) (fill_ext w b k f g (λ i l. h i (omega arith))))

pub length_rows : (w : List ℕ) (b n m : ℕ) (f : ℕ → ℕ → ℕ) → length (rows w b n m f) ≡ length w
unfolding rows
length_rows w b n zero f = refl
length_rows w b n (suc m) f = length_fill (rows w b n m f) (b + m * n) n (f m) ∙ length_rows w b n m f

pub get_or_rows_other : (w : List ℕ) (b n m : ℕ) (f : ℕ → ℕ → ℕ) (j : ℕ) → ((v u : ℕ) → v < m → u < n → j ≡ b + v * n + u → ⊥)
    → get_or (rows w b n m f) j 0 ≡ get_or w j 0
unfolding rows
get_or_rows_other w b n zero f j h = refl
get_or_rows_other w b n (suc m) f j h =
    get_or_fill_other (rows w b n m f) (b + m * n) n (f m) j (λ u l. h m u (omega arith) l)
    ∙ get_or_rows_other w b n m f j (λ v u l k. h v u (omega arith) k)

pub get_or_rows_below : (w : List ℕ) (b n m : ℕ) (f : ℕ → ℕ → ℕ) (j : ℕ) → j < b → get_or (rows w b n m f) j 0 ≡ get_or w j 0
get_or_rows_below w b n m f j h = get_or_rows_other w b n m f j (λ v u l k e. omega arith)

pub get_or_rows_above : (w : List ℕ) (b n m : ℕ) (f : ℕ → ℕ → ℕ) (j : ℕ) → b + m * n ≤ j → get_or (rows w b n m f) j 0 ≡ get_or w j 0
get_or_rows_above w b n m f j h = get_or_rows_other w b n m f j (λ v u l k e. omega (arith, row_fits n l))

pub get_or_rows_in : (w : List ℕ) (b n m : ℕ) (f : ℕ → ℕ → ℕ) (v u : ℕ) → v < m → u < n → b + m * n ≤ length w
    → get_or (rows w b n m f) (b + v * n + u) 0 ≡ f v u
unfolding rows
get_or_rows_in w b n zero f v u h l r = absurd (not-suc-le-zero h)
get_or_rows_in w b n (suc m) f v u h l r = go (get_or_rows_in w b n m f v u) (dec_lt v m)
  where
    r' : b + (m * n + n) ≤ length w
    r' = rw suc-mul at r

    go : (v < m → u < n → b + m * n ≤ length w → get_or (rows w b n m f) (b + v * n + u) 0 ≡ f v u) → Dec (v < m)
        → get_or (fill (rows w b n m f) (b + m * n) n (f m)) (b + v * n + u) 0 ≡ f v u
    go ih (yes k) =
        get_or_fill_other (rows w b n m f) (b + m * n) n (f m) (b + v * n + u) (λ i q e. omega (arith, row_fits n k))
        ∙ ih k l (omega (arith, r'))
    go ih (no k) =
        let e : v ≡ m = omega arith in
        rw e (get_or_fill_in (rows w b n m f) (b + m * n) n (f m) u l (omega (arith, r', length_rows w b n m f)))

pub rows_ext : (w : List ℕ) (b n m : ℕ) (f g : ℕ → ℕ → ℕ) → ((v u : ℕ) → v < m → u < n → f v u ≡ g v u) → rows w b n m f ≡ rows w b n m g
unfolding rows
rows_ext w b n zero f g h = refl
rows_ext w b n (suc m) f g h =
    ap (λ (l : List ℕ). fill l (b + m * n) n (f m)) (rows_ext w b n m f g (λ v u l k. h v u (omega arith) k))
    ∙ fill_ext (rows w b n m g) (b + m * n) n (f m) (g m) (λ u l. h m u (omega arith) l)

-- a loop's start, its turn, and its end
pub fill_none : (w : List ℕ) (b : ℕ) (f : ℕ → ℕ) → w ≡ fill w b 0 f
unfolding fill
fill_none w b f = refl

pub fill_more : (w : List ℕ) (b k : ℕ) (f : ℕ → ℕ) (r : List ℕ) (j x : ℕ) → r ≡ fill w b k f → j ≡ b + k → x ≡ f k → set r j x ≡ fill w b (k + 1) f
unfolding fill
fill_more w b k f r j x e ej ex = rw (add-one, e, ej, ex)

pub rows_none : (w : List ℕ) (b n : ℕ) (f : ℕ → ℕ → ℕ) → w ≡ rows w b n 0 f
unfolding rows
rows_none w b n f = refl

-- what a turn of the outer loop writes may be said of the list as the turn began
pub rows_more : (w : List ℕ) (b n v : ℕ) (f : ℕ → ℕ → ℕ) (r : List ℕ) (j : ℕ) (g : ℕ → ℕ) (r' : List ℕ)
    → r ≡ rows w b n v f → r' ≡ fill r j n g → j ≡ b + v * n → ((u : ℕ) → u < n → g u ≡ f v u) → r' ≡ rows w b n (v + 1) f
unfolding rows
rows_more w b n v f r j g r' e e' ej eg = e' ∙ rw (add-one, e, ej) (fill_ext (rows w b n v f) (b + v * n) n g (f v) eg)

-- the same from the list's start
pub get_or_fill_front : (w : List ℕ) (k : ℕ) (f : ℕ → ℕ) (i : ℕ) → i < k → k ≤ length w → get_or (fill w 0 k f) i 0 ≡ f i
get_or_fill_front w k f i h l = rw zero-add at (get_or_fill_in w 0 k f i h (omega arith))

pub get_or_zeros : (n i : ℕ) → get_or {A = ℕ} (replicate n 0) i 0 ≡ 0
get_or_zeros zero i = refl
get_or_zeros (suc n) zero = refl
get_or_zeros (suc n) (suc i) = get_or_zeros n i

-- a flat run is rows
pub fill_add : (w : List ℕ) (b k j : ℕ) (f : ℕ → ℕ) → fill w b (k + j) f ≡ fill (fill w b k f) (b + k) j (λ i. f (k + i))
unfolding fill
fill_add w b k zero f = rw add-zero
fill_add w b k (suc j) f = rw (add-suc, add_assoc) (ap (λ (l : List ℕ). set l (b + (k + j)) (f (k + j))) (fill_add w b k j f))

pub fill_rows : (w : List ℕ) (b n m : ℕ) (f : ℕ → ℕ) → fill w b (m * n) f ≡ rows w b n m (λ v u. f (v * n + u))
unfolding rows
fill_rows w b n zero f = rw zero-mul (sym (fill_none w b f))
fill_rows w b n (suc m) f =
    rw (suc-mul, fill_add) (ap (λ (l : List ℕ). fill l (b + m * n) n (λ i. f (m * n + i))) (fill_rows w b n m f))
