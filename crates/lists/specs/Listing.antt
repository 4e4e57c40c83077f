-- Listing all entries of a table: what it asks of the table and the area, and what it leaves of the entry list.
use Rattle.std.specs.Prelude.{ℕ, ◌*◌, ◌/◌, ◌≤◌, ◌<◌, ◌≡◌, List, ◌++◌, length, drop}
use Rattle.rules.specs.Accept.{difference}

-- what listing all entries asks
pub record Listing (t : List ℕ) (labels n k : ℕ) (w : List ℕ) : Type 0 where
  pub labelled : labels ≤ 8
  pub small : n ≤ 128
  pub square : length t ≡ n * n
  pub short : k ≤ 4
  pub area : 9 * (n * n) ≤ length w

-- r is the number of the entries es, and they stand at the front if there is room for all of them; else nothing is written
pub record Listed (r : ℕ) (es old new : List ℕ) : Type 0 where
  pub count : 2 * r ≡ length es
  pub text : r ≤ length old / 2 → new ≡ es ++ drop (length es) old
  pub none : length old / 2 < r → new ≡ old

-- r is the number of the entries es, and met the first number at which they differ from the stored list
pub record Compared (r met : ℕ) (es stored : List ℕ) : Type 0 where
  pub count : 2 * r ≡ length es
  pub first : met ≡ difference es stored
