-- Which lines are an input of the program, apart from any reader: one 01, then 02s, then 03s. It says the stage at which the input ends.
use Rattle.std.specs.Prelude.{ℕ, ◌*◌, ◌≤◌, ◌<◌, ◌≡◌, List, [], ◌∷◌, ◌++◌, length}
use Rattle.format.specs.declared.Frame.TheVariants.{Sizes, Edge, Query}
use Rattle.format.specs.Frames.{frame_of}
use Rattle.machine.specs.Machine.{most_items, most_edges, most_digits, Stage, gathering, answering, stopped, builds}

-- 03s to the end; where the tables were refused, the rest is unread
pub data Queries : Stage → List (List ℕ) → Stage → Type 0 where
  over : {items labels : ℕ} {table entries : List ℕ} → Queries (answering items labels table entries) [] (answering items labels table entries)
  asks : {items labels : ℕ} {table entries line : List ℕ} {lines : List (List ℕ)} {s : Stage} → length line ≤ most_digits → frame_of line ≡ Query
      → Queries (answering items labels table entries) lines s → Queries (answering items labels table entries) (line ∷ lines) s
  unread : {lines : List (List ℕ)} → Queries stopped lines stopped

-- 02s, at most 1,024, and then 03s; the tables are built at the first
pub data Edges (items labels k : ℕ) : List ℕ → List (List ℕ) → Stage → Type 0 where
  over : {edges : List ℕ} → Edges items labels k edges [] (gathering items labels k edges)
  adds : {edges line : List ℕ} {lines : List (List ℕ)} {s : Stage} (source target label : ℕ) → length line ≤ most_digits → frame_of line ≡ Edge source target label
      → length edges < 3 * most_edges → Edges items labels k (edges ++ (source ∷ target ∷ label ∷ [])) lines s → Edges items labels k edges (line ∷ lines) s
  asks : {edges line : List ℕ} {lines : List (List ℕ)} {s : Stage} → length line ≤ most_digits → frame_of line ≡ Query
      → Queries (builds items labels k edges).stage lines s → Edges items labels k edges (line ∷ lines) s

-- one 01 with V at most 32, and then the others
pub data Input : List (List ℕ) → Stage → Type 0 where
  opens : {line : List ℕ} {lines : List (List ℕ)} {s : Stage} (items labels k : ℕ) → length line ≤ most_digits → frame_of line ≡ Sizes items labels k → items ≤ most_items
      → Edges items labels k [] lines s → Input (line ∷ lines) s
