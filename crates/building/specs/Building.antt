-- What build's steps ask and leave, and how its work ends.
use Rattle.rules.specs.declared.Counts.{Counts}
use Rattle.rules.specs.declared.Refusal.{Refusal}
use Rattle.rules.specs.Outcomes.{counted}
use Rattle.std.specs.Prelude.{Err, Ok, Result, ℕ, ◌*◌, ◌/◌, ◌≤◌, ◌<◌, ◌≡◌, List, Bool, cond, leb, length}
use Rattle.rules.specs.declared.Refusal.TheVariants.{EntryRoom}
use Rattle.rules.specs.Graph.{Graph}
use Rattle.rules.specs.Levels.{max_of}
use Rattle.rules.specs.Lists.{starts_of, order_of, entries_of}
use Rattle.rules.specs.Outcomes.{front, zeroed, BuildEnd}
use Rattle.top.specs.Tables.{ListsStored}

-- a build that is to end as o
pub record EndsAs (o e : BuildEnd) : Type 0 where
  pub result : e.result ≡ o.result
  pub levels : e.levels ≡ o.levels
  pub starts : e.starts ≡ o.starts
  pub order : e.order ≡ o.order
  pub entries : e.entries ≡ o.entries
  pub area : e.area ≡ o.area

-- the lists of a table can be written: it has so many classes, and there is room for the longest lists
pub record ListsReady (n labels k classes : ℕ) (edges t starts order area : List ℕ) : Type 0 where
  pub stored : ListsStored n labels k edges t area
  pub largest : classes ≡ max_of t
  pub starts_room : n * n < length starts
  pub order_room : n * n ≤ length order

-- the entries of a table have room
abbrev pub entries_fit : Graph → ℕ → List ℕ → List ℕ → Bool
entries_fit g k t entries = leb (length (entries_of g k t) / 2) (length entries / 2)

-- the lists of a table are written; 6 leaves the entries, and all else as for 0
pub record ListsWritten (n : ℕ) (g : Graph) (k : ℕ) (t starts order entries area : List ℕ) (r : Result Counts Refusal) (starts' order' entries' area' : List ℕ) : Type 0 where
  pub result : r
      ≡ cond (entries_fit g k t entries) (Ok (counted (max_of t) (length (order_of t)) (length (entries_of g k t) / 2))) (Err (EntryRoom (length (entries_of g k t) / 2)))
  pub starts_are : starts' ≡ front (starts_of t) starts
  pub order_are : order' ≡ front (order_of t) order
  pub entries_are : entries' ≡ cond (entries_fit g k t entries) (front (entries_of g k t) entries) entries
  pub area_is : area' ≡ zeroed n area
