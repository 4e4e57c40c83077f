-- A refusal or none, and the tests that several entries share. An entry's order of refusals is a chain of these.
use Rattle.std.specs.Prelude.{ℕ, ◌+◌, ◌*◌, ◌/◌, ◌%◌, List, Bool, ◌||◌, not, cond, eqb, leb, ltb, length, get_or}
use Rattle.rules.specs.declared.Refusal.{Refusal}
use Rattle.rules.specs.declared.Refusal.TheVariants.{Sizes, LevelCount, EdgeCount, Edge, Room, TooLong, Unknown}
use Rattle.rules.specs.Finite.{first_below}
use Rattle.rules.specs.Query.{Query, atom, identity, diameter}
use Rattle.rules.specs.Reading.{Reading, asks, fault}

infixr 20 ◌or_else◌
pub data Verdict : Type 0 where
  good : Verdict
  refuse : Refusal → Verdict

-- the first refusal of a chain
unfoldable pub ◌or_else◌ : Verdict → Verdict → Verdict
good or_else next = next
(refuse r) or_else next = refuse r

-- refused when the test holds
unfoldable pub when : Bool → Refusal → Verdict
when b r = cond b (refuse r) good

-- 1: V above 128, L not 1..8
unfoldable pub sizes : ℕ → ℕ → Verdict
sizes items labels = when (ltb 128 items || (eqb labels 0 || ltb 8 labels)) Sizes

-- 2: k not 1..4
unfoldable pub level_count : ℕ → Verdict
level_count k = when (eqb k 0 || ltb 4 k) LevelCount

-- 3: edge numbers not a multiple of 3, or over 4,096 edges
unfoldable pub edge_count : List ℕ → Verdict
edge_count edges = when (not (eqb (length edges % 3) 0) || ltb 12288 (length edges)) EdgeCount

-- an item or the label of edge e is too large
unfoldable pub bad_edge : ℕ → ℕ → List ℕ → ℕ → Bool
bad_edge items labels edges e =
    leb items (get_or edges (3 * e) 0) || (leb items (get_or edges (3 * e + 1) 0) || leb labels (get_or edges (3 * e + 2) 0))

-- the first such edge, or as many as there are
unfoldable pub first_bad : ℕ → ℕ → List ℕ → ℕ
first_bad items labels edges = first_below (length edges / 3) (bad_edge items labels edges)

-- 4: an edge's item or label too large; the first such edge
unfoldable pub edges_fit : ℕ → ℕ → List ℕ → Verdict
edges_fit items labels edges = when (ltb (first_bad items labels edges) (length edges / 3)) (Edge (first_bad items labels edges))

-- 5: fewer numbers lent than are needed
unfoldable pub room : List ℕ → ℕ → Verdict
room lent needed = when (ltb (length lent) needed) Room

-- 7 to 11: what was found in reading the query
unfoldable pub well_read : Reading → Verdict
well_read (asks q) = good
well_read (fault r) = refuse r

-- the query that was read
unfoldable pub query_of : Reading → Query
query_of (asks q) = q
query_of (fault r) = atom identity

-- 12 for the class answer: diameter over k
unfoldable pub within_diameter : ℕ → Query → Verdict
within_diameter k q = when (ltb k (diameter q)) TooLong

-- 12 for lookup: over 4 symbols
unfoldable pub few_symbols : List ℕ → Verdict
few_symbols symbols = when (ltb 4 (length symbols)) TooLong

-- 8 for lookup: the first symbol not 1..16
unfoldable pub known_symbols : List ℕ → Verdict
known_symbols symbols =
    let bad = first_below (length symbols) (λ i. eqb (get_or symbols i 0) 0 || ltb 16 (get_or symbols i 0)) in
    when (ltb bad (length symbols)) (Unknown bad)
