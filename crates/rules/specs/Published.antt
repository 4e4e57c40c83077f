-- The published definitions as types, beside the tests of the other files: source document 001, section III.B, Definitions 4.1 and 4.3, as document 01 writes them out.
use Rattle.std.specs.Prelude.{ℕ, suc, ◌+◌, ◌*◌, ◌/◌, ◌≤◌, ◌<◌, ◌≡◌, ◌↔◌, List, [], ◌∷◌, true, length, get_or}
use Rattle.rules.specs.Graph.{Graph}
use Rattle.rules.specs.Rule.{Rule}
use Rattle.rules.specs.Query.{Atom, identity, step, Query, atom, join, both}

-- an edge from v to u along label l stands in the edge table
pub record InTable (edges : List ℕ) (v u l : ℕ) : Type 0 where
  pub at : ℕ
  pub in_table : at < length edges / 3
  pub source : get_or edges (3 * at) 0 ≡ v
  pub target : get_or edges (3 * at + 1) 0 ≡ u
  pub label : get_or edges (3 * at + 2) 0 ≡ l

-- a step: along label l, an edge from v to u; against it, an edge from u to v
pub data Step (g : Graph) : ℕ → ℕ → ℕ → Type 0 where
  along : {s v u : ℕ} (l : ℕ) → s ≡ 2 * l + 1 → g.edge v u l ≡ true → Step g s v u
  against : {s v u : ℕ} (l : ℕ) → s ≡ 2 * l + 2 → g.edge u v l ≡ true → Step g s v u

-- what an atom holds
unfoldable pub Holds : Graph → Atom → ℕ → ℕ → Type 0
Holds g identity v u = v ≡ u
Holds g (step s) v u = Step g s v u

-- the pair (v,u) meets the query
unfoldable pub Meets : Graph → Query → ℕ → ℕ → Type 0
Meets g (atom a) v u = Holds g a v u
Meets g (join p q) v u = (m : ℕ) × (m < g.items) × Meets g p v m × Meets g q m u
Meets g (both p q) v u = Meets g p v u × Meets g q v u

-- the step symbols of l labels are 1..2l
unfoldable pub AtomFormed : ℕ → Atom → Type 0
AtomFormed l identity = Unit {0}
AtomFormed l (step s) = (0 < s) × (s ≤ 2 * l)

-- a query over l labels
unfoldable pub WellFormed : ℕ → Query → Type 0
WellFormed l (atom a) = AtomFormed l a
WellFormed l (join p q) = WellFormed l p × WellFormed l q
WellFormed l (both p q) = WellFormed l p × WellFormed l q

-- a walk of at most i steps from v to u
pub data Walk (g : Graph) (v : ℕ) : ℕ → ℕ → Type 0 where
  stay : {i : ℕ} → Walk g v i v
  further : {i m u : ℕ} (s : ℕ) → Walk g v i m → m < g.items → 0 < s → s ≤ 2 * g.labels → Step g s m u → Walk g v (suc i) u

-- Definition 4.1, first condition
pub record SameEnds (g : Graph) (v u x y : ℕ) : Type 0 where
  pub equal : (v ≡ u) ↔ (x ≡ y)

-- second condition
pub record SameSteps (g : Graph) (v u x y : ℕ) : Type 0 where
  pub steps : (s : ℕ) → 0 < s → s ≤ 2 * g.labels → Step g s v u ↔ Step g s x y

-- (v,u) and (x,y) are path-bisimilar at level i; third condition by twins, there and back
mutual
  pub data Bisimilar (ρ : Rule) (g : Graph) : ℕ → ℕ → ℕ → ℕ → ℕ → Type 0 where
    alike : {i v u x y : ℕ} → SameEnds g v u x y → SameSteps g v u x y
        → ((c m : ℕ) → c < ρ.many i → m < g.items → Walk g v (ρ.first i c) m → Walk g m (ρ.second i c) u → Twin ρ g (ρ.first i c) (ρ.second i c) v m u x y)
        → ((c m : ℕ) → c < ρ.many i → m < g.items → Walk g x (ρ.first i c) m → Walk g m (ρ.second i c) y → Twin ρ g (ρ.first i c) (ρ.second i c) x m y v u)
        → Bisimilar ρ g i v u x y

  -- a midpoint w of (x,y) that is to it what m is to (v,u): first halves at level a, second halves at level b
  pub data Twin (ρ : Rule) (g : Graph) : ℕ → ℕ → ℕ → ℕ → ℕ → ℕ → ℕ → Type 0 where
    twin : {a b v m u x y : ℕ} (w : ℕ) → w < g.items → Walk g x a w → Walk g w b y
        → Bisimilar ρ g a v m x w → Bisimilar ρ g b m u w y → Twin ρ g a b v m u x y

-- a sequence of symbols joins v to u: Definition 4.3 lists a class under each sequence that joins its pairs
pub data Joined (g : Graph) : List ℕ → ℕ → ℕ → Type 0 where
  here : {v : ℕ} → Joined g [] v v
  along_first : {s v u : ℕ} {symbols : List ℕ} (m : ℕ) → m < g.items → Step g s v m → Joined g symbols m u → Joined g (s ∷ symbols) v u

-- a sequence of symbols of l labels
pub data Symbols (l : ℕ) : List ℕ → Type 0 where
  end : Symbols l []
  symbol : {s : ℕ} {symbols : List ℕ} → 0 < s → s ≤ 2 * l → Symbols l symbols → Symbols l (s ∷ symbols)
