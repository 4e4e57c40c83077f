-- The written conditions of the check, and its first fault: 15, 16 and 17 with their values.
use Rattle.std.specs.Prelude.{ℕ, zero, suc, ◌*◌, ◌<◌, min, ◌≡◌, List, Bool, true, ◌&&◌, ◌||◌, not, eqb, leb, ltb, length, get_or, take}
use Rattle.std.specs.Bool.{beq}
use Rattle.rules.specs.declared.Refusal.{Refusal}
use Rattle.rules.specs.declared.Refusal.TheVariants.{LevelFault, ListFault, EntryFault}
use Rattle.rules.specs.Finite.{first_below}
use Rattle.rules.specs.Graph.{Graph}
use Rattle.rules.specs.Rule.{Rule}
use Rattle.rules.specs.Levels.{connected_at, agree_at, max_of, first_of, level_of, built_levels, built_level}
use Rattle.rules.specs.Lists.{starts_of, order_of, entries_of}
use Rattle.rules.specs.Verdict.{Verdict, good, ◌or_else◌, when}

-- position p of a table t of n numbers is right: 0 exactly if p is not in, else at most one above the largest before it, and alike the first of its number
unfoldable pub number_ok : (ℕ → Bool) → (ℕ → ℕ → Bool) → ℕ → List ℕ → ℕ → Bool
number_ok is_in alike n t p =
    let c = get_or t p 0 in
    beq (eqb c 0) (not (is_in p)) && (eqb c 0 || (leb c (suc (max_of (take p t))) && alike p (first_of n t c)))

-- position p of level i is right, over the stored levels T
unfoldable pub level_ok : Rule → Graph → ℕ → (ℕ → List ℕ) → ℕ → Bool
level_ok ρ g i T p = number_ok (connected_at g i) (agree_at ρ g i T) (g.items * g.items) (T i) p

-- level i is right at each position
unfoldable pub LevelAccepted : Rule → Graph → ℕ → (ℕ → List ℕ) → Type 0
LevelAccepted ρ g i T = (p : ℕ) → p < g.items * g.items → level_ok ρ g i T p ≡ true

-- levels 1 to k are right
unfoldable pub LevelsAccepted : Rule → Graph → ℕ → (ℕ → List ℕ) → Type 0
LevelsAccepted ρ g k T = (i : ℕ) → i < k → LevelAccepted ρ g (suc i) T

-- the first faulty position of level i, or V²
unfoldable pub first_fault : Rule → Graph → ℕ → (ℕ → List ℕ) → ℕ
first_fault ρ g i T = first_below (g.items * g.items) (λ p. not (level_ok ρ g i T p))

-- 15, level by level: the first faulty level, and its first faulty position
unfoldable pub levels_right : Rule → Graph → ℕ → (ℕ → List ℕ) → Verdict
levels_right ρ g zero T = good
levels_right ρ g (suc i) T =
    levels_right ρ g i T or_else when (ltb (first_fault ρ g (suc i) T) (g.items * g.items)) (LevelFault (suc i) (first_fault ρ g (suc i) T))

-- the first number at which two lists differ, or the shorter length where one begins the other
unfoldable pub difference : List ℕ → List ℕ → ℕ
difference xs ys = first_below (min (length xs) (length ys)) (λ j. not (eqb (get_or xs j 0) (get_or ys j 0)))

-- refused unless the two lists are the same, with the index of the difference
unfoldable pub same_list : List ℕ → List ℕ → (ℕ → Refusal) → Verdict
same_list xs ys refusal =
    when (not (eqb (difference xs ys) (length xs) && eqb (difference xs ys) (length ys))) (refusal (difference xs ys))

-- an index: the sizes that it is made for, and its four tables
pub record Index : Type 0 where
  pub items : ℕ
  pub labels : ℕ
  pub k : ℕ
  pub levels : List ℕ
  pub starts : List ℕ
  pub order : List ℕ
  pub entries : List ℕ

-- the level-k table of an index
unfoldable pub top_of : Index → List ℕ
top_of x = level_of x.items x.levels x.k

-- 15, then 16 for starts, then 16 for order, then 17
unfoldable pub accepts : Rule → Graph → Index → Verdict
accepts ρ g x =
    levels_right ρ g x.k (level_of x.items x.levels)
    or_else same_list (starts_of (top_of x)) x.starts (ListFault 1)
    or_else same_list (order_of (top_of x)) x.order (ListFault 2)
    or_else same_list (entries_of g x.k (top_of x)) x.entries EntryFault

-- the written conditions: every level right, and starts, order and entries exactly the lists that the stored level k gives
pub record Conditions (ρ : Rule) (g : Graph) (x : Index) : Type 0 where
  pub levels : LevelsAccepted ρ g x.k (level_of x.items x.levels)
  pub starts : starts_of (top_of x) ≡ x.starts
  pub order : order_of (top_of x) ≡ x.order
  pub entries : entries_of g x.k (top_of x) ≡ x.entries

-- the index that build writes
unfoldable pub built_index : Rule → Graph → ℕ → Index
built_index ρ g k =
    let top = built_level ρ g k in
    record {
      items = g.items;
      labels = g.labels;
      k = k;
      levels = built_levels ρ g k;
      starts = starts_of top;
      order = order_of top;
      entries = entries_of g k top;
    }
