-- The level tables: agreement of two pairs over the levels below, and the numbering of classes by first pair.
use Rattle.std.specs.Prelude.{ℕ, zero, suc, pred, ◌+◌, ◌*◌, ◌/◌, ◌%◌, max, List, [], ◌∷◌, ◌++◌, Bool, ◌&&◌, ◌||◌, cond, eqb, ltb, get_or}
use Rattle.std.specs.Bool.{beq}
use Rattle.std.proofs.Math.Seq.{slice}
use Rattle.rules.specs.Finite.{any_below, all_below, first_below}
use Rattle.rules.specs.Graph.{Graph, leads, connected}
use Rattle.rules.specs.Rule.{Rule}

-- the number of the pair (v,u), at position v·n+u, in the table t of n items
unfoldable pub number_at : ℕ → List ℕ → ℕ → ℕ → ℕ
number_at n t v u = get_or t (v * n + u) 0

-- A: v=u exactly when x=y
unfoldable pub same_ends : Graph → ℕ → ℕ → ℕ → ℕ → Bool
same_ends g v u x y = beq (eqb v u) (eqb x y)

-- B: exactly the same step symbols lead from v to u as from x to y
unfoldable pub same_steps : Graph → ℕ → ℕ → ℕ → ℕ → Bool
same_steps g v u x y = all_below (2 * g.labels) (λ s. beq (leads g (suc s) v u) (leads g (suc s) x y))

-- w is to (x,y) what m is to (v,u): first halves by the table s, second halves by the table t
unfoldable pub is_twin : ℕ → List ℕ → List ℕ → ℕ → ℕ → ℕ → ℕ → ℕ → ℕ → Bool
is_twin n s t v u x y m w = eqb (number_at n s x w) (number_at n s v m) && eqb (number_at n t w y) (number_at n t m u)

-- m is no midpoint of (v,u), or has a twin among the midpoints of (x,y)
unfoldable pub has_twin : ℕ → List ℕ → List ℕ → ℕ → ℕ → ℕ → ℕ → ℕ → Bool
has_twin n s t v u x y m = (eqb (number_at n s v m) 0 || eqb (number_at n t m u) 0) || any_below n (is_twin n s t v u x y m)

-- each midpoint of (v,u) has a twin among those of (x,y)
unfoldable pub twins : ℕ → List ℕ → List ℕ → ℕ → ℕ → ℕ → ℕ → Bool
twins n s t v u x y = all_below n (has_twin n s t v u x y)

-- C for split c of level i, and the same the other way round
unfoldable pub split_ok : Rule → Graph → ℕ → (ℕ → List ℕ) → ℕ → ℕ → ℕ → ℕ → ℕ → Bool
split_ok ρ g i T v u x y c =
    twins g.items (T (ρ.first i c)) (T (ρ.second i c)) v u x y && twins g.items (T (ρ.first i c)) (T (ρ.second i c)) x y v u

-- A, B and C at level i, over the tables T of the levels below
unfoldable pub agree : Rule → Graph → ℕ → (ℕ → List ℕ) → ℕ → ℕ → ℕ → ℕ → Bool
agree ρ g i T v u x y = same_ends g v u x y && same_steps g v u x y && all_below (ρ.many i) (split_ok ρ g i T v u x y)

-- agreement of the pairs at two positions
unfoldable pub agree_at : Rule → Graph → ℕ → (ℕ → List ℕ) → ℕ → ℕ → Bool
agree_at ρ g i T p q = agree ρ g i T (p / g.items) (p % g.items) (q / g.items) (q % g.items)

-- the pair at a position is connected within i
unfoldable pub connected_at : Graph → ℕ → ℕ → Bool
connected_at g i p = connected g i (p / g.items) (p % g.items)

-- the largest number of a list
unfoldable pub max_of : List ℕ → ℕ
max_of [] = 0
max_of (x ∷ xs) = max x (max_of xs)

-- the first of n positions that has number c in the table t, or n
unfoldable pub first_of : ℕ → List ℕ → ℕ → ℕ
first_of n t c = first_below n (λ p. eqb (get_or t p 0) c)

-- q is in, and alike p
unfoldable pub matches : (ℕ → Bool) → (ℕ → ℕ → Bool) → ℕ → ℕ → Bool
matches is_in alike p q = is_in q && alike q p

-- the number of position p, given the numbers before it: 0 where it is not in, that of the first earlier position alike, or a new one
unfoldable pub next_number : (ℕ → Bool) → (ℕ → ℕ → Bool) → List ℕ → ℕ → ℕ
next_number is_in alike numbers p =
    let f = first_below p (matches is_in alike p) in
    cond (is_in p) (cond (ltb f p) (get_or numbers f 0) (suc (max_of numbers))) 0

-- the numbers of the first n positions: classes are numbered from 1 by their first pair in order of position
unfoldable pub numbering : (ℕ → Bool) → (ℕ → ℕ → Bool) → ℕ → List ℕ
numbering is_in alike zero = []
numbering is_in alike (suc p) = let ns = numbering is_in alike p in ns ++ (next_number is_in alike ns p ∷ [])

-- level i of the level tables, V² numbers for each level, level 1 first; level 0 is empty
unfoldable pub level_of : ℕ → List ℕ → ℕ → List ℕ
level_of n levels i = slice (pred i * (n * n)) (i * (n * n)) levels

-- levels one behind the other, each made over those before it
unfoldable pub stack : (ℕ → List ℕ → List ℕ) → ℕ → List ℕ
stack f zero = []
stack f (suc i) = let ls = stack f i in ls ++ f (suc i) ls

-- level i over the levels below: the connected pairs, numbered by agreement
unfoldable pub level_over : Rule → Graph → ℕ → List ℕ → List ℕ
level_over ρ g i levels = numbering (connected_at g i) (agree_at ρ g i (level_of g.items levels)) (g.items * g.items)

-- the level tables that build writes
unfoldable pub built_levels : Rule → Graph → ℕ → List ℕ
built_levels ρ g = stack (level_over ρ g)

-- the table of level i that build writes
unfoldable pub built_level : Rule → Graph → ℕ → List ℕ
built_level ρ g i = level_of g.items (built_levels ρ g i) i
