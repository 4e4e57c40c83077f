-- The level tables as one list.
use Prim.Native.Nat.{ℕ, zero, suc, pred, ◌+◌, ◌*◌, ◌/◌, ◌%◌, ◌≤◌, ◌<◌}
use mathlib.Core.Path.{◌≡◌, sym, ap, ◌∙◌, fun_ext}
use mathlib.Core.Logic.{⊎_elim}
use mathlib.Core.Bool.{Bool}
use mathlib.Core.List.{List, ◌++◌}
use native.Mathlib.Nat.{suc-mul, mul-le-mul_right, eq-or-lt_of_le, zero-mul}
use native.Mathlib.Omega.{arith}
use lib.ListN.{length, get_or, take, drop, length-append}
use lib.Seq.{get_or-drop, get_or-take, length-slice, take_all, take-append-le, drop_at}
use Rattle.rules.specs.Graph.{Graph}
use Rattle.rules.specs.Rule.{Rule, RuleLaws}
use Rattle.rules.specs.Levels.{number_at, numbering, connected_at, agree_at, level_of, stack, level_over, built_levels, built_level}
use Rattle.rules.proofs.Laws.Numbering.{numbering_length}
use Rattle.rules.proofs.Laws.Agree.{agree_below}
use Rattle.rules.proofs.Laws.Places.{place_lt}

pub level_get : (n : ℕ) (ls : List ℕ) (i p : ℕ) → p < n * n → get_or (level_of n ls (suc i)) p 0 ≡ get_or ls (i * (n * n) + p) 0
unfolding level_of
level_get n ls i p h =
    get_or-drop (i * (n * n)) (take (suc i * (n * n)) ls) p 0 ∙ get_or-take (suc i * (n * n)) ls (i * (n * n) + p) 0 (omega (arith, suc-mul i (n * n)))

pub entry_get : (n : ℕ) (ls : List ℕ) (i v u : ℕ) → v < n → u < n → number_at n (level_of n ls (suc i)) v u ≡ get_or ls (i * (n * n) + (v * n + u)) 0
unfolding number_at
entry_get n ls i v u hv hu = level_get n ls i (v * n + u) (place_lt n v u hv hu)

pub level_size : (n : ℕ) (ls : List ℕ) (i : ℕ) → suc i * (n * n) ≤ length ls → length (level_of n ls (suc i)) ≡ n * n
unfolding level_of
level_size n ls i h = length-slice (i * (n * n)) (suc i * (n * n)) ls h ∙ omega (arith, suc-mul i (n * n))

-- a level that lies in the front of the list
pub level_front : (n : ℕ) (ls rest : List ℕ) (i : ℕ) → i * (n * n) ≤ length ls → level_of n (ls ++ rest) i ≡ level_of n ls i
unfolding level_of
level_front n ls rest i h = ap (drop (pred i * (n * n))) (take-append-le (i * (n * n)) ls rest h)

-- levels that are made one over the other, each of n·n numbers
module _ (n : ℕ) (f : ℕ → List ℕ → List ℕ) (size : (i : ℕ) (ls : List ℕ) → length (f i ls) ≡ n * n) where
  pub stack_size : (k : ℕ) → length (stack f k) ≡ k * (n * n)
  unfolding stack
  stack_size zero = sym (zero-mul (n * n))
  stack_size (suc k) =
      length-append (stack f k) (f (suc k) (stack f k)) ∙ omega (arith, stack_size k, size (suc k) (stack f k), suc-mul k (n * n))

  -- a level stays what it was when more are put behind it
  pub stack_written : (k i : ℕ) → i ≤ k → level_of n (stack f k) i ≡ level_of n (stack f i) i
  unfolding stack
  stack_written zero i h = ap (λ (j : ℕ). level_of n (stack f j) i) z
    where
      z : 0 ≡ i
      z = omega arith
  stack_written (suc k) i h =
      ⊎_elim
      (λ (e : i ≡ suc k). ap (λ (j : ℕ). level_of n (stack f j) i) (sym e))
      (λ (l : i < suc k).
      level_front n (stack f k) (f (suc k) (stack f k)) i (omega (arith, mul-le-mul_right {m = i} {n = k} (n * n) (omega arith), stack_size k))
      ∙ stack_written k i (omega arith))
      (eq-or-lt_of_le h)

  pub stack_top : (i : ℕ) → level_of n (stack f (suc i)) (suc i) ≡ f (suc i) (stack f i)
  unfolding stack level_of
  stack_top i =
      let ls = stack f i in
      let top = f (suc i) ls in
      ap (drop (i * (n * n))) (take_all (suc i * (n * n)) (ls ++ top) (omega (arith, length-append ls top, stack_size i, size (suc i) ls, suc-mul i (n * n))))
      ∙ drop_at ls top (i * (n * n)) (stack_size i)

module _ (ρ : Rule) (g : Graph) where
  pub over_length : (i : ℕ) (ls : List ℕ) → length (level_over ρ g i ls) ≡ g.items * g.items
  unfolding level_over
  over_length i ls = numbering_length _ _ (g.items * g.items)

  pub levels_size : (k : ℕ) → length (built_levels ρ g k) ≡ k * (g.items * g.items)
  unfolding built_levels
  levels_size k = stack_size g.items (level_over ρ g) over_length k

  -- level i of what the builder writes
  pub level_written : (k i : ℕ) → i ≤ k → level_of g.items (built_levels ρ g k) i ≡ built_level ρ g i
  unfolding built_level built_levels
  level_written k i h = stack_written g.items (level_over ρ g) over_length k i h

module _ (ρ : Rule) (law : RuleLaws ρ) (g : Graph) where
  -- the table of a level is the numbering over the tables of the levels below
  pub level_is : (i : ℕ) → built_level ρ g (suc i) ≡ numbering (connected_at g (suc i)) (agree_at ρ g (suc i) (built_level ρ g)) (g.items * g.items)
  unfolding built_level built_levels level_over agree_at
  level_is i =
      stack_top g.items (level_over ρ g) (over_length ρ g) i
      ∙ ap (λ (r : ℕ → ℕ → Bool). numbering (connected_at g (suc i)) r (g.items * g.items))
      (fun_ext (λ p. fun_ext (λ q. agree_below ρ law g (suc i) (level_of g.items (built_levels ρ g i)) (built_level ρ g) (λ j h. level_written ρ g i j (omega arith))
      (p / g.items) (p % g.items) (q / g.items) (q % g.items))))

  pub level_length : (i : ℕ) → length (built_level ρ g (suc i)) ≡ g.items * g.items
  level_length i = ap length (level_is i) ∙ numbering_length (connected_at g (suc i)) (agree_at ρ g (suc i) (built_level ρ g)) (g.items * g.items)
