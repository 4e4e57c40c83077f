-- Demand 2 for the level tables: the classes that build writes are those of the published path-bisimulation, numbered from 1 by first pair.
use Prim.Native.Nat.{ℕ, suc, ◌*◌, ◌≤◌, ◌<◌}
use mathlib.Core.Path.{◌≡◌, refl, sym, ap, ◌∙◌}
use mathlib.Core.Logic.{◌↔◌, ⊎_elim}
use mathlib.Core.Bool.{true, not}
use native.Mathlib.Nat.{eq-zero-or-pos}
use borrow.Author.Tests.{eq-eqb, ne_eqb, lt-ltb, ltb-true, not-false}
use lib.Dec.{ltb}
use mathlib.Core.List.{List}
use native.Mathlib.Omega.{arith}
use lib.ListN.{length, get_or, take}
use Rattle.rules.specs.Finite.{count_below}
use Rattle.rules.specs.Graph.{Graph}
use Rattle.rules.specs.Rule.{rule}
use Rattle.rules.specs.Levels.{number_at, connected_at, max_of, first_of, built_level}
use Rattle.rules.specs.Lists.{order_of}
use Rattle.rules.specs.Stored.{leader}
use Rattle.rules.specs.Published.{Walk, Bisimilar}
use Rattle.rules.proofs.Laws.Tests.{same, not_both}
use Rattle.rules.proofs.Laws.Graph.{conn_walk, walk_conn}
use Rattle.rules.proofs.Laws.Levels.{level_length}
use Rattle.rules.proofs.Laws.Accepted.{right_at, connected_number, number_connected}
use Rattle.rules.proofs.Laws.Builder.{level_ok_lem, same_number_bisim}
use Rattle.rules.proofs.Laws.Bisim as B
use Rattle.rules.proofs.Laws.ClassCount as C
use Rattle.rules.proofs.Laws.Dense as D
use Rattle.rules.proofs.Laws.ClassLists.{order_total}
use Rattle.rules.proofs.Laws.Listing.{count_same}
use Rattle.rules.proofs.Laws.Lawful.{rule_laws}

-- path-bisimulation is an equivalence
pub bisimilar_refl : (g : Graph) (i v u : ℕ) → Bisimilar rule g i v u v u
bisimilar_refl g i v u = B.bisim_refl rule rule_laws g i v u

pub bisimilar_sym : (g : Graph) {i v u x y : ℕ} → Bisimilar rule g i v u x y → Bisimilar rule g i x y v u
bisimilar_sym g b = B.bisim_sym b

pub bisimilar_trans : (g : Graph) (i v u x y z w : ℕ) → Bisimilar rule g i v u x y → Bisimilar rule g i x y z w → Bisimilar rule g i v u z w
bisimilar_trans g i v u x y z w a b = B.bisim_trans rule rule_laws g i v u x y z w a b

module _ (g : Graph) (i : ℕ) where
  abbrev table : List ℕ
  table = built_level rule g (suc i)

  -- a pair has a number exactly if a walk of at most as many steps joins it
  pub number_walk : (v u : ℕ) → v < g.items → u < g.items → (0 < number_at g.items table v u) ↔ Walk g v (suc i) u
  number_walk v u hv hu =
      let ok = level_ok_lem rule rule_laws g (suc i) (omega arith) in (
        λ l. conn_walk g (suc i) v u (number_connected rule g (suc i) (built_level rule g) ok v u hv hu l),
        λ w. connected_number rule g (suc i) (built_level rule g) ok v u hv hu (walk_conn g v w),
      )

  -- two connected pairs have one number exactly if they are path-bisimilar
  pub number_bisimilar : (v u x y : ℕ) → v < g.items → u < g.items → x < g.items → y < g.items → Walk g v (suc i) u → Walk g x (suc i) y
      → (number_at g.items table v u ≡ number_at g.items table x y) ↔ Bisimilar rule g (suc i) v u x y
  number_bisimilar v u x y hv hu hx hy a b = same_number_bisim rule rule_laws g (suc i) v u x y (omega arith) hv hu hx hy a b

  next : (p : ℕ) → p < length table → get_or table p 0 ≤ suc (max_of (take p table))
  next p h =
      (right_at rule g (suc i) (built_level rule g) (level_ok_lem rule rule_laws g (suc i) (omega arith)) p (omega (arith, level_length rule rule_laws g i))).next

  -- classes are numbered from 1: each number up to the largest is that of some pair
  pub number_used : (c : ℕ) → 0 < c → c ≤ max_of table → (p : ℕ) × (p < length table) × (get_or table p 0 ≡ c)
  number_used c pos le = D.occurs table next c pos le

  -- by first pair in order of position
  pub number_by_first : (c d : ℕ) → 0 < c → c < d → d ≤ max_of table → first_of (length table) table c < first_of (length table) table d
  number_by_first c d pos l le = D.first_ascends table next c d pos l le

  -- C is the number of classes, counted by their first pairs
  pub classes_counted : max_of table ≡ count_below (length table) (leader (length table) table)
  classes_counted = C.classes_counted table next

  -- the order list has one number for each pair that is connected within i
  pub pairs_counted : length (order_of table) ≡ count_below (g.items * g.items) (connected_at g (suc i))
  unfolding order_of
  pairs_counted =
      order_total table ∙ ap (λ (n : ℕ). count_below n (λ p. ltb 0 (get_or table p 0))) (level_length rule rule_laws g i)
      ∙ count_same (g.items * g.items) (λ p. ltb 0 (get_or table p 0)) (connected_at g (suc i)) (λ p h. same_test p h)
    where
      same_test : (p : ℕ) → p < g.items * g.items → ltb 0 (get_or table p 0) ≡ connected_at g (suc i) p
      same_test p h =
          let z = (right_at rule g (suc i) (built_level rule g) (level_ok_lem rule rule_laws g (suc i) (omega arith)) p h).zeros in
          same (ltb 0 (get_or table p 0)) (connected_at g (suc i) p)
          (λ t. not-false (connected_at g (suc i) p) (sym z ∙ ne_eqb (get_or table p 0) 0 (λ q. omega (arith, ltb-true 0 (get_or table p 0) t))))
          (λ t. ⊎_elim
          (λ (q : get_or table p 0 ≡ 0). not_both true refl (sym (eq-eqb (get_or table p 0) 0 q) ∙ z ∙ ap not t))
          (λ (l : 0 < get_or table p 0). lt-ltb 0 (get_or table p 0) l)
          (eq-zero-or-pos (get_or table p 0)))
