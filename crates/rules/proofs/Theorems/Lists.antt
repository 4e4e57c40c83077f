-- Class to pair, for any level-k table: the part of the order list that the starts list gives for a class is exactly its pairs, ascending.
use Rattle.std.proofs.Common.{Ok}
use Rattle.rules.specs.Outcomes.{span}
use Prim.Native.Nat.{ℕ, zero, suc, ◌≤◌, ◌<◌}
use mathlib.Core.Path.{◌≡◌, refl, ap, ◌∙◌}
use mathlib.Core.Logic.{◌↔◌}
use mathlib.Core.List.{List, Memᴰ}
use native.Mathlib.Omega.{arith}
use borrow.Author.Tests.{eqb-true, eq-eqb, ne_eqb, lt-leb, le-ltb}
use lib.Dec.{eqb}
use lib.ListN.{length, get_or, length-append}
use Rattle.rules.specs.Levels.{max_of}
use Rattle.rules.specs.Lists.{pairs_of, order_up_to, starts_of, order_of}
use Rattle.rules.specs.Outcomes.{part_of, class_bounds}
use Rattle.rules.proofs.Laws.Listing.{list_find, list_here, list_ascending}
use Rattle.rules.proofs.Laws.ClassLists.{starts_length, starts_at, order_begins, order_part}

module _ (t : List ℕ) where
  -- a position stands among the pairs of class c exactly if it has the number c
  pub pairs_exact : (c p : ℕ) → Memᴰ p (pairs_of t c) ↔ ((p < length t) × (get_or t p 0 ≡ c))
  unfolding pairs_of
  pairs_exact c p = (
    λ m. let r = list_find (λ p. eqb (get_or t p 0) c) (length t) p m in (r.0, eqb-true (get_or t p 0) c r.1),
    λ r. list_here (λ p. eqb (get_or t p 0) c) (length t) p r.0 (eq-eqb (get_or t p 0) c r.1),
  )

  -- each once, ascending
  pub pairs_ascend : (c i j : ℕ) → i < j → j < length (pairs_of t c) → get_or (pairs_of t c) i 0 < get_or (pairs_of t c) j 0
  unfolding pairs_of
  pairs_ascend c i j l h = list_ascending (λ p. eqb (get_or t p 0) c) (length t) i j l h

  -- the starts list has C+1 numbers, and the first is 0
  pub starts_many : length (starts_of t) ≡ suc (max_of t)
  unfolding starts_of
  starts_many = starts_length t (max_of t)

  pub starts_first : get_or (starts_of t) 0 0 ≡ 0
  unfolding starts_of
  starts_first = starts_at t (max_of t) 0 (omega arith) ∙ unfold order_up_to in refl

-- class c+1
module _ (t : List ℕ) (c : ℕ) (h : suc c ≤ max_of t) where
  abbrev from : ℕ
  from = get_or (starts_of t) c 0

  abbrev to : ℕ
  to = get_or (starts_of t) (suc c) 0

  up_to : from ≤ to
  unfolding starts_of order_up_to
  up_to = omega (arith, starts_at t (max_of t) c (omega arith), starts_at t (max_of t) (suc c) h, length-append (order_up_to t c) (pairs_of t (suc c)))

  within : to ≤ length (order_of t)
  unfolding starts_of order_of
  within =
      let r = order_begins t (max_of t) (suc c) h in
      omega (arith, starts_at t (max_of t) (suc c) h, ap length r.1, length-append (order_up_to t (suc c)) r.0)

  bounds_are : class_bounds (suc c) (starts_of t) (order_of t) ≡ Ok (span from to)
  unfolding class_bounds
  bounds_are =
      rw (ne_eqb (suc c) 0 (λ q. omega arith), lt-leb (length (starts_of t)) (suc c) (omega (arith, starts_many t)), le-ltb to from up_to, le-ltb (length (order_of t)) to within) refl

  part_is : part_of (order_of t) (Ok (span from to)) ≡ pairs_of t (suc c)
  unfolding part_of starts_of order_of
  part_is = order_part t (max_of t) c h

-- pairs of a class: for each class the part is its pairs
pub class_part : (t : List ℕ) (c : ℕ) → 0 < c → c ≤ max_of t → part_of (order_of t) (class_bounds c (starts_of t) (order_of t)) ≡ pairs_of t c
class_part t zero p h = absurd (omega arith)
class_part t (suc c) p h = ap (part_of (order_of t)) (bounds_are t c h) ∙ part_is t c h
