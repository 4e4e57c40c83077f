-- What each link of a chain of refusals says when it refuses nothing, and when it does.
use Prim.Native.Nat.{ℕ, ◌+◌, ◌*◌, ◌/◌, ◌%◌, ◌≤◌, ◌<◌}
use mathlib.Core.Path.{◌≡◌}
use mathlib.Core.List.{List}
use mathlib.Core.Bool.{false, ◌||◌, not}
use native.Mathlib.Omega.{arith}
use borrow.Author.Tests.{eqb-true, eqb-false, ltb-false, leb-false, le-ltb, not-false}
use lib.Dec.{eqb, leb, ltb}
use lib.ListN.{length, get_or}
use Rattle.rules.specs.declared.Refusal.TheVariants.{Sizes, LevelCount, EdgeCount, Edge, Room}
use Rattle.rules.specs.Verdict.{good, sizes, level_count, edge_count, bad_edge, first_bad, edges_fit, room}
use Rattle.rules.proofs.Laws.Tests.{some_of, or_false_left, or_false_right}
use Rattle.rules.proofs.Laws.Finite.{first_before}
use Rattle.rules.proofs.Laws.Verdict.{when_good, good_when}

-- 1
pub record SizesFit (items labels : ℕ) : Type 0 where
  pub items_fit : items ≤ 128
  pub labels_fit : labels ≤ 8

pub sizes_fit : (items labels : ℕ) → sizes items labels ≡ good → SizesFit items labels
unfolding sizes
sizes_fit n l e =
    let a = when_good (ltb 128 n || (eqb l 0 || ltb 8 l)) Sizes e in
    let b = or_false_right (ltb 128 n) (eqb l 0 || ltb 8 l) a in
    record {
      items_fit = ltb-false 128 n (or_false_left (ltb 128 n) (eqb l 0 || ltb 8 l) a);
      labels_fit = ltb-false 8 l (or_false_right (eqb l 0) (ltb 8 l) b);
    }

-- 2
pub record LevelsFit (k : ℕ) : Type 0 where
  pub some_level : 0 < k
  pub few_levels : k ≤ 4

pub levels_fit : (k : ℕ) → level_count k ≡ good → LevelsFit k
unfolding level_count
levels_fit k e =
    let a = when_good (eqb k 0 || ltb 4 k) LevelCount e in
    record {
      some_level = some_of k (eqb-false k 0 (or_false_left (eqb k 0) (ltb 4 k) a));
      few_levels = ltb-false 4 k (or_false_right (eqb k 0) (ltb 4 k) a);
    }

-- 3
pub record EdgesWhole (edges : List ℕ) : Type 0 where
  pub whole : length edges % 3 ≡ 0
  pub few_edges : length edges ≤ 12288

pub edges_whole : (edges : List ℕ) → edge_count edges ≡ good → EdgesWhole edges
unfolding edge_count
edges_whole edges e =
    let a = when_good (not (eqb (length edges % 3) 0) || ltb 12288 (length edges)) EdgeCount e in
    record {
      whole = eqb-true (length edges % 3) 0 (not-false (eqb (length edges % 3) 0) (or_false_left (not (eqb (length edges % 3) 0)) (ltb 12288 (length edges)) a));
      few_edges = ltb-false 12288 (length edges) (or_false_right (not (eqb (length edges % 3) 0)) (ltb 12288 (length edges)) a);
    }

-- 4: every edge's items and label are in range
pub record EdgesIn (items labels : ℕ) (edges : List ℕ) : Type 0 where
  pub source : (e : ℕ) → e < length edges / 3 → get_or edges (3 * e) 0 < items
  pub target : (e : ℕ) → e < length edges / 3 → get_or edges (3 * e + 1) 0 < items
  pub label : (e : ℕ) → e < length edges / 3 → get_or edges (3 * e + 2) 0 < labels

pub edges_in : (items labels : ℕ) (edges : List ℕ) → edges_fit items labels edges ≡ good → EdgesIn items labels edges
unfolding edges_fit first_bad bad_edge
edges_in n l edges e =
    let many = length edges / 3 in
    let a = ltb-false (first_bad n l edges) many (when_good (ltb (first_bad n l edges) many) (Edge (first_bad n l edges)) e) in
    let fine : (i : ℕ) → i < many → bad_edge n l edges i ≡ false = λ i h. first_before many (bad_edge n l edges) i h (omega arith) in
    record {
      source = λ i h. leb-false n (get_or edges (3 * i) 0) (or_false_left (leb n (get_or edges (3 * i) 0)) _ (fine i h));
      target = λ i h.
          leb-false n (get_or edges (3 * i + 1) 0)
          (or_false_left (leb n (get_or edges (3 * i + 1) 0)) _ (or_false_right (leb n (get_or edges (3 * i) 0)) _ (fine i h)));
      label = λ i h.
          leb-false l (get_or edges (3 * i + 2) 0)
          (or_false_right (leb n (get_or edges (3 * i + 1) 0)) _ (or_false_right (leb n (get_or edges (3 * i) 0)) _ (fine i h)));
    }

-- 5
pub room_fits : (lent : List ℕ) (needed : ℕ) → room lent needed ≡ good → needed ≤ length lent
unfolding room
room_fits lent needed e = ltb-false (length lent) needed (when_good (ltb (length lent) needed) Room e)

pub fits_room : (lent : List ℕ) (needed : ℕ) → needed ≤ length lent → room lent needed ≡ good
unfolding room
fits_room lent needed h = good_when (ltb (length lent) needed) Room (le-ltb (length lent) needed h)
