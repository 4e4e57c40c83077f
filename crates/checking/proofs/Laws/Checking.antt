-- Check's steps: what each asks, from what stands before it, and that together they give what check defines.
use Rattle.std.proofs.Common.{Err, Ok, Result}
use Prim.Native.Nat.{ℕ, ◌+◌, ◌*◌, ◌≤◌, ◌<◌}
use mathlib.Core.Path.{◌≡◌, refl, sym, ap, ◌∙◌, subst}
use mathlib.Core.List.{List}
use mathlib.Core.Bool.{true, false, ◌&&◌, not}
use native.Mathlib.Omega.{arith}
use lib.Dec.{eqb}
use lib.ListN.{length}
use Rattle.rules.specs.declared.Refusal.{Refusal}
use Rattle.rules.specs.Graph.{Graph, graph_of}
use Rattle.rules.specs.Rule.{rule}
use Rattle.rules.specs.Levels.{max_of, level_of}
use Rattle.rules.specs.Lists.{starts_of, order_of, entries_of}
use Rattle.rules.specs.Writing.{fill}
use Rattle.rules.specs.Verdict.{Verdict, good, refuse, ◌or_else◌, when}
use Rattle.rules.specs.Accept.{levels_right, difference, same_list, top_of, accepts}
use Rattle.rules.specs.Outcomes.{CheckCall, check_refusal, check_graph, told, check_after, check, zeroed}
use Rattle.rules.specs.Promises.{Checks}
use Rattle.rules.proofs.Laws.Verdict.{good_or_else}
use Rattle.rules.proofs.Laws.ClassLists.{starts_length}
use Rattle.rules.proofs.Laws.Faults.{right_accepted}
use Rattle.rules.proofs.Laws.Accepted.{accepted_at}
use Rattle.rules.proofs.Laws.Calls.{Passed, passed, top_length}
use Rattle.rules.proofs.Theorems.Acceptance.{check_worked, check_refused}
use Rattle.twins.specs.Standing.{EdgesFit}
use Rattle.levels.specs.Needs.{Room}
use Rattle.relations.specs.Relations.{Frame}
use Rattle.lists.specs.Listing.{Compared}
use Rattle.matching.specs.Counters.{Matching, Matches}
use Rattle.sorting.proofs.Laws.Difference.{difference_is}
use Rattle.sorting.proofs.Laws.Numbers.{max_few}
use Rattle.sorting.proofs.Laws.Sorting.{up_to_le}
use Rattle.rules.specs.Calls.{check_end}
use Rattle.rules.proofs.Laws.Places.{square_le}
use Rattle.top.specs.Tables.{Standing, ListsStored}
use Rattle.checking.specs.Checking.{lists_verdict}
use Rattle.top.proofs.Laws.Fronts.{cleared}
use Rattle.top.proofs.Laws.Counts.{few_entries}
use Rattle.top.proofs.Laws.Edges.{edges_fit, edges_inside}
use Rattle.top.proofs.Laws.Top.{accepted_contiguous}

-- two lists by their first difference, and the length of the first
module _ (xs ys : List ℕ) (f : ℕ → Refusal) (d m : ℕ) (first : d ≡ difference xs ys) (many : m ≡ length xs) where
  same_is : same_list xs ys f ≡ when (not (eqb d m && eqb d (length ys))) (f d)
  unfolding same_list
  same_is = rw (first, many) refl

  pub same_refused : not (eqb d m && eqb d (length ys)) ≡ true → same_list xs ys f ≡ refuse (f d)
  unfolding when
  same_refused e = same_is ∙ rw e

  pub same_good : not (eqb d m && eqb d (length ys)) ≡ false → same_list xs ys f ≡ good
  unfolding when
  same_good e = same_is ∙ rw e

-- what is told of a chain
pub told_refused : (v w : Verdict) (r : Refusal) → v ≡ refuse r → Err r ≡ told (v or_else w)
unfolding told ◌or_else◌
told_refused v w r e = rw e

pub told_last : (v : Verdict) (r : Refusal) → v ≡ refuse r → Err r ≡ told v
unfolding told
told_last v r e = rw e

pub told_done : (v : Verdict) → v ≡ good → (Ok tt) ≡ told v
unfolding told
told_done v e = rw e

pub told_on : (v w : Verdict) (r : Result Unit Refusal) → v ≡ good → r ≡ told w → r ≡ told (v or_else w)
told_on v w r g e = e ∙ ap told (sym (good_or_else v w g))

pub told_good : (v : Verdict) (r : Result Unit Refusal) → r ≡ told v → r ≡ Ok tt → v ≡ good
unfolding told
told_good good r e g = refl
told_good (refuse f) r e g = absurd (let z : ◌≡◌ {A = ℕ} 0 1 = cc in omega arith)

pub told_fault : (v : Verdict) (r : Result Unit Refusal) (f : Refusal) → r ≡ told v → r ≡ Err f → v ≡ refuse f
unfolding told
told_fault good r f e g = absurd (let z : ◌≡◌ {A = ℕ} 0 1 = cc in omega arith)
told_fault (refuse s) r f e g = let q : s ≡ f = cc in ap refuse q

-- the lists of a table against stored ones
module _ (n labels k : ℕ) (edges t area : List ℕ) (r : ListsStored n labels k edges t area) where
  pub matching : Matching t n area
  matching = record { small = r.few_items; square = r.square; whole = r.numbered; area = omega (arith, r.area_room) }

  module _ (classes pairs first second : ℕ) (starts order : List ℕ) (found : Matches t classes pairs first second starts order) where
    pub few_classes : classes ≤ 16384
    few_classes = omega (arith, found.classes_of, max_few t r.numbered, r.square, square_le r.few_items)

    pub starts_many : classes + 1 ≡ length (starts_of t)
    unfolding starts_of
    starts_many = omega (arith, found.classes_of, starts_length t (max_of t))

    pub first_small : first < 4294967296
    first_small = omega (arith, few_classes, starts_many, found.starts_of_lem, (difference_is (starts_of t) starts).left)

    pub second_small : second < 4294967296
    unfolding order_of
    second_small =
        omega (arith, found.order_of_lem, (difference_is (order_of t) order).left, up_to_le t (max_of t), r.square, square_le r.few_items)

  module _ (many third : ℕ) (entries : List ℕ) (compared : Compared many third (entries_of (graph_of n labels edges) k t) entries) where
    abbrev es : List ℕ
    es = entries_of (graph_of n labels edges) k t

    pub many_small : many ≤ 1454021285
    many_small = omega (arith, compared.count, (few_entries n labels k edges t area r).few)

    pub third_small : third < 4294967296
    third_small = omega (arith, many_small, compared.count, compared.first, (difference_is es entries).left)

-- the whole check, where nothing of 1 to 5 refuses
module _ (c : CheckCall) (ok : check_refusal c ≡ good) where
  abbrev n : ℕ
  n = c.index.items

  abbrev labels : ℕ
  labels = c.index.labels

  abbrev g : Graph
  g = graph_of n labels c.edges

  abbrev p : Passed c
  p = passed c ok

  pub level_edges : EdgesFit n 8 c.edges
  level_edges = edges_fit n labels c.edges p.edges 8 p.sizes_fit.labels_fit

  pub level_labels : EdgesFit n labels c.edges
  level_labels = edges_fit n labels c.edges p.edges labels (omega arith)

  pub few_labels : labels ≤ 8
  few_labels = p.sizes_fit.labels_fit

  pub few_items : n ≤ 128
  few_items = p.sizes_fit.items_fit

  pub level_room : Room n c.index.k c.index.levels c.area
  level_room = record { few = p.sizes_fit.items_fit; short = p.levels.few_levels; levels_room = p.tables; area_room = p.area }

  pub standing : Standing n c.index.k c.index.levels
  standing =
      record { few_items = p.sizes_fit.items_fit; some_level = p.levels.some_level; few_levels = p.levels.few_levels; room = p.tables }

  pub lists_stored : levels_right rule g c.index.k (level_of n c.index.levels) ≡ good → (table area' : List ℕ)
      → table ≡ level_of n c.index.levels c.index.k → length area' ≡ length c.area
      → ListsStored n labels c.index.k c.edges table area'
  unfolding top_of graph_of
  lists_stored right table area' ft fa =
      let k = c.index.k in
      let T = level_of n c.index.levels in
      let size = top_length c.index p.levels.some_level p.tables in
      subst (λ (t : List ℕ). ListsStored n labels k c.edges t area') (sym ft)
      (record {
        few_items = p.sizes_fit.items_fit;
        few_labels = p.sizes_fit.labels_fit;
        few_levels = p.levels.few_levels;
        square = size;
        numbered = accepted_contiguous rule g k T (accepted_at rule g k T (right_accepted rule g T k right) k p.levels.some_level (omega arith)) size;
        inside = edges_inside n labels c.edges p.edges p.sizes_fit.labels_fit;
        area_room = omega (arith, p.area, fa);
      })

  -- 15 ends the check
  pub levels_refused : (r : Result Unit Refusal) (f : Refusal) → r ≡ told (levels_right rule g c.index.k (level_of n c.index.levels)) → r ≡ Err f
      → r ≡ told (accepts rule g c.index)
  unfolding accepts
  levels_refused r f e q = q ∙ told_refused _ _ f (told_fault _ r f e q)

  -- else the lists decide
  pub lists_decide : (r : Result Unit Refusal) (table : List ℕ) → levels_right rule g c.index.k (level_of n c.index.levels) ≡ good
      → table ≡ level_of n c.index.levels c.index.k
      → r ≡ told (lists_verdict g c.index.k table c.index.starts c.index.order c.index.entries) → r ≡ told (accepts rule g c.index)
  unfolding accepts lists_verdict top_of
  lists_decide r table right ft e =
      told_on _ _ r right (e ∙ ap (λ (t : List ℕ). told (lists_verdict g c.index.k t c.index.starts c.index.order c.index.entries)) ft)

-- the promise of check
module _ (c : CheckCall) where
  area_worked : check_refusal c ≡ good → (check c).area ≡ zeroed c.index.items c.area
  unfolding check check_after
  area_worked q = rw q

  area_refused : (r : Refusal) → check_refusal c ≡ refuse r → (check c).area ≡ c.area
  unfolding check check_after
  area_refused r q = rw q

  pub checks_worked : (r : Result Unit Refusal) (area₁ area' : List ℕ) → check_refusal c ≡ good → r ≡ told (accepts rule (check_graph c) c.index)
      → Frame 0 (9 * (c.index.items * c.index.items)) c.area area₁ → area' ≡ fill area₁ 0 (9 * (c.index.items * c.index.items)) (λ _. 0)
      → Checks c (check_end r area')
  checks_worked r area₁ area' ok e f a =
      record {
        result = e ∙ sym (check_worked c ok);
        area = a ∙ cleared c.index.items c.area area₁ f (passed c ok).area ∙ sym (area_worked ok);
      }

  pub checks_refused : (r : Refusal) → check_refusal c ≡ refuse r → (s : Refusal) → s ≡ r → Checks c (check_end (Err s) c.area)
  checks_refused r refused s q = record { result = ap Err q ∙ sym (check_refused c r refused); area = sym (area_refused r refused) }
