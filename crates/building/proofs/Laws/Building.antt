-- Build's steps: what each asks, from what stands before it, and that together they leave what build defines.
use Rattle.std.proofs.Common.{Err, Ok, Result}
use Rattle.rules.specs.declared.Counts.{Counts}
use Rattle.rules.specs.Outcomes.{counted}
use Prim.Native.Nat.{ℕ, suc, ◌+◌, ◌*◌, ◌/◌, ◌≤◌, ◌<◌}
use mathlib.Core.Path.{◌≡◌, refl, sym, ap, ◌∙◌, subst}
use mathlib.Core.List.{List, ◌++◌}
use native.Mathlib.Numerals.{add-one}
use native.Mathlib.Omega.{arith}
use borrow.Author.Tests.{le-leb, lt-leb}
use lib.ListN.{length, get_or, drop, length-append}
use Rattle.rules.specs.declared.Refusal.{Refusal}
use Rattle.rules.specs.declared.Refusal.TheVariants.{EntryRoom}
use Rattle.rules.specs.Graph.{Graph, graph_of}
use Rattle.rules.specs.Rule.{rule}
use Rattle.rules.specs.Levels.{max_of, level_of, built_levels, built_level}
use Rattle.rules.specs.Lists.{starts_up_to, order_up_to, starts_of, order_of, entries_of}
use Rattle.rules.specs.Verdict.{good, refuse}
use Rattle.rules.specs.Accept.{top_of, built_index}
use Rattle.rules.specs.Outcomes.{front, zeroed, BuildCall, BuildEnd, build_refusal, build_nothing, build_tables, index_for, build_after, build}
use Rattle.rules.specs.Promises.{Builds}
use Rattle.rules.proofs.Laws.ClassLists.{starts_length, starts_at}
use Rattle.rules.proofs.Laws.Links.{SizesFit, sizes_fit, LevelsFit, levels_fit, EdgesIn, edges_in}
use Rattle.rules.proofs.Laws.Calls.{BuildPassed, build_passed}
use Rattle.rules.proofs.Laws.Levels.{level_size, level_front, levels_size, level_written}
use Rattle.rules.proofs.Laws.Builder.{level_ok_lem}
use Rattle.twins.specs.Standing.{EdgesFit}
use Rattle.levels.specs.Needs.{Room, Past}
use Rattle.sorting.specs.Sort.{Contiguous, AtMost, Fills}
use Rattle.lists.specs.Listing.{Listing, Listed}
use Rattle.sorting.proofs.Laws.Sorting.{up_to_le}
use Rattle.sorting.proofs.Laws.Numbers.{at_most, max_few}
use Rattle.rules.specs.Calls.{build_end}
use Rattle.rules.proofs.Laws.Places.{square_le}
use Rattle.rules.proofs.Laws.Lawful.{rule_laws}
use Rattle.top.specs.Tables.{Standing, ListsStored}
use Rattle.building.specs.Building.{EndsAs, ListsReady, ListsWritten}
use Rattle.top.proofs.Laws.Fronts.{front_in, zeroed_past}
use Rattle.top.proofs.Laws.Edges.{edges_fit, edges_inside}
use Rattle.top.proofs.Laws.Top.{accepted_contiguous}

-- the lists of a table
module _ (n labels k : ℕ) (edges t area : List ℕ) (r : ListsStored n labels k edges t area) where
  pub listing : (area' : List ℕ) → length area' ≡ length area → Listing t labels n k area'
  listing area' e =
      record {
        labelled = r.few_labels;
        small = r.few_items;
        square = r.square;
        short = r.few_levels;
        area = omega (arith, r.area_room, e);
      }

module _ (n labels k classes : ℕ) (edges t starts order area : List ℕ) (r : ListsReady n labels k classes edges t starts order area) where
  abbrev s : ListsStored n labels k edges t area
  s = r.stored

  few_classes : classes ≤ n * n
  few_classes = omega (arith, r.largest, max_few t s.numbered, s.square)

  pub fills : Fills t classes starts order
  fills =
      record {
        small = omega (arith, s.square, square_le s.few_items);
        most = subst (AtMost t) (sym r.largest) (at_most t);
        room = omega (arith, few_classes, r.starts_room);
        places = omega (arith, up_to_le t classes, s.square, r.order_room);
      }

  module _ (starts' : List ℕ) (e : starts' ≡ starts_up_to t classes ++ drop (classes + 1) starts) where
    pub starts_front : starts' ≡ front (starts_of t) starts
    unfolding front starts_of
    starts_front =
        e ∙ ap (λ (i : ℕ). starts_up_to t classes ++ drop i starts) (add-one classes ∙ sym (starts_length t classes))
        ∙ ap (λ (i : ℕ). starts_up_to t i ++ drop (length (starts_up_to t i)) starts) r.largest

    pub last_inside : classes < length starts'
    last_inside = omega (arith, ap length e, length-append (starts_up_to t classes) (drop (classes + 1) starts), starts_length t classes)

    pub last_start : get_or starts' classes 0 ≡ length (order_of t)
    unfolding starts_of order_of
    last_start =
        ap (λ (l : List ℕ). get_or l classes 0) starts_front
        ∙ front_in (starts_of t) starts classes (omega (arith, starts_length t (max_of t), r.largest))
        ∙ ap (get_or (starts_up_to t (max_of t)) classes) refl
        ∙ starts_at t (max_of t) classes (omega (arith, r.largest))
        ∙ ap (λ (i : ℕ). length (order_up_to t i)) r.largest

  pub order_front : (order' : List ℕ) → order' ≡ order_up_to t classes ++ drop (length (order_up_to t classes)) order → order' ≡ front (order_of t) order
  unfolding front order_of
  order_front order' e = e ∙ ap (λ (i : ℕ). order_up_to t i ++ drop (length (order_up_to t i)) order) r.largest

-- the entries counted, written or left
module _ (g : Graph) (k : ℕ) (t entries entries' : List ℕ) (many : ℕ) (listed : Listed many (entries_of g k t) entries entries') where
  pub many_is : many ≡ length (entries_of g k t) / 2
  many_is = omega (arith, listed.count)

  module _ (n : ℕ) (starts order area starts' order' area' : List ℕ) (fs : starts' ≡ front (starts_of t) starts) (fo : order' ≡ front (order_of t) order)
      (fa : area' ≡ zeroed n area) where
    pub lists_short : length entries / 2 < many → ListsWritten n g k t starts order entries area (Err (EntryRoom many)) starts' order' entries' area'
    lists_short h =
        let e = lt-leb (length (entries_of g k t) / 2) (length entries / 2) (omega (arith, h, many_is)) in
        record { result = rw (e, many_is) refl; starts_are = fs; order_are = fo; entries_are = rw e (listed.none h); area_is = fa }

    pub lists_fit : (classes last : ℕ) → classes ≡ max_of t → last ≡ length (order_of t) → many ≤ length entries / 2
        → ListsWritten n g k t starts order entries area (Ok (counted classes last many)) starts' order' entries' area'
    unfolding front
    lists_fit classes last fc fl h =
        let e = le-leb (length (entries_of g k t) / 2) (length entries / 2) (omega (arith, h, many_is)) in
        record { result = rw (e, many_is, fc, fl) refl; starts_are = fs; order_are = fo; entries_are = rw e (listed.text h); area_is = fa }

-- the whole build, where nothing of 1 to 5 refuses
module _ (c : BuildCall) (ok : build_refusal c ≡ good) where
  abbrev n : ℕ
  n = c.items

  abbrev g : Graph
  g = graph_of n c.labels c.edges

  abbrev top : List ℕ
  top = built_level rule g c.k

  abbrev links : BuildPassed c
  links = build_passed c ok

  fits : SizesFit n c.labels
  fits = sizes_fit n c.labels links.sizes_good

  pub some_levels : LevelsFit c.k
  some_levels = levels_fit c.k links.levels_good

  known : EdgesIn n c.labels c.edges
  known = edges_in n c.labels c.edges links.edges_good

  pub level_edges : EdgesFit n 8 c.edges
  level_edges = edges_fit n c.labels c.edges known 8 fits.labels_fit

  pub level_labels : EdgesFit n c.labels c.edges
  level_labels = edges_fit n c.labels c.edges known c.labels (omega arith)

  pub few_labels : c.labels ≤ 8
  few_labels = fits.labels_fit

  pub few_items : c.items ≤ 128
  few_items = fits.items_fit

  pub level_room : Room n c.k c.levels c.area
  level_room = record { few = fits.items_fit; short = some_levels.few_levels; levels_room = links.levels; area_room = links.area }

  top_size : length top ≡ n * n
  unfolding graph_of built_level
  top_size = go c.k some_levels.some_level
    where
      go : (k : ℕ) → 0 < k → length (level_of n (built_levels rule g k) k) ≡ n * n
      go Prim.Native.Nat.zero h = absurd (omega arith)
      go (suc k) h = level_size n (built_levels rule g (suc k)) k (omega (arith, levels_size rule g (suc k)))

  top_numbered : Contiguous top
  unfolding graph_of
  top_numbered = accepted_contiguous rule g c.k (built_level rule g) (level_ok_lem rule rule_laws g c.k some_levels.some_level) top_size

  module _ (levels' : List ℕ) (written : levels' ≡ front (built_levels rule g c.k) c.levels) where
    pub table_is : level_of n levels' c.k ≡ top
    unfolding front graph_of
    table_is =
        let ls = built_levels rule g c.k in
        ap (λ (l : List ℕ). level_of n l c.k) written
        ∙ level_front n ls (drop (length ls) c.levels) c.k (omega (arith, levels_size rule g c.k))
        ∙ level_written rule g c.k c.k (omega arith)

    pub standing : Standing n c.k levels'
    unfolding front graph_of
    standing =
        let ls = built_levels rule g c.k in
        record {
          few_items = fits.items_fit;
          some_level = some_levels.some_level;
          few_levels = some_levels.few_levels;
          room = omega (arith, ap length written, length-append ls (drop (length ls) c.levels), levels_size rule g c.k);
        }

  pub lists_ready : (classes : ℕ) (table area' : List ℕ) → classes ≡ max_of top → table ≡ top → length area' ≡ length c.area
      → ListsReady n c.labels c.k classes c.edges table c.starts c.order area'
  lists_ready classes table area' fc ft fa =
      subst (λ (t : List ℕ). ListsReady n c.labels c.k classes c.edges t c.starts c.order area') (sym ft)
      (record {
        stored = record {
          few_items = fits.items_fit;
          few_labels = fits.labels_fit;
          few_levels = some_levels.few_levels;
          square = top_size;
          numbered = top_numbered;
          inside = edges_inside n c.labels c.edges known fits.labels_fit;
          area_room = omega (arith, links.area, fa);
        };
        largest = fc;
        starts_room = omega (arith, links.starts);
        order_room = links.order;
      })

  pub tables_built : (table levels' area₁ starts' order' entries' area' : List ℕ) (r : Result Counts Refusal) → table ≡ top
      → levels' ≡ front (built_levels rule g c.k) c.levels → Past n c.area area₁
      → ListsWritten n g c.k table c.starts c.order c.entries area₁ r starts' order' entries' area'
      → EndsAs (build_tables c (index_for c)) (build_end r levels' starts' order' entries' area')
  unfolding build_tables index_for built_index top_of built_level graph_of
  tables_built table levels' area₁ starts' order' entries' area' r ft fl past w =
      let v = subst (λ (t : List ℕ). ListsWritten n g c.k t c.starts c.order c.entries area₁ r starts' order' entries' area') ft w in
      record {
        result = v.result;
        levels = fl;
        starts = v.starts_are;
        order = v.order_are;
        entries = v.entries_are;
        area = v.area_is ∙ zeroed_past n c.area area₁ past.rest;
      }

-- the promise of build
module _ (c : BuildCall) where
  pub builds_worked : (e : BuildEnd) → build_refusal c ≡ good → EndsAs (build_tables c (index_for c)) e → Builds c e
  builds_worked e ok w =
      let worked : build_tables c (index_for c) ≡ build c = unfold build in unfold build_after in rw ok refl in
      record {
        result = w.result ∙ ap (λ (b : BuildEnd). b.result) worked;
        levels = w.levels ∙ ap (λ (b : BuildEnd). b.levels) worked;
        starts = w.starts ∙ ap (λ (b : BuildEnd). b.starts) worked;
        order = w.order ∙ ap (λ (b : BuildEnd). b.order) worked;
        entries = w.entries ∙ ap (λ (b : BuildEnd). b.entries) worked;
        area = w.area ∙ ap (λ (b : BuildEnd). b.area) worked;
      }

  pub builds_refused : (r : Refusal) → build_refusal c ≡ refuse r → (s : Refusal) → s ≡ r
      → Builds c (build_end (Err s) c.levels c.starts c.order c.entries c.area)
  unfolding build build_after build_nothing
  builds_refused r refused s same =
      let nothing : build_nothing c r ≡ build c = rw refused refl in
      record {
        result = ap Err same ∙ ap (λ (b : BuildEnd). b.result) nothing;
        levels = ap (λ (b : BuildEnd). b.levels) nothing;
        starts = ap (λ (b : BuildEnd). b.starts) nothing;
        order = ap (λ (b : BuildEnd). b.order) nothing;
        entries = ap (λ (b : BuildEnd). b.entries) nothing;
        area = ap (λ (b : BuildEnd). b.area) nothing;
      }
