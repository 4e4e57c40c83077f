-- Demand 3, last part: what our builder writes, cut to the counts that it returned, is always accepted.
use Rattle.std.proofs.Common.{Err, Ok}
use Rattle.rules.specs.Outcomes.{counted}
use Prim.Native.Nat.{ℕ, suc, ◌*◌, ◌/◌, ◌%◌, ◌≤◌}
use mathlib.Core.Path.{◌≡◌, refl, sym, ap, ◌∙◌}
use mathlib.Core.List.{List}
use mathlib.Core.Bool.{Bool, true, false, cond}
use native.Mathlib.Nat.{mul-le-mul_right}
use native.Mathlib.Omega.{arith}
use lib.Dec.{leb}
use lib.ListN.{length, take, drop}
use Rattle.rules.specs.declared.Refusal.{Refusal}
use Rattle.rules.specs.declared.Refusal.TheVariants.{EntryRoom}
use Rattle.rules.specs.Graph.{Graph, graph_of}
use Rattle.rules.specs.Rule.{rule}
use Rattle.rules.specs.Levels.{max_of, level_of, built_levels, built_level}
use Rattle.rules.specs.Lists.{starts_of, order_of, entries_of}
use Rattle.rules.specs.Verdict.{Verdict, good, refuse, ◌or_else◌}
use Rattle.rules.specs.Accept.{top_of, Conditions, built_index}
use Rattle.rules.specs.declared.Counts.{Counts}
use Rattle.rules.specs.Outcomes.{front, handed_over, BuildCall, BuildEnd, build_refusal, build_nothing, build_tables, index_for, build_after, build, check_refusal, check_graph, check}
use Rattle.rules.proofs.Laws.Fronts.{front_take, front_length}
use Rattle.rules.proofs.Laws.Links.{sizes_fit, fits_room}
use Rattle.rules.proofs.Laws.Calls.{BuildPassed, build_passed}
use Rattle.rules.proofs.Laws.Levels.{levels_size, level_front, level_written}
use Rattle.rules.proofs.Laws.ClassLists.{starts_length}
use Rattle.rules.proofs.Laws.Entries.{Rising, none, more, up_rising}
use Rattle.rules.proofs.Laws.Builder.{accepted_same, builder_accepted}
use Rattle.rules.proofs.Theorems.Acceptance.{accepted_exactly}
use Rattle.rules.proofs.Laws.Lawful.{rule_laws}

refused_tables : {C : Type 0} {r : Refusal} {a b d : ℕ} → Err r ≡ Ok (counted a b d) → C
refused_tables e = let z : ◌≡◌ {A = ℕ} 0 1 = cc in absurd (omega arith)

-- an entry is two numbers
rising_even : {m a b : ℕ} {l : List ℕ} → Rising m a b l → length l % 2 ≡ 0
rising_even (none h) = refl
rising_even (more s h t r) = omega (arith, rising_even r)

module _ (c : BuildCall) (classes pairs entries : ℕ) where
  tables_told : (b : Bool) (x y z m : ℕ) → cond b (Ok (counted x y z)) (Err (EntryRoom m)) ≡ Ok (counted classes pairs entries)
      → (b ≡ true) × (x ≡ classes) × (y ≡ pairs) × (z ≡ entries)
  tables_told true x y z m e =
      let same : counted x y z ≡ counted classes pairs entries = cc in
      (refl, ap (λ (c : Counts). c.classes) same, ap (λ (c : Counts). c.pairs) same, ap (λ (c : Counts). c.entries) same)
  tables_told false x y z m e = refused_tables e

  after_good : (v : Verdict) → (build_after c v).result ≡ Ok (counted classes pairs entries) → v ≡ good
  unfolding build_after build_nothing
  after_good good e = refl
  after_good (refuse r) e = refused_tables e

  module _ (done : (build c).result ≡ Ok (counted classes pairs entries)) where
    abbrev g : Graph
    g = graph_of c.items c.labels c.edges

    abbrev top : List ℕ
    top = built_level rule g c.k

    pub unrefused : build_refusal c ≡ good
    unfolding build
    unrefused = after_good (build_refusal c) done

    worked : build c ≡ build_tables c (index_for c)
    unfolding build build_after
    worked = rw unrefused

    -- the counts that build returns are those of the tables that it defines
    pub counts : (leb (length (entries_of g c.k top) / 2) (length c.entries / 2) ≡ true) × (max_of top ≡ classes)
        × (length (order_of top) ≡ pairs) × (length (entries_of g c.k top) / 2 ≡ entries)
    unfolding build_tables index_for built_index top_of built_level graph_of
    counts =
        let many = length (entries_of g c.k top) / 2 in
        tables_told (leb many (length c.entries / 2)) (max_of top) (length (order_of top)) many many
        (sym (ap (λ (e : BuildEnd). e.result) worked) ∙ done)

    -- what build leaves in each table
    levels_are : (build c).levels ≡ front (built_levels rule g c.k) c.levels
    unfolding build_tables index_for built_index
    levels_are = ap (λ (e : BuildEnd). e.levels) worked

    starts_are : (build c).starts ≡ front (starts_of top) c.starts
    unfolding build_tables index_for built_index
    starts_are = ap (λ (e : BuildEnd). e.starts) worked

    order_are : (build c).order ≡ front (order_of top) c.order
    unfolding build_tables index_for built_index
    order_are = ap (λ (e : BuildEnd). e.order) worked

    entries_are : (build c).entries ≡ front (entries_of g c.k top) c.entries
    unfolding build_tables index_for built_index graph_of
    entries_are = ap (λ (e : BuildEnd). e.entries) worked ∙ rw counts.0

    -- each level that build leaves is the one that it defines
    pub level_is_built : (i : ℕ) → i ≤ c.k → built_level rule g i ≡ level_of c.items (build c).levels i
    unfolding front graph_of
    level_is_built i h =
        let ls = built_levels rule g c.k in
        sym (rw levels_are
        (level_front c.items ls (drop (length ls) c.levels) i (omega (arith, levels_size rule g c.k, mul-le-mul_right {m = i} {n = c.k} (c.items * c.items) h))
        ∙ level_written rule g c.k i h))

    top_is_built : top_of (handed_over c classes pairs entries) ≡ top
    unfolding top_of handed_over
    top_is_built = sym (level_is_built c.k (omega arith))

    abbrev links : BuildPassed c
    links = build_passed c unrefused

    entries_length : length (entries_of g c.k top) ≡ 2 * entries
    unfolding entries_of graph_of
    entries_length =
        omega (arith, counts.3, rising_even (up_rising g top (sizes_fit c.items c.labels links.sizes_good).labels_fit (max_of top) c.k))

    -- and so are the entries, cut to their count
    pub entries_cut : take (2 * entries) (build c).entries ≡ entries_of g c.k top
    entries_cut = rw entries_are (front_take (entries_of g c.k top) c.entries (2 * entries) entries_length)

    conditions : Conditions rule g (handed_over c classes pairs entries)
    unfolding handed_over starts_of entries_of graph_of
    conditions =
        record {
          levels = accepted_same rule rule_laws g c.k (built_level rule g) (level_of c.items (build c).levels) level_is_built (builder_accepted rule rule_laws g c.k);
          starts = ap starts_of top_is_built ∙ sym (rw starts_are (front_take (starts_of top) c.starts (suc classes) (starts_length top (max_of top) ∙ ap suc counts.1)));
          order = ap order_of top_is_built ∙ sym (rw order_are (front_take (order_of top) c.order pairs counts.2));
          entries = ap (entries_of g c.k) top_is_built ∙ sym entries_cut;
        }

    past_five : (area : List ℕ) → 9 * (c.items * c.items) ≤ length area
        → check_refusal (record { edges = c.edges; index = handed_over c classes pairs entries; area = area }) ≡ good
    unfolding check_refusal handed_over ◌or_else◌ graph_of
    past_five area h =
        rw (links.sizes_good, links.levels_good, links.count_good, links.edges_good, fits_room area (9 * (c.items * c.items)) h)
        (fits_room (build c).levels (c.k * (c.items * c.items))
        (rw (levels_are, front_length (built_levels rule g c.k) c.levels (rw (levels_size rule g c.k) links.levels)) links.levels))

    -- the check accepts it, with any area that is large enough
    pub builder_is_accepted : (area : List ℕ) → 9 * (c.items * c.items) ≤ length area
        → (check (record { edges = c.edges; index = handed_over c classes pairs entries; area = area })).result ≡ Ok tt
    unfolding graph_of check_graph handed_over
    builder_is_accepted area h =
        (accepted_exactly (record { edges = c.edges; index = handed_over c classes pairs entries; area = area })).1 (past_five area h, conditions)
