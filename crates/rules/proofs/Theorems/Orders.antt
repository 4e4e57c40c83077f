-- The order of refusals: for neighbours in each entry's order an input with both faults, and the refusal that comes first. Each holds by computation.
use Rattle.std.proofs.Common.{Err}
use Prim.Native.Nat.{ℕ}
use mathlib.Core.Path.{◌≡◌, refl}
use mathlib.Core.List.{List, [], ◌∷◌, ◌++◌}
use lib.ListN.{replicate}
use Rattle.rules.specs.declared.Refusal.TheVariants.{Sizes, LevelCount, EdgeCount, Edge, Room, QueryLength, Unknown, FewOperands, OperandsLeft, TooLong, LevelFault, ListFault}
use Rattle.rules.specs.Finite.{any_below, all_below, first_below, list_below, table_below}
use Rattle.rules.specs.Graph.{edge_is, has_edge, graph_of, leads, adjacent, connected}
use Rattle.rules.specs.Rule.{rule}
use Rattle.rules.specs.Query.{diameter, reach, atom_by, meets_by, answer_by, answer_of}
use Rattle.rules.specs.Reading.{token_of, push, fold2, act, end, read_from, read_tokens}
use Rattle.rules.specs.Levels.{number_at, same_ends, same_steps, is_twin, has_twin, twins, split_ok, agree, agree_at, connected_at, max_of, first_of, matches, next_number, numbering, level_of, stack, level_over, built_levels, built_level}
use Rattle.rules.specs.Lists.{pairs_of, order_up_to, starts_up_to, joins, code_from, joins_class, entries_for, each_up_to, entries_behind, entries_up_to, starts_of, order_of, entries_of}
use Rattle.rules.specs.Verdict.{◌or_else◌, when, sizes, level_count, edge_count, bad_edge, first_bad, edges_fit, room, well_read, query_of, within_diameter, few_symbols, known_symbols}
use Rattle.rules.specs.Accept.{number_ok, level_ok, first_fault, levels_right, difference, same_list, top_of, accepts, built_index}
use Rattle.rules.specs.Outcomes.{front, zeroed, BuildCall, build_refusal, build_nothing, build_tables, index_for, build_after, build, CheckCall, check_refusal, check_graph, told, check_after, check, answer_after, DirectCall, direct_refusal, direct_list, direct, StoredCall, stored_refusal, stored, ClassCall, class_refusal, class, lookup_after, lookup_bounds}
use Rattle.rules.proofs.Theorems.Examples.{edges, level1, level2, starts, order, entries}

-- direct answers on V items with the given edges, tokens and bytes of area, and no room for an answer
abbrev asking : ℕ → List ℕ → List ℕ → ℕ → DirectCall
asking items edges tokens bytes =
    record { items = items; labels = 2; edges = edges; tokens = tokens; answers = []; area = replicate bytes 7 }

-- the same on stored tables
abbrev asking_stored : ℕ → List ℕ → ℕ → StoredCall
asking_stored items tokens bytes =
    record { items = items; labels = 2; table = level2; entries = entries; tokens = tokens; answers = []; area = replicate bytes 7 }

-- class answers, with k
abbrev asking_classes : ℕ → List ℕ → ℕ → ClassCall
asking_classes k tokens bytes =
    record { items = 4; labels = 2; k = k; table = level2; entries = entries; tokens = tokens; answers = []; area = replicate bytes 7 }

-- build with k, edges and bytes of area, and no room for entries
abbrev building : ℕ → ℕ → List ℕ → ℕ → BuildCall
building items k edges bytes =
    record { items = items; labels = 2; k = k; edges = edges; levels = replicate 32 7; starts = replicate 17 7; order = replicate 16 7; entries = []; area = replicate bytes 7 }

-- check of the document's tables with other levels, starts and order, and no entries
abbrev checking : List ℕ → List ℕ → List ℕ → ℕ → CheckCall
checking levels starts order bytes =
    record {
      edges = edges;
      index = record { items = 4; labels = 2; k = 2; levels = levels; starts = starts; order = order; entries = [] };
      area = replicate bytes 7;
    }

pub record Orders : Type 0 where
  -- direct: 1 3 4 7, the first faulty token, 11, 5, 13
  pub direct_1_3 : (direct (asking 129 (0 ∷ []) [] 0)).result ≡ Err Sizes
  pub direct_3_4 : (direct (asking 4 (9 ∷ 9 ∷ 9 ∷ 9 ∷ []) [] 0)).result ≡ Err EdgeCount
  pub direct_4_7 : (direct (asking 4 (9 ∷ 9 ∷ 9 ∷ []) [] 0)).result ≡ Err (Edge 0)
  pub direct_7_5 : (direct (asking 4 edges [] 0)).result ≡ Err QueryLength
  pub direct_token_11 : (direct (asking 4 edges (1 ∷ 1 ∷ 5 ∷ []) 0)).result ≡ Err (Unknown 2)
  pub direct_first_token : (direct (asking 4 edges (1 ∷ 32 ∷ 5 ∷ []) 0)).result ≡ Err (FewOperands 1)
  pub direct_11_5 : (direct (asking 4 edges (1 ∷ 1 ∷ []) 0)).result ≡ Err OperandsLeft
  pub direct_5_13 : (direct (asking 4 edges (1 ∷ []) 143)).result ≡ Err Room
  -- stored: 1, 7, the first faulty token, 11, 5, 13
  pub stored_1_7 : (stored (asking_stored 129 [] 0)).result ≡ Err Sizes
  pub stored_7_5 : (stored (asking_stored 4 [] 0)).result ≡ Err QueryLength
  pub stored_11_5 : (stored (asking_stored 4 (1 ∷ 1 ∷ []) 0)).result ≡ Err OperandsLeft
  pub stored_5_13 : (stored (asking_stored 4 (1 ∷ []) 143)).result ≡ Err Room
  -- class: 1, 2, 7, the first faulty token, 11, 12, 5, 13
  pub class_2_7 : (class (asking_classes 5 [] 0)).result ≡ Err LevelCount
  pub class_11_12 : (class (asking_classes 1 (1 ∷ 2 ∷ 32 ∷ 1 ∷ []) 0)).result ≡ Err OperandsLeft
  pub class_12_5 : (class (asking_classes 1 (1 ∷ 2 ∷ 32 ∷ []) 0)).result ≡ Err TooLong
  pub class_5_13 : (class (asking_classes 2 (1 ∷ []) 143)).result ≡ Err Room
  -- build: 1 2 3 4 5 6
  pub build_1_2 : (build (building 129 0 edges 0)).result ≡ Err Sizes
  pub build_2_3 : (build (building 4 0 (0 ∷ []) 0)).result ≡ Err LevelCount
  pub build_3_4 : (build (building 4 2 (9 ∷ 9 ∷ 9 ∷ 9 ∷ []) 0)).result ≡ Err EdgeCount
  pub build_4_5 : (build (building 4 2 (9 ∷ 9 ∷ 9 ∷ []) 0)).result ≡ Err (Edge 0)
  pub build_5_6 : (build (building 4 2 edges 143)).result ≡ Err Room
  -- check: 5 15 16 17
  pub check_5_15 : (check (checking (replicate 32 0) starts order 143)).result ≡ Err Room
  pub check_15_16 : (check (checking (replicate 32 0) [] [] 144)).result ≡ Err (LevelFault 1 0)
  pub check_16_starts_order : (check (checking (level1 ++ level2) [] [] 144)).result ≡ Err (ListFault 1 0)
  pub check_16_17 : (check (checking (level1 ++ level2) starts [] 144)).result ≡ Err (ListFault 2 0)
  -- lookup: 12, 8
  pub lookup_12_8 : lookup_bounds (0 ∷ 0 ∷ 0 ∷ 0 ∷ 0 ∷ []) [] ≡ Err TooLong

pub orders : Orders
unfolding build build_refusal build_after build_tables build_nothing index_for built_index top_of front zeroed ◌or_else◌ when sizes level_count edge_count edges_fit first_bad bad_edge room any_below all_below first_below list_below table_below edge_is has_edge graph_of leads adjacent connected rule number_at same_ends same_steps is_twin has_twin twins split_ok agree agree_at connected_at max_of first_of matches next_number numbering level_of stack level_over built_levels built_level pairs_of order_up_to starts_up_to joins code_from joins_class entries_for each_up_to entries_behind entries_up_to starts_of order_of entries_of number_ok level_ok first_fault levels_right difference same_list accepts check check_after check_refusal check_graph told direct direct_refusal direct_list answer_after stored stored_refusal well_read query_of atom_by meets_by answer_by answer_of token_of push fold2 act end read_from read_tokens class class_refusal within_diameter diameter reach lookup_bounds lookup_after few_symbols known_symbols
orders =
    record {
      direct_1_3 = refl;
      direct_3_4 = refl;
      direct_4_7 = refl;
      direct_7_5 = refl;
      direct_token_11 = refl;
      direct_first_token = refl;
      direct_11_5 = refl;
      direct_5_13 = refl;
      stored_1_7 = refl;
      stored_7_5 = refl;
      stored_11_5 = refl;
      stored_5_13 = refl;
      class_2_7 = refl;
      class_11_12 = refl;
      class_12_5 = refl;
      class_5_13 = refl;
      build_1_2 = refl;
      build_2_3 = refl;
      build_3_4 = refl;
      build_4_5 = refl;
      build_5_6 = refl;
      check_5_15 = refl;
      check_15_16 = refl;
      check_16_starts_order = refl;
      check_16_17 = refl;
      lookup_12_8 = refl;
    }
