-- The limits: for each number of the refusal table the last input that is let through and the first that is refused. Each holds by computation.
use Rattle.std.proofs.Common.{Err, Ok}
use Rattle.rules.specs.Outcomes.{span}
use mathlib.Core.Path.{◌≡◌, refl}
use mathlib.Core.Bool.{true, false}
use mathlib.Core.List.{[], ◌∷◌}
use lib.ListN.{replicate}
use Rattle.rules.specs.declared.Refusal.TheVariants.{Sizes, LevelCount, EdgeCount, Edge, Room, Unknown, TooLong, NoClass, ListFault}
use Rattle.rules.specs.Finite.{any_below, all_below, first_below}
use Rattle.rules.specs.Graph.{edge_is, has_edge, graph_of, leads, adjacent, connected}
use Rattle.rules.specs.Rule.{rule}
use Rattle.rules.specs.Levels.{number_at, same_ends, same_steps, split_ok, agree, agree_at, connected_at, max_of, first_of, level_of}
use Rattle.rules.specs.Lists.{code_from}
use Rattle.rules.specs.Stored.{code_at, part_from, part_to}
use Rattle.rules.specs.Verdict.{good, refuse, ◌or_else◌, when, sizes, level_count, edge_count, bad_edge, first_bad, edges_fit, room, few_symbols, known_symbols}
use Rattle.rules.specs.Accept.{number_ok, level_ok, difference, same_list}
use Rattle.rules.specs.Outcomes.{front, class_bounds, run_bounds, lookup_after, lookup_bounds}

pub record Limits : Type 0 where
  -- 1
  pub items_128 : sizes 128 8 ≡ good
  pub items_129 : sizes 129 8 ≡ refuse Sizes
  pub no_items : sizes 0 1 ≡ good
  pub no_label : sizes 0 0 ≡ refuse Sizes
  pub labels_9 : sizes 0 9 ≡ refuse Sizes
  -- 2
  pub levels_0 : level_count 0 ≡ refuse LevelCount
  pub levels_1 : level_count 1 ≡ good
  pub levels_4 : level_count 4 ≡ good
  pub levels_5 : level_count 5 ≡ refuse LevelCount
  -- 3
  pub edges_4096 : edge_count (replicate 12288 0) ≡ good
  pub edges_4097 : edge_count (replicate 12291 0) ≡ refuse EdgeCount
  pub edge_cut : edge_count (0 ∷ 0 ∷ []) ≡ refuse EdgeCount
  -- 4
  pub edge_inside : edges_fit 2 2 (1 ∷ 1 ∷ 1 ∷ []) ≡ good
  pub source_outside : edges_fit 2 2 (2 ∷ 1 ∷ 1 ∷ []) ≡ refuse (Edge 0)
  pub target_outside : edges_fit 2 2 (0 ∷ 0 ∷ 0 ∷ 1 ∷ 2 ∷ 1 ∷ []) ≡ refuse (Edge 1)
  pub label_outside : edges_fit 3 1 (1 ∷ 1 ∷ 1 ∷ 3 ∷ 3 ∷ 3 ∷ []) ≡ refuse (Edge 0)
  -- 5
  pub room_exact : room (7 ∷ 7 ∷ []) 2 ≡ good
  pub room_short : room (7 ∷ 7 ∷ []) 3 ≡ refuse Room
  -- 8 and 12 of lookup, and a lone last number
  pub symbol_0 : known_symbols (1 ∷ 0 ∷ []) ≡ refuse (Unknown 1)
  pub symbol_16 : known_symbols (16 ∷ []) ≡ good
  pub symbol_17 : known_symbols (17 ∷ []) ≡ refuse (Unknown 0)
  pub symbols_4 : few_symbols (1 ∷ 1 ∷ 1 ∷ 1 ∷ []) ≡ good
  pub symbols_5 : few_symbols (1 ∷ 1 ∷ 1 ∷ 1 ∷ 1 ∷ []) ≡ refuse TooLong
  pub lone_number : lookup_bounds (1 ∷ []) (1 ∷ 5 ∷ 1 ∷ []) ≡ Ok (span 0 2)
  -- 14
  pub class_0 : class_bounds 0 (0 ∷ 1 ∷ []) (7 ∷ []) ≡ Err NoClass
  pub class_1 : class_bounds 1 (0 ∷ 1 ∷ []) (7 ∷ []) ≡ Ok (span 0 1)
  pub class_empty : class_bounds 1 (1 ∷ 1 ∷ []) (7 ∷ []) ≡ Ok (span 1 1)
  pub no_place : class_bounds 1 (0 ∷ []) (7 ∷ []) ≡ Err NoClass
  pub out_of_order : class_bounds 1 (1 ∷ 0 ∷ []) (7 ∷ []) ≡ Err NoClass
  pub past_order : class_bounds 1 (0 ∷ 2 ∷ []) (7 ∷ []) ≡ Err NoClass
  -- 15, on two items without an edge: 0 though connected, not 0 though not connected, two above the largest before
  pub level_right : level_ok rule (graph_of 2 1 []) 1 (level_of 2 (1 ∷ 0 ∷ 0 ∷ 2 ∷ [])) 3 ≡ true
  pub zero_though_connected : level_ok rule (graph_of 2 1 []) 1 (level_of 2 (1 ∷ 0 ∷ 0 ∷ 0 ∷ [])) 3 ≡ false
  pub number_though_not : level_ok rule (graph_of 2 1 []) 1 (level_of 2 (1 ∷ 2 ∷ 0 ∷ 1 ∷ [])) 1 ≡ false
  pub two_above : level_ok rule (graph_of 2 1 []) 1 (level_of 2 (1 ∷ 0 ∷ 0 ∷ 3 ∷ [])) 3 ≡ false
  -- A: (0,0) of an item with a loop is no (0,1), whose step is the same
  pub ends_differ : agree rule (graph_of 2 1 (0 ∷ 0 ∷ 0 ∷ 1 ∷ 0 ∷ 0 ∷ 0 ∷ 1 ∷ 0 ∷ [])) 1 (level_of 2 []) 0 0 0 1 ≡ false
  -- 16: the first difference, or the shorter length
  pub list_shorter : same_list (0 ∷ 1 ∷ []) (0 ∷ []) (ListFault 1) ≡ refuse (ListFault 1 1)
  pub list_longer : same_list (0 ∷ []) (0 ∷ 1 ∷ []) (ListFault 1) ≡ refuse (ListFault 1 1)
  -- a list written at the front leaves what stands behind it
  pub behind_unchanged : front (1 ∷ []) (7 ∷ 8 ∷ []) ≡ (1 ∷ 8 ∷ [])

pub limits : Limits
unfolding sizes level_count edge_count edges_fit first_bad bad_edge room few_symbols known_symbols when ◌or_else◌ lookup_bounds lookup_after run_bounds part_from part_to code_at code_from class_bounds level_ok number_ok level_of max_of first_of connected_at connected adjacent agree_at agree same_ends same_steps split_ok number_at any_below all_below first_below leads graph_of has_edge edge_is rule same_list difference front
limits =
    record {
      items_128 = refl;
      items_129 = refl;
      no_items = refl;
      no_label = refl;
      labels_9 = refl;
      levels_0 = refl;
      levels_1 = refl;
      levels_4 = refl;
      levels_5 = refl;
      edges_4096 = refl;
      edges_4097 = refl;
      edge_cut = refl;
      edge_inside = refl;
      source_outside = refl;
      target_outside = refl;
      label_outside = refl;
      room_exact = refl;
      room_short = refl;
      symbol_0 = refl;
      symbol_16 = refl;
      symbol_17 = refl;
      symbols_4 = refl;
      symbols_5 = refl;
      lone_number = refl;
      class_0 = refl;
      class_1 = refl;
      class_empty = refl;
      no_place = refl;
      out_of_order = refl;
      past_order = refl;
      level_right = refl;
      zero_though_connected = refl;
      number_though_not = refl;
      two_above = refl;
      ends_differ = refl;
      list_shorter = refl;
      list_longer = refl;
      behind_unchanged = refl;
    }
