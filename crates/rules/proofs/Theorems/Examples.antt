-- P1 to P12 of document 01, as one list, over the outcomes of the entries: each holds by computation. The index of the document is computed once.
use Rattle.std.proofs.Common.{Err, Ok}
use Rattle.rules.specs.Outcomes.{counted}
use Prim.Native.Nat.{ℕ}
use mathlib.Core.Path.{◌≡◌, refl, ap, ◌∙◌}
use mathlib.Core.List.{List, [], ◌∷◌, ◌++◌}
use lib.ListN.{length, take, drop, replicate}
use Rattle.rules.specs.declared.Refusal.{Refusal}
use Rattle.rules.specs.declared.Refusal.TheVariants.{EntryRoom, Unknown, FewOperands, OperandsLeft, TooLong}
use Rattle.rules.specs.Finite.{any_below, all_below, first_below, list_below, table_below}
use Rattle.rules.specs.Graph.{edge_is, has_edge, graph_of, leads, adjacent, connected}
use Rattle.rules.specs.Rule.{rule}
use Rattle.rules.specs.Query.{diameter, reach, atom_by, meets_by, answer_by, answer_of}
use Rattle.rules.specs.Reading.{token_of, push, fold2, act, end, read_from, read_tokens}
use Rattle.rules.specs.Levels.{number_at, same_ends, same_steps, is_twin, has_twin, twins, split_ok, agree, agree_at, connected_at, max_of, first_of, matches, next_number, numbering, level_of, stack, level_over, built_levels, built_level}
use Rattle.rules.specs.Lists.{pairs_of, order_up_to, starts_up_to, joins, code_from, joins_class, entries_for, each_up_to, entries_behind, entries_up_to, starts_of, order_of, entries_of}
use Rattle.rules.specs.Verdict.{good, ◌or_else◌, when, sizes, level_count, edge_count, bad_edge, first_bad, edges_fit, room, well_read, query_of, within_diameter}
use Rattle.rules.specs.Accept.{Index, top_of, built_index}
use Rattle.rules.specs.Outcomes.{front, zeroed, BuildCall, BuildEnd, build_refusal, build_tables, index_for, build_after, build, AnswerEnd, answer_after, DirectCall, direct_refusal, direct_list, direct, ClassCall, class_refusal, class}

-- the document's edge table: source, target, label
abbrev pub edges : List ℕ
edges = 0 ∷ 2 ∷ 0 ∷ 1 ∷ 2 ∷ 0 ∷ 3 ∷ 2 ∷ 1 ∷ []

abbrev pub level1 : List ℕ
level1 = 1 ∷ 0 ∷ 2 ∷ 0 ∷ 0 ∷ 1 ∷ 2 ∷ 0 ∷ 3 ∷ 3 ∷ 1 ∷ 4 ∷ 0 ∷ 0 ∷ 5 ∷ 1 ∷ []

abbrev pub level2 : List ℕ
level2 = 1 ∷ 2 ∷ 3 ∷ 4 ∷ 2 ∷ 1 ∷ 3 ∷ 4 ∷ 5 ∷ 5 ∷ 6 ∷ 7 ∷ 8 ∷ 8 ∷ 9 ∷ 10 ∷ []

abbrev pub starts : List ℕ
starts = 0 ∷ 2 ∷ 4 ∷ 6 ∷ 8 ∷ 10 ∷ 11 ∷ 12 ∷ 14 ∷ 15 ∷ 16 ∷ []

abbrev pub order : List ℕ
order = 0 ∷ 5 ∷ 1 ∷ 4 ∷ 2 ∷ 6 ∷ 3 ∷ 7 ∷ 8 ∷ 9 ∷ 10 ∷ 11 ∷ 12 ∷ 13 ∷ 14 ∷ 15 ∷ []

abbrev pub entries : List ℕ
entries =
    0 ∷ 1 ∷ 0 ∷ 6 ∷ 0 ∷ 10 ∷ 1 ∷ 3 ∷ 2 ∷ 5 ∷ 3 ∷ 9 ∷ 4 ∷ 7 ∷ 19 ∷ 1 ∷ 19 ∷ 2 ∷ 21 ∷ 4 ∷ 35 ∷ 6 ∷ 53 ∷ 8 ∷ 55 ∷ 10 ∷ 71 ∷ 6 ∷ []

-- what a lent list holds before the call: n times the number x
abbrev lent : ℕ → ℕ → List ℕ
lent n x = replicate n x

-- build on the document's table with k 2: exact levels and order, starts for V²+1 classes, room for as many entry numbers
abbrev pub building : ℕ → BuildCall
building room = record {
  items = 4;
  labels = 2;
  k = 2;
  edges = edges;
  levels = lent 32 7;
  starts = lent 17 7;
  order = lent 16 7;
  entries = lent room 7;
  area = lent 144 7;
}

-- direct answer on the document's table with room for five answers
abbrev pub asking : List ℕ → DirectCall
asking tokens = record { items = 4; labels = 2; edges = edges; tokens = tokens; answers = lent 5 7; area = lent 144 7 }

-- class answer on the document's tables
abbrev pub asking_classes : List ℕ → ClassCall
asking_classes tokens =
    record { items = 4; labels = 2; k = 2; table = level2; entries = entries; tokens = tokens; answers = lent 5 7; area = lent 144 7 }

-- V = 0, with the least lists
abbrev nothing : BuildCall
nothing = record { items = 0; labels = 1; k = 1; edges = []; levels = []; starts = lent 1 7; order = []; entries = []; area = [] }

abbrev asking_nothing : DirectCall
asking_nothing = record { items = 0; labels = 1; edges = []; tokens = 0 ∷ []; answers = []; area = [] }

-- an answer list, numbers past it unchanged
abbrev answered : List ℕ → List ℕ → AnswerEnd
answered list rest = record { result = Ok (length list); answers = list ++ rest; area = lent 144 0 }

-- refused before any work
abbrev refused : Refusal → AnswerEnd
refused r = record { result = Err r; answers = lent 5 7; area = lent 144 7 }

-- 6: the need; levels, starts, order and area as for 0, entries unchanged
abbrev short : ℕ → BuildEnd
short room =
    record {
      result = Err (EntryRoom 14);
      levels = level1 ++ level2;
      starts = starts ++ lent 6 7;
      order = order;
      entries = lent room 7;
      area = lent 144 0;
    }

-- the list
pub record Examples : Type 0 where
  pub P1 : take 16 (build (building 28)).levels ≡ level1
  pub P2 : drop 16 (build (building 28)).levels ≡ level2
  pub P3 : (build (building 28)).starts ≡ starts ++ lent 6 7
  pub P4 : (build (building 28)).order ≡ order
  pub P5 : (build (building 28)).entries ≡ entries
  pub P5_counts : (build (building 28)).result ≡ Ok (counted 10 16 14)
  pub P6 : direct (asking (1 ∷ 2 ∷ 32 ∷ [])) ≡ answered (0 ∷ 1 ∷ 4 ∷ 5 ∷ []) (lent 1 7)
  pub P7 : direct (asking (1 ∷ 2 ∷ 32 ∷ 1 ∷ 32 ∷ [])) ≡ answered (2 ∷ 6 ∷ []) (lent 3 7)
  pub P7_classes : class (asking_classes (1 ∷ 2 ∷ 32 ∷ 1 ∷ 32 ∷ [])) ≡ refused TooLong
  pub P8 : direct (asking (5 ∷ [])) ≡ refused (Unknown 0)
  pub P9 : direct (asking (1 ∷ 32 ∷ [])) ≡ refused (FewOperands 1)
  pub P10 : direct (asking (1 ∷ 2 ∷ [])) ≡ refused OperandsLeft
  pub P11 : build (building 26) ≡ short 26
  pub P11_odd : build (building 27) ≡ short 27
  pub P12 : build nothing ≡ record { result = Ok (counted 0 0 0); levels = []; starts = 0 ∷ []; order = []; entries = []; area = [] }
  pub P12_identity : direct asking_nothing ≡ record { result = Ok 0; answers = []; area = [] }

-- the index of the document's table, computed once for all the examples that build it
abbrev index : Index
index = record { items = 4; labels = 2; k = 2; levels = level1 ++ level2; starts = starts; order = order; entries = entries }

built : (room : ℕ) → index_for (building room) ≡ index
unfolding index_for built_index any_below all_below first_below list_below edge_is has_edge graph_of leads adjacent connected rule number_at same_ends same_steps is_twin has_twin twins split_ok agree agree_at connected_at max_of first_of matches next_number numbering level_of stack level_over built_levels built_level pairs_of order_up_to starts_up_to joins code_from joins_class entries_for each_up_to entries_behind entries_up_to starts_of order_of entries_of
built room = refl

-- what build does with it
tables : (room : ℕ) → build_refusal (building room) ≡ good → build (building room) ≡ build_tables (building room) index
unfolding build build_after
tables room e = ap (build_after (building room)) e ∙ ap (build_tables (building room)) (built room)

-- no items
empty : build nothing ≡ record { result = Ok (counted 0 0 0); levels = []; starts = 0 ∷ []; order = []; entries = []; area = [] }
unfolding build build_refusal build_after build_tables index_for built_index top_of front zeroed ◌or_else◌ when sizes level_count edge_count edges_fit first_bad room first_below table_below graph_of max_of numbering level_of stack level_over built_levels built_level order_up_to starts_up_to entries_for each_up_to entries_behind entries_up_to starts_of order_of entries_of
empty = refl

pub examples : Examples
unfolding build_refusal build_tables top_of front zeroed ◌or_else◌ when sizes level_count edge_count edges_fit first_bad bad_edge room any_below first_below list_below table_below edge_is has_edge graph_of leads max_of level_of direct direct_refusal direct_list answer_after well_read query_of atom_by meets_by answer_by answer_of token_of push fold2 act end read_from read_tokens class class_refusal within_diameter diameter reach
examples =
    record {
      P1 = ap (λ (e : BuildEnd). take 16 e.levels) (tables 28 refl);
      P2 = ap (λ (e : BuildEnd). drop 16 e.levels) (tables 28 refl);
      P3 = ap (λ (e : BuildEnd). e.starts) (tables 28 refl);
      P4 = ap (λ (e : BuildEnd). e.order) (tables 28 refl);
      P5 = ap (λ (e : BuildEnd). e.entries) (tables 28 refl);
      P5_counts = ap (λ (e : BuildEnd). e.result) (tables 28 refl);
      P6 = refl;
      P7 = refl;
      P7_classes = refl;
      P8 = refl;
      P9 = refl;
      P10 = refl;
      P11 = tables 26 refl;
      P11_odd = tables 27 refl;
      P12 = empty;
      P12_identity = refl;
    }
