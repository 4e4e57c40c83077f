-- The document's example, and the empty input, by computation.
use Prim.Native.Nat.{ℕ}
use mathlib.Core.Path.{◌≡◌, refl}
use mathlib.Core.List.{List, [], ◌∷◌, ◌++◌}
use Rattle.hexa.specs.Digits.{value_of, digit_of, and_digit, number_at as digits_at, put_digits}
use Rattle.rules.specs.Finite.{any_below, all_below, first_below, list_below, table_below}
use Rattle.rules.specs.Graph.{edge_is, has_edge, graph_of, leads, adjacent, connected}
use Rattle.rules.specs.Rule.{rule}
use Rattle.rules.specs.Query.{reach, atom_by, meets_by, answer_by as answer_over}
use Rattle.rules.specs.Reading.{token_of, push, fold2, act, end, read_from, read_tokens}
use Rattle.rules.specs.Levels.{number_at, same_ends, same_steps, is_twin, has_twin, twins, split_ok, agree, agree_at, connected_at, max_of, first_of, matches, next_number, numbering, level_of, stack, level_over, built_levels, built_level}
use Rattle.rules.specs.Lists.{pairs_of, order_up_to, starts_up_to, joins, code_from, joins_class, entries_for, each_up_to, entries_behind, entries_up_to, starts_of, order_of, entries_of}
use Rattle.rules.specs.Stored.{code_at, class_at, part_from, part_to, stands, stored_step, stored_answer}
use Rattle.rules.specs.Verdict.{◌or_else◌, when, sizes, level_count, edge_count, bad_edge, first_bad, edges_fit, room, well_read, query_of}
use Rattle.rules.specs.Accept.{top_of, built_index}
use Rattle.rules.specs.Outcomes.{front, zeroed, build_refusal, build_nothing, build_tables, index_for, build_after, build, answer_after, stored_refusal, stored_list, stored}
use Rattle.rules.specs.Numbers.{of_refusal}
use Rattle.format.specs.Frames.{three, fields_of, sizes_by, edge_by, token_count, is_token, token_at, all_tokens, tokens_of, frame_by, frame_of}
use Rattle.format.specs.Texts.{refusal_text, built_text, positions, list_text, answer_by, answer_text}
use Rattle.machine.specs.Machine.{is_stopped, silent, stops, build_call, built_by, builds, stored_call, answers, on_sizes, on_edge, asked, on_query, on_frame, bad_frame, on_line, beginning, next_line, turned, end_line, keep, byte, after, feed, last_by, last_line, ended, finish, run}

-- the document's input
abbrev pub input : List ℕ
input =
    (48 ∷ 49 ∷ 48 ∷ 48 ∷ 48 ∷ 52 ∷ 48 ∷ 50 ∷ 48 ∷ 50 ∷ 10 ∷ [])
    ++ (48 ∷ 50 ∷ 48 ∷ 48 ∷ 48 ∷ 48 ∷ 48 ∷ 48 ∷ 48 ∷ 50 ∷ 48 ∷ 48 ∷ 10 ∷ [])
    ++ (48 ∷ 50 ∷ 48 ∷ 48 ∷ 48 ∷ 49 ∷ 48 ∷ 48 ∷ 48 ∷ 50 ∷ 48 ∷ 48 ∷ 10 ∷ [])
    ++ (48 ∷ 50 ∷ 48 ∷ 48 ∷ 48 ∷ 51 ∷ 48 ∷ 48 ∷ 48 ∷ 50 ∷ 48 ∷ 49 ∷ 10 ∷ [])
    ++ (48 ∷ 51 ∷ 48 ∷ 49 ∷ 48 ∷ 50 ∷ 50 ∷ 48 ∷ 10 ∷ [])
    ++ (48 ∷ 51 ∷ 48 ∷ 49 ∷ 48 ∷ 50 ∷ 50 ∷ 48 ∷ 48 ∷ 48 ∷ 50 ∷ 49 ∷ 10 ∷ [])
    ++ (48 ∷ 51 ∷ 48 ∷ 50 ∷ 48 ∷ 49 ∷ 50 ∷ 48 ∷ 48 ∷ 52 ∷ 48 ∷ 51 ∷ 50 ∷ 48 ∷ 50 ∷ 49 ∷ 10 ∷ [])
    ++ (48 ∷ 51 ∷ 48 ∷ 49 ∷ 48 ∷ 51 ∷ 50 ∷ 48 ∷ 10 ∷ [])

-- the document's output
abbrev pub output : List ℕ
output =
    (56 ∷ 49 ∷ 48 ∷ 48 ∷ 48 ∷ 65 ∷ 48 ∷ 48 ∷ 49 ∷ 48 ∷ 48 ∷ 48 ∷ 48 ∷ 69 ∷ 10 ∷ [])
    ++ (56 ∷ 51 ∷ 48 ∷ 48 ∷ 48 ∷ 52 ∷ 48 ∷ 48 ∷ 48 ∷ 48 ∷ 48 ∷ 48 ∷ 48 ∷ 49 ∷ 48 ∷ 48 ∷ 48 ∷ 52 ∷ 48 ∷ 48 ∷ 48 ∷ 53 ∷ 10 ∷ [])
    ++ (56 ∷ 51 ∷ 48 ∷ 48 ∷ 48 ∷ 50 ∷ 48 ∷ 48 ∷ 48 ∷ 48 ∷ 48 ∷ 48 ∷ 48 ∷ 53 ∷ 10 ∷ [])
    ++ (56 ∷ 51 ∷ 48 ∷ 48 ∷ 48 ∷ 49 ∷ 48 ∷ 48 ∷ 48 ∷ 65 ∷ 10 ∷ [])
    ++ (56 ∷ 51 ∷ 48 ∷ 48 ∷ 48 ∷ 48 ∷ 10 ∷ [])

-- the example of the document gives exactly its output
pub example : run input ≡ output
unfolding value_of digit_of and_digit digits_at put_digits any_below all_below first_below list_below table_below edge_is has_edge graph_of leads adjacent connected rule reach atom_by meets_by answer_over token_of push fold2 act end read_from read_tokens number_at same_ends same_steps is_twin has_twin twins split_ok agree agree_at connected_at max_of first_of matches next_number numbering level_of stack level_over built_levels built_level pairs_of order_up_to starts_up_to joins code_from joins_class entries_for each_up_to entries_behind entries_up_to starts_of order_of entries_of code_at class_at part_from part_to stands stored_step stored_answer ◌or_else◌ when sizes level_count edge_count bad_edge first_bad edges_fit room well_read query_of top_of built_index front zeroed build_refusal build_nothing build_tables index_for build_after build answer_after stored_refusal stored_list stored of_refusal three fields_of sizes_by edge_by token_count is_token token_at all_tokens tokens_of frame_by frame_of refusal_text built_text positions list_text answer_by answer_text is_stopped silent stops build_call built_by builds stored_call answers on_sizes on_edge asked on_query on_frame bad_frame on_line beginning next_line turned end_line keep byte after feed last_by last_line ended finish run
example = refl

-- empty input prints FF1200000001
pub empty : run [] ≡ 70 ∷ 70 ∷ 49 ∷ 50 ∷ 48 ∷ 48 ∷ 48 ∷ 48 ∷ 48 ∷ 48 ∷ 48 ∷ 49 ∷ 10 ∷ []
unfolding is_stopped silent stops build_call built_by builds stored_call answers on_sizes on_edge asked on_query on_frame bad_frame on_line beginning next_line turned end_line keep byte after feed last_by last_line ended finish run refusal_text of_refusal put_digits digit_of
empty = refl
