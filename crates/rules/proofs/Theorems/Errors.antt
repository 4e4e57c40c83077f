-- Errors that look right: for each line of document 01's list an example that the wrong rule would get wrong, and a finer table that the check must accept.
use mathlib.Core.Path.{◌≡◌, refl}
use mathlib.Core.List.{[], ◌∷◌, ◌++◌}
use Rattle.rules.specs.declared.Refusal.TheVariants.{LevelFault}
use Rattle.rules.specs.Finite.{any_below, all_below, first_below, list_below}
use Rattle.rules.specs.Graph.{Graph, edge_is, has_edge, graph_of, leads, adjacent, connected}
use Rattle.rules.specs.Rule.{rule}
use Rattle.rules.specs.Query.{atom, join, identity, step, atom_by, meets_by, answer_by, answer_of}
use Rattle.rules.specs.Levels.{number_at, same_ends, same_steps, is_twin, has_twin, twins, split_ok, agree, agree_at, connected_at, max_of, first_of, matches, next_number, numbering, level_of, stack, level_over, built_levels}
use Rattle.rules.specs.Lists.{pairs_of, order_up_to, starts_up_to, joins, code_from, joins_class, entries_for, each_up_to, entries_behind, entries_up_to, starts_of, order_of, entries_of}
use Rattle.rules.specs.Stored.{code_at, class_at, part_from, part_to, stands, stored_step, stored_answer, leader, class_answer}
use Rattle.rules.specs.Verdict.{good, refuse, ◌or_else◌, when}
use Rattle.rules.specs.Accept.{number_ok, level_ok, first_fault, levels_right, difference, same_list, top_of, accepts}
use Rattle.rules.proofs.Theorems.Examples.{edges, level1, level2, starts, order, entries}

-- the document's graph
abbrev document : Graph
document = graph_of 4 2 edges

-- the second half of C: item 1 has no edge, so (1,1) has a poorer midpoint than (2,2) and stays alone
pub second_half : built_levels rule (graph_of 3 1 (0 ∷ 2 ∷ 0 ∷ [])) 2
    ≡ (1 ∷ 0 ∷ 2 ∷ 0 ∷ 1 ∷ 0 ∷ 3 ∷ 0 ∷ 1 ∷ []) ++ (1 ∷ 0 ∷ 2 ∷ 0 ∷ 3 ∷ 0 ∷ 4 ∷ 0 ∷ 5 ∷ [])
unfolding built_levels stack level_over level_of numbering next_number matches max_of first_of connected_at connected adjacent agree_at agree same_ends same_steps split_ok twins has_twin is_twin number_at any_below all_below first_below leads graph_of has_edge edge_is rule
second_half = refl

-- (v,v) where v has no edge: its class is in the class answer to identity
pub no_edge : built_levels rule (graph_of 2 1 []) 1 ≡ (1 ∷ 0 ∷ 0 ∷ 1 ∷ [])
unfolding built_levels stack level_over level_of numbering next_number matches max_of first_of connected_at connected adjacent agree_at agree same_ends same_steps split_ok twins has_twin is_twin number_at any_below all_below first_below leads graph_of has_edge edge_is rule
no_edge = refl

pub no_edge_identity : class_answer 2 (1 ∷ 0 ∷ 0 ∷ 1 ∷ []) (0 ∷ 1 ∷ []) (atom identity) ≡ (1 ∷ [])
unfolding class_answer list_below leader first_of first_below any_below meets_by atom_by
no_edge_identity = refl

-- class 0 matches no stored entry of class 0
pub class_zero : stored_answer 2 (0 ∷ 1 ∷ 0 ∷ 0 ∷ []) (1 ∷ 0 ∷ 1 ∷ 1 ∷ []) (atom (step 1)) ≡ (1 ∷ [])
unfolding stored_answer answer_by list_below meets_by atom_by stored_step number_at stands part_from part_to code_at class_at first_below any_below
class_zero = refl

-- only the first run of a code counts, and a lone last number is not read
pub first_run : stored_answer 2 (1 ∷ 2 ∷ 3 ∷ 4 ∷ []) (1 ∷ 2 ∷ 2 ∷ 3 ∷ 1 ∷ 4 ∷ 1 ∷ []) (atom (step 1)) ≡ (1 ∷ [])
unfolding stored_answer answer_by list_below meets_by atom_by stored_step number_at stands part_from part_to code_at class_at first_below any_below
first_run = refl

-- joining in the wrong order: tokens 2 1 32 give 10
pub join_order : answer_of document (join (atom (step 2)) (atom (step 1))) ≡ (10 ∷ [])
unfolding answer_of answer_by list_below meets_by atom_by leads graph_of has_edge edge_is any_below
join_order = refl

-- classes may be finer: check accepts level 1 of the document's table with each (v,v) in a class of its own
pub finer : levels_right rule document 1 (level_of 4 (1 ∷ 0 ∷ 2 ∷ 0 ∷ 0 ∷ 3 ∷ 2 ∷ 0 ∷ 4 ∷ 4 ∷ 5 ∷ 6 ∷ 0 ∷ 0 ∷ 7 ∷ 8 ∷ [])) ≡ good
unfolding levels_right first_fault level_ok number_ok level_of max_of first_of connected_at connected adjacent agree_at agree same_ends same_steps split_ok number_at any_below all_below first_below leads graph_of has_edge edge_is rule ◌or_else◌ when
finer = refl

-- and not coarser: classes 3 and 4 as one are refused at the first pair of 4
pub coarser : levels_right rule document 1 (level_of 4 (1 ∷ 0 ∷ 2 ∷ 0 ∷ 0 ∷ 1 ∷ 2 ∷ 0 ∷ 3 ∷ 3 ∷ 1 ∷ 3 ∷ 0 ∷ 0 ∷ 4 ∷ 1 ∷ [])) ≡ refuse (LevelFault 1 11)
unfolding levels_right first_fault level_ok number_ok level_of max_of first_of connected_at connected adjacent agree_at agree same_ends same_steps split_ok number_at any_below all_below first_below leads graph_of has_edge edge_is rule ◌or_else◌ when
coarser = refl

-- the document's own tables are accepted whole
pub own : accepts rule document (record { items = 4; labels = 2; k = 2; levels = level1 ++ level2; starts = starts; order = order; entries = entries }) ≡ good
unfolding accepts top_of same_list difference starts_of order_of entries_of pairs_of order_up_to starts_up_to joins code_from joins_class entries_for each_up_to entries_behind entries_up_to list_below levels_right first_fault level_ok number_ok level_of max_of first_of connected_at connected adjacent agree_at agree same_ends same_steps split_ok twins has_twin is_twin number_at any_below all_below first_below leads graph_of has_edge edge_is rule ◌or_else◌ when
own = refl
