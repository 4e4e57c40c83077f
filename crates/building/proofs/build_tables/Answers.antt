-- The levels that were built give the table of level k, in order and with C its largest number; the lists of it complete the tables.
use mathlib.Core.Path.{◌∙◌}
use Rattle.building.proofs.Laws.Building.{few_labels, level_edges, level_labels, level_room, table_is, standing, lists_ready, tables_built}
use Rattle.building.proofs.build_tables.Goals as goal

pub build_levels-classes-requires : goal.build_levels-classes-requires
build_levels-classes-requires c = let p = c.requires in (level_edges _ p, level_room _ p)

pub top_of-requires : goal.top_of-requires
top_of-requires c =
    let p = c.requires in
    let v = c.build_levels-classes.ensures in
    standing _ p _ (v.written _ (few_labels _ p) (level_labels _ p))

pub build_lists-requires : goal.build_lists-requires
build_lists-requires c =
    let p = c.requires in
    let v = c.build_levels-classes.ensures in
    lists_ready _ p _ _ _ (v.count _ (few_labels _ p) (level_labels _ p)) (c.top_of.ensures ∙ table_is _ p _ (v.written _ (few_labels _ p) (level_labels _ p))) v.past.size

pub returns : goal.returns
returns c =
    let p = c.requires in
    let v = c.build_levels-classes.ensures in
    let w = v.written _ (few_labels _ p) (level_labels _ p) in
    tables_built _ p _ _ _ _ _ _ _ _ (c.top_of.ensures ∙ table_is _ p _ w) w v.past c.build_lists.ensures
