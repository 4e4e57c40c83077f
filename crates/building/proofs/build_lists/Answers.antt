-- Two ends: more entries than room leaves the entries and gives 6; else all lists stand at the front, and the number of entries fits 32 bits.
use mathlib.Core.Path.{◌∙◌}
use native.Mathlib.Omega.{arith}
use Rattle.top.proofs.Laws.Fronts.{cleared}
use Rattle.top.proofs.Laws.Counts.{few_entries}
use Rattle.building.proofs.Laws.Building.{fills, starts_front, last_inside, last_start, order_front, many_is, lists_short, lists_fit}
use Rattle.building.proofs.build_lists.Goals as goal

pub fill-requires : goal.fill-requires
fill-requires c = fills _ _ _ _ _ _ _ _ _ c.requires

pub overflow_cast-result : goal.overflow_cast-result
overflow_cast-result c =
    let p = c.requires in
    let w = c.write_entries-many.ensures in
    omega (arith, (few_entries _ _ _ _ _ _ p.stored).few, many_is _ _ _ _ _ _ w.1)

pub returns-then-many-room : goal.returns-then-many-room
returns-then-many-room c =
    let p = c.requires in
    let f = c.fill.ensures in
    let w = c.write_entries-many.ensures in
    lists_short _ _ _ _ _ _ w.1 _ _ _ _ _ _ _ (starts_front _ _ _ _ _ _ _ _ _ p _ f.0)
    (order_front _ _ _ _ _ _ _ _ _ p _ f.1)
    (c.clear.ensures ∙ cleared _ _ _ w.0 p.stored.area_room) c.if-many-room.true

pub bounds-starts-last : goal.bounds-starts-last
bounds-starts-last c = last_inside _ _ _ _ _ _ _ _ _ c.requires _ c.fill.ensures.0

pub overflow_cast-result-2 : goal.overflow_cast-result-2
overflow_cast-result-2 c =
    let p = c.requires in
    let w = c.write_entries-many.ensures in
    omega (arith, (few_entries _ _ _ _ _ _ p.stored).few, many_is _ _ _ _ _ _ w.1)

pub returns : goal.returns
returns c =
    let p = c.requires in
    let f = c.fill.ensures in
    let w = c.write_entries-many.ensures in
    lists_fit _ _ _ _ _ _ w.1 _ _ _ _ _ _ _ (starts_front _ _ _ _ _ _ _ _ _ p _ f.0)
    (order_front _ _ _ _ _ _ _ _ _ p _ f.1)
    (c.clear.ensures ∙ cleared _ _ _ w.0 p.stored.area_room) _ _ p.largest
    (last_start _ _ _ _ _ _ _ _ _ p _ f.0) c.if-many-room.false
