-- The levels of the marks are the levels of the edge table, for every number of labels that fits (`levels_built`).
use mathlib.Core.Path.{◌≡◌}
use native.Mathlib.Omega.{arith}
use lib.ListN.{length}
use Rattle.levels.proofs.Laws.Built.{levels_built}
use Rattle.levels.proofs.all.build_levels.Goals as goal

pub returns : goal.returns
returns c =
    let m = c.mark_edges in
    let a = c.args in
    let s : length m.new.area ≡ length a.area.now = omega arith in
    levels_built _ _ _ _ _ _ m.ensures.0 m.ensures.1 s _ _ _ c.number_levels.ensures
