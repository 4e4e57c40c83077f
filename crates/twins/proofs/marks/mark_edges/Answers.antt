-- Cleared marks, then those of the edges; neither changes what lies past the first n·n bytes.
use Prim.Native.Nat.{ℕ, ◌*◌}
use mathlib.Core.List.{List}
use native.Mathlib.Omega.{arith}
use lib.ListN.{drop}
use mathlib.Core.Path.{ap, ◌∙◌}
use Rattle.twins.proofs.Laws.Areas.{cleared, drop_fill_at}
use Rattle.twins.proofs.marks.mark_edges.Goals as goal

pub add_marks-requires : goal.add_marks-requires
add_marks-requires c = (c.requires.0, cleared _ _ _ c.clear_marks.ensures c.requires.1.room)

pub returns : goal.returns
returns c =
    let m = c.add_marks.ensures in
    let n = c.args.n in (
      m.0,
      m.1 ∙ ap (λ (z : List ℕ). drop (n * n) z) c.clear_marks.ensures ∙ drop_fill_at (n * n) _ 0 (n * n) _ (omega arith),
    )
