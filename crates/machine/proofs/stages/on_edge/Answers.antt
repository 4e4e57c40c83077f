-- `machine::stages::on_edge` meets its contract.
use Prim.Native.Nat.{◌+◌, ◌-◌, ◌*◌, ◌≤◌, ◌<◌}
use mathlib.Core.Path.{◌≡◌, refl, ap, subst}
use mathlib.Core.List.{[], ◌∷◌, ◌++◌}
use native.Mathlib.Omega.{arith}
use borrow.Author.Tests.{lt-ltb}
use borrow.Rule.Slice.PartMut.{put_mid}
use lib.ListN.{length, take}
use lib.Seq.{length-take-le}
use Rattle.std.proofs.lemmas.Slice.{take-put_mid}
use Rattle.machine.specs.declared.Gathered.{Gathered}
use Rattle.machine.specs.declared.Progress.{Progress}
use Rattle.machine.specs.declared.Progress.TheVariants.{Gathering}
use Rattle.machine.specs.Machine.{gathering, on_edge, silent}
use Rattle.machine.specs.Standing.{stage_by}
use Rattle.machine.proofs.Laws.Stages.{moved_as, edge_bad}
use Rattle.machine.proofs.stages.on_edge.Goals.{in_default-via-in-Gathering+else-g-lt-MOST_EDGES, in_default-via-in_default}
use Rattle.machine.proofs.stages.on_edge.Goals as goal

pub returns-in-Gathering : goal.returns-in-Gathering
unfolding on_edge silent stage_by
returns-in-Gathering c =
    λ levels entries.
    let a = c.args in
    let l = a.edges.now in
    let g = c.in-Gathering.g in
    let at = 3 * g.edges in
    let edge = a.source ∷ a.target ∷ a.label ∷ [] in
    let few : length (take at l) < 3072 = omega (arith, length-take-le at l (omega (arith, c.requires.0, g.few_edges)), c.if-g-lt-MOST_EDGES.true) in
    let taken : take (3 * (g.edges + 1)) (put_mid at (at + 3 - at) l c.copy_from_slice.new.self) ≡ take at l ++ edge =
    rw c.copy_from_slice.ensures.after (take-put_mid at (at + 3 - at) l edge (3 * (g.edges + 1)) (omega arith) (omega (arith, c.requires.0, g.few_edges))) in
    rw (c.in-Gathering.is, lt-ltb (length (take at l)) 3072 few)
    (record { stage = ap (gathering g.sizes.items g.sizes.labels g.sizes.k) taken; many = refl; text = refl; inside = omega arith })

-- one progress, one number of edges
same_count : {p : Progress} {g h : Gathered} → p ≡ Gathering g → p ≡ Gathering h → 1024 ≤ g.edges → 1024 ≤ h.edges
same_count {p} {g} {h} e f n = let z : g ≡ h = cc in subst (λ (x : Gathered). 1024 ≤ x.edges) z n

pub returns-in_default : goal.returns-in_default
returns-in_default c =
    λ levels entries.
    moved_as
    (edge_bad _ _ _ _ _ _ _ _ c.requires.0 (λ g e.
    elim c.in_default.branch [
      | in_default-via-in-Gathering+else-g-lt-MOST_EDGES w ↦ same_count w.in-Gathering.is e (omega (arith, w.if-g-lt-MOST_EDGES.false))
      | in_default-via-in_default w ↦ absurd (w.in_default.not-Gathering g e)
    ]))
    (c.bad_frame.ensures _ levels entries)
