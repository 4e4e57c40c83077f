-- `lines::turns::build_tables` meets its contract.
use Prim.Native.Nat.{ℕ}
use mathlib.Core.Path.{refl, sym, ap, ◌∙◌}
use mathlib.Core.List.{List}
use native.Mathlib.Omega.{arith}
use lib.Seq.{sets}
use Rattle.format.specs.Texts.{built_text}
use Rattle.format.proofs.Laws.Texts.{built_length}
use Rattle.machine.specs.Standing.{stage_by}
use Rattle.machine.proofs.Laws.Stages.{comes_as}
use Rattle.lines.proofs.Laws.Building.{entries_few, levels_some, tables_turn, refused_turn, made_comes, stop_few}
use Rattle.lines.proofs.turns.build_tables.Goals as goal

pub invariant_of-run : goal.invariant_of-run
invariant_of-run c =
    let r = c.args.run.now in
    let b = c.make_tables.ensures.made in
    let n = c.in-Ok.counts in
    let l = levels_some _ _ _ _ r.level_room r.entry_room _ _ _ b n.classes n.pairs n.entries c.in-Ok.is in
    record {
      few_items = c.args.gathered.few_items;
      some_level = l.some_level;
      few_levels = l.few_levels;
      entries_fit = entries_few _ _ _ _ r.level_room r.entry_room _ _ _ b n.classes n.pairs n.entries c.in-Ok.is;
    }

pub returns-in-Ok-clause-turn : goal.returns-in-Ok-clause-turn
unfolding stage_by
returns-in-Ok-clause-turn c =
    let r = c.args.run.now in
    let b = c.make_tables.ensures.made in
    let n = c.in-Ok.counts in (
      comes_as (tables_turn _ _ _ _ r.level_room r.entry_room _ _ _ b n.classes n.pairs n.entries c.in-Ok.is)
          (record {
            stage = refl;
            many = sym (built_length n.classes n.pairs n.entries);
            text = c.put_built.ensures ∙ ap (λ (w : List ℕ). sets w 0 (built_text n.classes n.pairs n.entries)) b.out;
            inside = omega (arith, r.out_room);
            lines = b.lines;
            line = b.line;
          }),
      omega arith,
    )

pub returns-in-Err-clause-turn : goal.returns-in-Err-clause-turn
returns-in-Err-clause-turn c =
    let r = c.args.run.now in
    let b = c.make_tables.ensures.made in
    (comes_as (refused_turn _ _ _ _ r.level_room r.entry_room _ _ _ b _ c.in-Err.is) (made_comes b c.stop.ensures.turn), stop_few _ c.stop.ensures.turn)
