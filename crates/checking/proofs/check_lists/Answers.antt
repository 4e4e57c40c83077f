-- Four ends: starts, order or entries wrong, or all right. A list is right exactly if its first difference equals both lengths.
use mathlib.Core.Path.{sym, ◌∙◌}
use native.Mathlib.Omega.{arith}
use Rattle.rules.specs.declared.Refusal.TheVariants.{ListFault, EntryFault}
use Rattle.rules.specs.Numbers.{list_number}
use Rattle.checking.specs.Checking.{lists_verdict}
use Rattle.top.proofs.Laws.Fronts.{frame_trans, frame_wider}
use Rattle.checking.proofs.Laws.Checking.{same_refused, same_good, told_refused, told_on, told_last, told_done, few_classes, starts_many, first_small, second_small, many_small, third_small}
use Rattle.checking.proofs.check_lists.Goals as goal

pub overflow_add-start_numbers : goal.overflow_add-start_numbers
overflow_add-start_numbers c =
    let p = c.requires in
    let m = c.match_lists-found.ensures in
    omega (arith, few_classes _ _ _ _ _ _ p _ _ _ _ _ _ m.1)

pub overflow_cast-result : goal.overflow_cast-result
overflow_cast-result c =
    let p = c.requires in
    let m = c.match_lists-found.ensures in
    omega (arith, first_small _ _ _ _ _ _ p _ _ _ _ _ _ m.1)

pub returns-then-differ : goal.returns-then-differ
unfolding lists_verdict list_number
returns-then-differ c =
    let p = c.requires in
    let m = c.match_lists-found.ensures in
    (rw c.list_number.ensures (told_refused _ _ _ (same_refused _ _ (ListFault 1) _ _ m.1.starts_of_lem (starts_many _ _ _ _ _ _ p _ _ _ _ _ _ m.1) (sym c.differ.ensures ∙ c.if-differ.true))), frame_wider 0 _ _ _ _ (omega arith) m.0)

pub overflow_cast-result-then-differ-2 : goal.overflow_cast-result-then-differ-2
overflow_cast-result-then-differ-2 c =
    let p = c.requires in
    let m = c.match_lists-found.ensures in
    omega (arith, second_small _ _ _ _ _ _ p _ _ _ _ _ _ m.1)

pub returns-then-differ-2 : goal.returns-then-differ-2
unfolding lists_verdict list_number
returns-then-differ-2 c =
    let p = c.requires in
    let m = c.match_lists-found.ensures in (
      rw c.list_number-then-differ-2.ensures
          (told_on _ _ _ (same_good _ _ (ListFault 1) _ _ m.1.starts_of_lem (starts_many _ _ _ _ _ _ p _ _ _ _ _ _ m.1) (sym c.differ.ensures ∙ c.if-differ.false))
          (told_refused _ _ _ (same_refused _ _ (ListFault 2) _ _ m.1.order_of_lem m.1.pairs_of (sym c.differ-2.ensures ∙ c.if-differ-2.true)))),
      frame_wider 0 _ _ _ _ (omega arith) m.0,
    )

pub overflow_mul-entry_numbers : goal.overflow_mul-entry_numbers
overflow_mul-entry_numbers c = omega (arith, many_small _ _ _ _ _ _ c.requires _ _ _ c.match_entries-progress.ensures.1)

pub overflow_cast-result-then-differ-3 : goal.overflow_cast-result-then-differ-3
overflow_cast-result-then-differ-3 c = omega (arith, third_small _ _ _ _ _ _ c.requires _ _ _ c.match_entries-progress.ensures.1)

pub returns-then-differ-3 : goal.returns-then-differ-3
unfolding lists_verdict
returns-then-differ-3 c =
    let p = c.requires in
    let m = c.match_lists-found.ensures in
    let e = c.match_entries-progress.ensures in (
      told_on _ _ _ (same_good _ _ (ListFault 1) _ _ m.1.starts_of_lem (starts_many _ _ _ _ _ _ p _ _ _ _ _ _ m.1) (sym c.differ.ensures ∙ c.if-differ.false))
          (told_on _ _ _ (same_good _ _ (ListFault 2) _ _ m.1.order_of_lem m.1.pairs_of (sym c.differ-2.ensures ∙ c.if-differ-2.false))
          (told_last _ _ (same_refused _ _ EntryFault _ _ e.1.first e.1.count (sym c.differ-3.ensures ∙ c.if-differ-3.true)))),
      frame_trans 0 _ _ _ _ (frame_wider 0 _ _ _ _ (omega arith) m.0) e.0,
    )

pub returns : goal.returns
unfolding lists_verdict
returns c =
    let p = c.requires in
    let m = c.match_lists-found.ensures in
    let e = c.match_entries-progress.ensures in (
      told_on _ _ _ (same_good _ _ (ListFault 1) _ _ m.1.starts_of_lem (starts_many _ _ _ _ _ _ p _ _ _ _ _ _ m.1) (sym c.differ.ensures ∙ c.if-differ.false))
          (told_on _ _ _ (same_good _ _ (ListFault 2) _ _ m.1.order_of_lem m.1.pairs_of (sym c.differ-2.ensures ∙ c.if-differ-2.false))
          (told_done _ (same_good _ _ EntryFault _ _ e.1.first e.1.count (sym c.differ-3.ensures ∙ c.if-differ-3.false)))),
      frame_trans 0 _ _ _ _ (frame_wider 0 _ _ _ _ (omega arith) m.0) e.0,
    )
