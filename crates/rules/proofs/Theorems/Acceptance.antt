-- Demand 3, first part: past refusals 1 to 5 the check accepts stored tables exactly when the written conditions hold, whoever made the tables.
use Rattle.std.proofs.Common.{Err, Ok, Result}
use Prim.Native.Nat.{ℕ}
use mathlib.Core.Path.{◌≡◌, refl, sym, ap, ◌∙◌}
use mathlib.Core.Logic.{◌↔◌}
use native.Mathlib.Omega.{arith}
use Rattle.rules.specs.declared.Refusal.{Refusal}
use Rattle.rules.specs.declared.Refusal.TheVariants.{ListFault, EntryFault}
use Rattle.rules.specs.Graph.{Graph}
use Rattle.rules.specs.Rule.{Rule, rule}
use Rattle.rules.specs.Levels.{level_of}
use Rattle.rules.specs.Lists.{starts_of, order_of, entries_of}
use Rattle.rules.specs.Verdict.{Verdict, good, refuse, ◌or_else◌}
use Rattle.rules.specs.Accept.{Index, top_of, levels_right, same_list, accepts, Conditions}
use Rattle.rules.specs.Outcomes.{CheckCall, check_refusal, check_graph, told, check_after, check}
use Rattle.rules.proofs.Laws.Verdict.{or_else_good, both_good}
use Rattle.rules.proofs.Laws.Faults.{right_accepted, accepted_right, same_equal, equal_same}

refused_accepted : {C : Type 0} {r : Refusal} → ◌≡◌ {A = Result Unit Refusal} (Err r) (Ok tt) → C
refused_accepted e = let z : ◌≡◌ {A = ℕ} 0 1 = cc in absurd (omega arith)

told_good : (v : Verdict) → told v ≡ Ok tt → v ≡ good
unfolding told
told_good good e = refl
told_good (refuse r) e = refused_accepted e

module _ (ρ : Rule) (g : Graph) (x : Index) where
  abbrev levels_verdict : Verdict
  levels_verdict = levels_right ρ g x.k (level_of x.items x.levels)

  abbrev starts_verdict : Verdict
  starts_verdict = same_list (starts_of (top_of x)) x.starts (ListFault 1)

  abbrev order_verdict : Verdict
  order_verdict = same_list (order_of (top_of x)) x.order (ListFault 2)

  abbrev entries_verdict : Verdict
  entries_verdict = same_list (entries_of g x.k (top_of x)) x.entries EntryFault

  pub good_conditions : accepts ρ g x ≡ good → Conditions ρ g x
  unfolding accepts
  good_conditions e =
      let a = or_else_good levels_verdict (starts_verdict or_else order_verdict or_else entries_verdict) e in
      let b = or_else_good starts_verdict (order_verdict or_else entries_verdict) a.1 in
      let c = or_else_good order_verdict entries_verdict b.1 in
      record {
        levels = right_accepted ρ g (level_of x.items x.levels) x.k a.0;
        starts = same_equal (starts_of (top_of x)) x.starts (ListFault 1) b.0;
        order = same_equal (order_of (top_of x)) x.order (ListFault 2) c.0;
        entries = same_equal (entries_of g x.k (top_of x)) x.entries EntryFault c.1;
      }

  pub conditions_good : Conditions ρ g x → accepts ρ g x ≡ good
  unfolding accepts
  conditions_good c =
      both_good levels_verdict (starts_verdict or_else order_verdict or_else entries_verdict)
      (accepted_right ρ g (level_of x.items x.levels) x.k c.levels)
      (both_good starts_verdict (order_verdict or_else entries_verdict)
      (equal_same (starts_of (top_of x)) x.starts (ListFault 1) c.starts)
      (both_good order_verdict entries_verdict
      (equal_same (order_of (top_of x)) x.order (ListFault 2) c.order)
      (equal_same (entries_of g x.k (top_of x)) x.entries EntryFault c.entries)))

module _ (c : CheckCall) where
  pub check_worked : check_refusal c ≡ good → (check c).result ≡ told (accepts rule (check_graph c) c.index)
  unfolding check check_after
  check_worked q = rw q

  pub check_refused : (r : Refusal) → check_refusal c ≡ refuse r → (check c).result ≡ Err r
  unfolding check check_after
  check_refused r q = rw q

-- the check's outcome is 0 exactly when nothing of 1 to 5 applies and the written conditions hold
pub accepted_exactly : (c : CheckCall) → ((check c).result ≡ Ok tt) ↔ ((check_refusal c ≡ good) × Conditions rule (check_graph c) c.index)
accepted_exactly c = (λ e. there (check_refusal c) refl e, λ r. back r.0 r.1)
  where
    there : (v : Verdict) → check_refusal c ≡ v → (check c).result ≡ Ok tt → (check_refusal c ≡ good) × Conditions rule (check_graph c) c.index
    there good q e = (q, good_conditions rule (check_graph c) c.index (told_good (accepts rule (check_graph c) c.index) (sym (check_worked c q) ∙ e)))
    there (refuse r) q e = refused_accepted (sym (check_refused c r q) ∙ e)

    back : check_refusal c ≡ good → Conditions rule (check_graph c) c.index → (check c).result ≡ Ok tt
    back q k = check_worked c q ∙ ap told (conditions_good rule (check_graph c) c.index k) ∙ unfold told in refl
