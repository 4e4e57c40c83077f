-- Conditions A and B: each is an equivalence relation, and its test is the proposition.
use Prim.Native.Nat.{ℕ, zero, suc, ◌*◌, ◌≤◌, ◌<◌}
use mathlib.Core.Path.{◌≡◌, refl, sym, ◌∙◌}
use mathlib.Core.Bool.{true, beq}
use native.Mathlib.Omega.{arith}
use borrow.Author.Tests.{eqb-true, eq-eqb}
use lib.Dec.{eqb}
use Rattle.rules.specs.Graph.{Graph, leads}
use Rattle.rules.specs.Levels.{same_ends, same_steps}
use Rattle.rules.specs.Published.{SameEnds, SameSteps}
use Rattle.rules.proofs.Laws.Tests.{beq_eq, eq_beq, same}
use Rattle.rules.proofs.Laws.Finite.{all_at, all_intro}
use Rattle.rules.proofs.Laws.Graph.{leads_step, step_leads}

pub ends_refl : (g : Graph) (v u : ℕ) → SameEnds g v u v u
ends_refl g v u = record { equal = (λ e. e, λ e. e) }

module _ {g : Graph} {v u x y : ℕ} where
  pub ends_sym : SameEnds g v u x y → SameEnds g x y v u
  ends_sym a = record { equal = (a.equal.1, a.equal.0) }

  pub ends_trans : {z w : ℕ} → SameEnds g v u x y → SameEnds g x y z w → SameEnds g v u z w
  ends_trans a b = record { equal = (λ e. b.equal.0 (a.equal.0 e), λ e. a.equal.1 (b.equal.1 e)) }

  -- of the ends, each by itself
  pub ends_first : SameEnds g v u x y → SameEnds g v v x x
  ends_first a = record { equal = (λ e. refl, λ e. refl) }

  pub ends_last : SameEnds g v u x y → SameEnds g u u y y
  ends_last a = record { equal = (λ e. refl, λ e. refl) }

pub ends_find : (g : Graph) (v u x y : ℕ) → same_ends g v u x y ≡ true → SameEnds g v u x y
unfolding same_ends
ends_find g v u x y t =
    let e = beq_eq (eqb v u) (eqb x y) t in
    record { equal = (λ p. eqb-true x y (sym e ∙ eq-eqb v u p), λ p. eqb-true v u (e ∙ eq-eqb x y p)) }

pub ends_here : (g : Graph) (v u x y : ℕ) → SameEnds g v u x y → same_ends g v u x y ≡ true
unfolding same_ends
ends_here g v u x y a =
    eq_beq (eqb v u) (eqb x y)
    (same (eqb v u) (eqb x y) (λ t. eq-eqb x y (a.equal.0 (eqb-true v u t))) (λ t. eq-eqb v u (a.equal.1 (eqb-true x y t))))

pub steps_refl : (g : Graph) (v u : ℕ) → SameSteps g v u v u
steps_refl g v u = record { steps = λ s p h. (λ e. e, λ e. e) }

module _ {g : Graph} {v u x y : ℕ} where
  pub steps_sym : SameSteps g v u x y → SameSteps g x y v u
  steps_sym a = record { steps = λ s p h. ((a.steps s p h).1, (a.steps s p h).0) }

  pub steps_trans : {z w : ℕ} → SameSteps g v u x y → SameSteps g x y z w → SameSteps g v u z w
  steps_trans a b = record { steps = λ s p h. (λ e. (b.steps s p h).0 ((a.steps s p h).0 e), λ e. (a.steps s p h).1 ((b.steps s p h).1 e)) }

pub steps_find : (g : Graph) (v u x y : ℕ) → same_steps g v u x y ≡ true → SameSteps g v u x y
unfolding same_steps
steps_find g v u x y t = record {
  steps = λ s p h. let e = at s p h in (λ a. leads_step g s x y (sym e ∙ step_leads g a), λ a. leads_step g s v u (e ∙ step_leads g a));
}
  where
    at : (s : ℕ) → 0 < s → s ≤ 2 * g.labels → leads g s v u ≡ leads g s x y
    at zero p h = absurd (omega arith)
    at (suc s) p h =
        beq_eq (leads g (suc s) v u) (leads g (suc s) x y)
        (all_at (2 * g.labels) (λ s. beq (leads g (suc s) v u) (leads g (suc s) x y)) t s h)

-- the same symbols, as an equation of tests
pub steps_same : (g : Graph) (v u x y : ℕ) → SameSteps g v u x y → (s : ℕ) → 0 < s → s ≤ 2 * g.labels → leads g s v u ≡ leads g s x y
steps_same g v u x y a s p h =
    same (leads g s v u) (leads g s x y)
    (λ t. step_leads g ((a.steps s p h).0 (leads_step g s v u t)))
    (λ t. step_leads g ((a.steps s p h).1 (leads_step g s x y t)))

pub steps_here : (g : Graph) (v u x y : ℕ) → SameSteps g v u x y → same_steps g v u x y ≡ true
unfolding same_steps
steps_here g v u x y a = all_intro (2 * g.labels) _ (λ s h. eq_beq _ _ (steps_same g v u x y a (suc s) (omega arith) h))
