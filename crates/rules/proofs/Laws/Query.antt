-- What it is to meet a query: the test and the proposition agree, and a pair that meets a query is connected within its diameter.
use Prim.Native.Nat.{ℕ, ◌<◌, max}
use mathlib.Core.Path.{◌≡◌, sym, ◌∙◌, subst}
use mathlib.Core.Bool.{true, ◌&&◌}
use native.Mathlib.Nat.{le-max_left}
use native.Mathlib.Omega.{arith}
use borrow.Author.Tests.{eqb-true, eq-eqb}
use Rattle.rules.specs.Graph.{Graph, leads, connected}
use Rattle.rules.specs.Query.{Atom, identity, step, Query, atom, join, both, reach, diameter, meets, atom_by, meets_by}
use Rattle.rules.specs.Published.{Holds, Meets, AtomFormed, WellFormed, SameEnds, SameSteps}
use Rattle.rules.proofs.Laws.Tests.{and_left, and_right, and_intro}
use Rattle.rules.proofs.Laws.Finite.{any_find, any_here}
use Rattle.rules.proofs.Laws.Graph.{leads_step, step_leads, leads_adjacent, conn_refl, conn_le, conn_join, conn_one}

-- atoms
module _ (g : Graph) where
  atom_find : (a : Atom) (v u : ℕ) → atom_by (leads g) a v u ≡ true → Holds g a v u
  unfolding atom_by Holds
  atom_find identity v u e = eqb-true v u e
  atom_find (step s) v u e = leads_step g s v u e

  atom_here : (a : Atom) (v u : ℕ) → Holds g a v u → atom_by (leads g) a v u ≡ true
  unfolding atom_by Holds
  atom_here identity v u e = eq-eqb v u e
  atom_here (step s) v u e = step_leads g e

  holds_connected : (a : Atom) (v u : ℕ) → AtomFormed g.labels a → v < g.items → Holds g a v u → connected g (reach a) v u ≡ true
  unfolding Holds AtomFormed reach
  holds_connected identity v u w h r = subst (λ (x : ℕ). connected g 0 v x ≡ true) r (conn_refl g 0 v)
  holds_connected (step s) v u w h r = conn_one g v u h (leads_adjacent g s v u w.0 w.1 (step_leads g r))

  -- an atom of reach 0 holds of equal pairs only
  holds_point : (a : Atom) (v u : ℕ) → reach a ≡ 0 → Holds g a v u → v ≡ u
  unfolding Holds reach
  holds_point identity v u d r = r
  holds_point (step s) v u d r = absurd (omega arith)

  -- A and B carry what an atom holds; A alone, where the atom has reach 0
  pub holds_carries : (a : Atom) → AtomFormed g.labels a → {v u x y : ℕ} → SameEnds g v u x y → SameSteps g v u x y → Holds g a v u → Holds g a x y
  unfolding Holds AtomFormed
  holds_carries identity w p q r = p.equal.0 r
  holds_carries (step s) w p q r = (q.steps s w.0 w.1).0 r

  holds_rests : (a : Atom) → reach a ≡ 0 → {v u x y : ℕ} → SameEnds g v u x y → Holds g a v u → Holds g a x y
  unfolding Holds reach
  holds_rests identity d p r = p.equal.0 r
  holds_rests (step s) d p r = absurd (omega arith)

module _ (g : Graph) where
  pub meets_find : (q : Query) (v u : ℕ) → meets g q v u ≡ true → Meets g q v u
  unfolding meets meets_by Meets
  meets_find (atom a) v u e = atom_find g a v u e
  meets_find (join p q) v u e =
      let r = any_find g.items (λ m. meets g p v m && meets g q m u) e in
      (r.0, r.1, meets_find p v r.0 (and_left (meets g p v r.0) _ r.2), meets_find q r.0 u (and_right (meets g p v r.0) _ r.2))
  meets_find (both p q) v u e = (meets_find p v u (and_left (meets g p v u) _ e), meets_find q v u (and_right (meets g p v u) _ e))

  pub meets_here : (q : Query) (v u : ℕ) → Meets g q v u → meets g q v u ≡ true
  unfolding meets meets_by Meets
  meets_here (atom a) v u e = atom_here g a v u e
  meets_here (join p q) v u r =
      any_here g.items (λ m. meets g p v m && meets g q m u) r.0 r.1
      (and_intro _ _ (meets_here p v r.0 r.2) (meets_here q r.0 u r.3))
  meets_here (both p q) v u r = and_intro _ _ (meets_here p v u r.0) (meets_here q v u r.1)

  -- a query of diameter 0 holds of equal pairs only, and A alone carries it
  pub point_eq : (q : Query) (v u : ℕ) → diameter q ≡ 0 → Meets g q v u → v ≡ u
  unfolding Meets diameter
  point_eq (atom a) v u d r = holds_point g a v u d r
  point_eq (join p q) v u d r = point_eq p v r.0 (omega arith) r.2 ∙ point_eq q r.0 u (omega arith) r.3
  point_eq (both p q) v u d r = point_eq p v u (omega arith) r.0

  pub point_carries : (q : Query) (v x : ℕ) → x < g.items → diameter q ≡ 0 → SameEnds g v v x x → Meets g q v v → Meets g q x x
  unfolding Meets diameter
  point_carries (atom a) v x h d p r = holds_rests g a d p r
  point_carries (join q₁ q₂) v x h d p r =
      let e : v ≡ r.0 = point_eq q₁ v r.0 (omega arith) r.2 in (
        x,
        h,
        point_carries q₁ v x h (omega arith) p (subst (λ (m : ℕ). Meets g q₁ v m) (sym e) r.2),
        point_carries q₂ v x h (omega arith) p (subst (λ (m : ℕ). Meets g q₂ m v) (sym e) r.3),
      )
  point_carries (both q₁ q₂) v x h d p r = (point_carries q₁ v x h (omega arith) p r.0, point_carries q₂ v x h (omega arith) p r.1)

  pub meets_connected : (q : Query) (v u : ℕ) → WellFormed g.labels q → v < g.items → Meets g q v u → connected g (diameter q) v u ≡ true
  unfolding Meets WellFormed diameter
  meets_connected (atom a) v u w h r = holds_connected g a v u w h r
  meets_connected (join p q) v u w h r =
      conn_join g (diameter p) (diameter q) v r.0 u (meets_connected p v r.0 w.0 h r.2) (meets_connected q r.0 u w.1 r.1 r.3)
  meets_connected (both p q) v u w h r =
      conn_le g (diameter p) (max (diameter p) (diameter q)) v u (le-max_left (diameter p) (diameter q)) (meets_connected p v u w.0 h r.0)
