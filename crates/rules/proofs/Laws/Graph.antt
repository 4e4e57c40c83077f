-- Edges, steps and walks: each test is the published type.
use Prim.Native.Nat.{ℕ, zero, suc, ◌+◌, ◌*◌, ◌/◌, ◌%◌, ◌≤◌, ◌<◌}
use mathlib.Core.Path.{◌≡◌, refl, ap, ◌∙◌, subst}
use mathlib.Core.Logic.{◌↔◌, ◌⊎◌, inl, inr, ⊎_elim}
use mathlib.Core.List.{List}
use mathlib.Core.Bool.{true, false, ◌&&◌, false≢true}
use native.Mathlib.Nat.{add-zero, add-suc}
use native.Mathlib.Decide.{le_ind}
use native.Mathlib.Omega.{arith}
use borrow.Author.Tests.{eqb-true, eqb-false, eq-eqb, ne_eqb}
use lib.Dec.{eqb}
use lib.ListN.{length, get_or}
use Rattle.rules.specs.Graph.{Graph, edge_is, has_edge, leads, adjacent, connected}
use Rattle.rules.specs.Published.{InTable, Step, along, against, Walk, stay, further}
use Rattle.rules.proofs.Laws.Tests.{either, and_left, and_right, and_intro, or_cases, or_left, or_right}
use Rattle.rules.proofs.Laws.Finite.{any_find, any_here}

pub edge_find : (es : List ℕ) (v u l : ℕ) → has_edge es v u l ≡ true → InTable es v u l
unfolding has_edge edge_is
edge_find es v u l h =
    let r = any_find (length es / 3) (λ e. edge_is es e v u l) h in
    let e = r.0 in
    let vu = and_left (eqb (get_or es (3 * e) 0) v && eqb (get_or es (3 * e + 1) 0) u) (eqb (get_or es (3 * e + 2) 0) l) r.2 in
    record {
      at = e;
      in_table = r.1;
      source = eqb-true (get_or es (3 * e) 0) v (and_left (eqb (get_or es (3 * e) 0) v) (eqb (get_or es (3 * e + 1) 0) u) vu);
      target = eqb-true (get_or es (3 * e + 1) 0) u (and_right (eqb (get_or es (3 * e) 0) v) (eqb (get_or es (3 * e + 1) 0) u) vu);
      label = eqb-true (get_or es (3 * e + 2) 0) l (and_right (eqb (get_or es (3 * e) 0) v && eqb (get_or es (3 * e + 1) 0) u) (eqb (get_or es (3 * e + 2) 0) l) r.2);
    }

pub edge_here : (es : List ℕ) (v u l : ℕ) → InTable es v u l → has_edge es v u l ≡ true
unfolding has_edge edge_is
edge_here es v u l h =
    any_here (length es / 3) (λ e. edge_is es e v u l) h.at h.in_table
    (and_intro _ _ (and_intro _ _ (eq-eqb _ _ h.source) (eq-eqb _ _ h.target)) (eq-eqb _ _ h.label))

module _ (g : Graph) where
  -- label l forward is 2l+1, backward 2l+2
  pub leads_forward : (l v u : ℕ) → leads g (2 * l + 1) v u ≡ g.edge v u l
  unfolding leads
  leads_forward l v u =
      ap (λ (s : ℕ). leads g s v u) (shape l) ∙ rw (eq-eqb (2 * l % 2) 0 (omega arith)) (ap (g.edge v u) (omega arith))
    where
      shape : (l : ℕ) → 2 * l + 1 ≡ suc (2 * l)
      shape l = omega arith

  pub leads_backward : (l v u : ℕ) → leads g (2 * l + 2) v u ≡ g.edge u v l
  unfolding leads
  leads_backward l v u =
      ap (λ (s : ℕ). leads g s v u) (shape l) ∙ rw (ne_eqb (suc (2 * l) % 2) 0 (λ q. omega arith)) (ap (g.edge u v) (omega arith))
    where
      shape : (l : ℕ) → 2 * l + 2 ≡ suc (suc (2 * l))
      shape l = omega arith

  -- the test of a step is the step
  pub leads_step : (s v u : ℕ) → leads g s v u ≡ true → Step g s v u
  unfolding leads
  leads_step zero v u e = absurd (false≢true e)
  leads_step (suc s) v u e = go (either (eqb (s % 2) 0))
    where
      go : (eqb (s % 2) 0 ≡ true) ⊎ (eqb (s % 2) 0 ≡ false) → Step g (suc s) v u
      go (inl t) = let z : s % 2 ≡ 0 = eqb-true (s % 2) 0 t in along {s = suc s} (s / 2) (omega arith) (rw t at e)
      go (inr t) = let z : s % 2 ≡ 0 → ⊥ = eqb-false (s % 2) 0 t in against {s = suc s} (s / 2) (omega arith) (rw t at e)

  pub step_leads : {s v u : ℕ} → Step g s v u → leads g s v u ≡ true
  step_leads {s} {v} {u} (along l e h) = rw e (leads_forward l v u ∙ h)
  step_leads {s} {v} {u} (against l e h) = rw e (leads_backward l v u ∙ h)

  pub leads_iff : (s v u : ℕ) → (leads g s v u ≡ true) ↔ Step g s v u
  leads_iff s v u = (leads_step s v u, step_leads)

  pub leads_adjacent : (s v u : ℕ) → 0 < s → s ≤ 2 * g.labels → leads g s v u ≡ true → adjacent g v u ≡ true
  unfolding adjacent
  leads_adjacent zero v u p h e = absurd (omega arith)
  leads_adjacent (suc s) v u p h e = any_here (2 * g.labels) (λ t. leads g (suc t) v u) s h e

  pub adjacent_leads : (v u : ℕ) → adjacent g v u ≡ true → (s : ℕ) × (0 < s) × (s ≤ 2 * g.labels) × (leads g s v u ≡ true)
  unfolding adjacent
  adjacent_leads v u e =
      let r = any_find (2 * g.labels) (λ t. leads g (suc t) v u) e in
      (suc r.0, omega arith, r.1, r.2)

  pub conn_refl : (i v : ℕ) → connected g i v v ≡ true
  unfolding connected
  conn_refl zero v = eq-eqb v v refl
  conn_refl (suc i) v = or_left _ _ (conn_refl i v)

  pub conn_more : (i v u : ℕ) → connected g i v u ≡ true → connected g (suc i) v u ≡ true
  unfolding connected
  conn_more i v u e = or_left _ _ e

  pub conn_le : (i j v u : ℕ) → i ≤ j → connected g i v u ≡ true → connected g j v u ≡ true
  conn_le i j v u h e = le_ind (λ k. connected g k v u ≡ true) e (λ k l. conn_more k v u) j h

  pub conn_step : (i v m u : ℕ) → connected g i v m ≡ true → m < g.items → adjacent g m u ≡ true → connected g (suc i) v u ≡ true
  unfolding connected
  conn_step i v m u e h a =
      or_right (connected g i v u) _ (any_here g.items (λ m. connected g i v m && adjacent g m u) m h (and_intro _ _ e a))

  -- one step more, or as many as before
  pub conn_cases : (i v u : ℕ) → connected g (suc i) v u ≡ true
      → (connected g i v u ≡ true) ⊎ ((m : ℕ) × (m < g.items) × (connected g i v m ≡ true) × (adjacent g m u ≡ true))
  unfolding connected
  conn_cases i v u e =
      ⊎_elim (λ t. inl t)
      (λ t. let r = any_find g.items (λ m. connected g i v m && adjacent g m u) t in
      inr (r.0, r.1, and_left (connected g i v r.0) _ r.2, and_right (connected g i v r.0) _ r.2))
      (or_cases (connected g i v u) _ e)

  pub conn_zero : (v u : ℕ) → connected g zero v u ≡ true → v ≡ u
  unfolding connected
  conn_zero v u e = eqb-true v u e

  pub conn_join : (i j v m u : ℕ) → connected g i v m ≡ true → connected g j m u ≡ true → connected g (i + j) v u ≡ true
  conn_join i zero v m u a b = rw add-zero (subst (λ (w : ℕ). connected g i v w ≡ true) (conn_zero m u b) a)
  conn_join i (suc j) v m u a b =
      rw add-suc
      (⊎_elim (λ t. conn_more (i + j) v u (conn_join i j v m u a t))
      (λ r. conn_step (i + j) v r.0 u (conn_join i j v m r.0 a r.2) r.1 r.3)
      (conn_cases j m u b))

  pub conn_one : (v u : ℕ) → v < g.items → adjacent g v u ≡ true → connected g 1 v u ≡ true
  conn_one v u h a = conn_step 0 v v u (conn_refl 0 v) h a

  -- connected is to be joined by a walk
  pub conn_walk : (i v u : ℕ) → connected g i v u ≡ true → Walk g v i u
  conn_walk zero v u e = subst (λ (w : ℕ). Walk g v zero w) (conn_zero v u e) stay
  conn_walk (suc i) v u e =
      ⊎_elim
      (λ t. longer (conn_walk i v u t))
      (λ r. let a = adjacent_leads r.0 u r.3 in further a.0 (conn_walk i v r.0 r.2) r.1 a.1 a.2 (leads_step a.0 r.0 u a.3))
      (conn_cases i v u e)
    where
      longer : {j w : ℕ} → Walk g v j w → Walk g v (suc j) w
      longer stay = stay
      longer (further s a h p l b) = further s (longer a) h p l b

  pub walk_conn : (v : ℕ) {i u : ℕ} → Walk g v i u → connected g i v u ≡ true
  walk_conn v (stay {i = i}) = conn_refl i v
  walk_conn v (further {i = i} {m = m} {u = u} s w h p l b) = conn_step i v m u (walk_conn v w) h (leads_adjacent s m u p l (step_leads b))

  pub conn_iff : (i v u : ℕ) → (connected g i v u ≡ true) ↔ Walk g v i u
  conn_iff i v u = (conn_walk i v u, walk_conn v)
