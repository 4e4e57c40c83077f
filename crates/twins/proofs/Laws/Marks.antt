-- What the marks of two pairs say: condition B, and which items are next to each other.
use Prim.Native.Nat.{ℕ, zero, suc, ◌+◌, ◌*◌, ◌/◌, ◌%◌, ◌≤◌, ◌<◌}
use mathlib.Core.Path.{◌≡◌, sym, ap, ◌∙◌}
use mathlib.Core.Logic.{◌⊎◌, inl, inr, ⊎_elim}
use mathlib.Core.List.{List}
use mathlib.Core.Bool.{true, false, not, beq}
use native.Mathlib.Decide.{ℕ_discrete}
use native.Mathlib.Omega.{arith}
use lib.Dec.{eqb}
use lib.ListN.{get_or}
use lib.Seq.{get_or-take}
use borrow.Author.Tests.{eq-eqb, ne_eqb, eqb-true}
use Rattle.rules.specs.Finite.{any_below}
use Rattle.rules.specs.Graph.{Graph, leads, adjacent, connected}
use Rattle.rules.specs.Levels.{same_steps}
use Rattle.rules.proofs.Laws.Tests.{either, not_both, same, not_true_of, beq_eq, eq_beq}
use Rattle.rules.proofs.Laws.Finite.{any_none, any_find, all_at, all_intro}
use Rattle.rules.proofs.Laws.Places.{place_lt}
use Rattle.rules.proofs.Laws.Graph.{leads_forward, leads_backward, leads_adjacent, adjacent_leads, conn_zero, conn_cases, conn_refl, conn_one}
use Rattle.twins.specs.Marks.{bit_at, marked_edge, marked_graph}
use Rattle.rules.proofs.Laws.Bits.{bit_zero, bits_ext}

-- condition B, as equal tests for each symbol
module _ (g : Graph) (v u x y : ℕ) where
  pub leads_same : same_steps g v u x y ≡ true → (s : ℕ) → 0 < s → s ≤ 2 * g.labels → leads g s v u ≡ leads g s x y
  unfolding same_steps
  leads_same t zero p h = absurd (omega arith)
  leads_same t (suc s) p h =
      beq_eq (leads g (suc s) v u) (leads g (suc s) x y)
      (all_at (2 * g.labels) (λ s. beq (leads g (suc s) v u) (leads g (suc s) x y)) t s h)

  pub same_leads : ((s : ℕ) → 0 < s → s ≤ 2 * g.labels → leads g s v u ≡ leads g s x y) → same_steps g v u x y ≡ true
  unfolding same_steps
  same_leads f = all_intro (2 * g.labels) _ (λ s h. eq_beq _ _ (f (suc s) (omega arith) h))

-- a symbol is a label forward or backward
pub label_of : (m s : ℕ) → 0 < s → s ≤ 2 * m → (l : ℕ) × (l < m) × ((s ≡ 2 * l + 1) ⊎ (s ≡ 2 * l + 2))
label_of m zero p h = absurd (omega arith)
label_of m (suc s) p h = (s / 2, omega arith, go (ℕ_discrete (s % 2) 0))
  where
    go : Dec (s % 2 ≡ 0) → (suc s ≡ 2 * (s / 2) + 1) ⊎ (suc s ≡ 2 * (s / 2) + 2)
    go (yes e) = inl (omega arith)
    go (no e) = inr (omega arith)

module _ (n : ℕ) (w : List ℕ) where
  -- an edge that the marks show, by the byte of its pair
  pub edge_bit : (v u l : ℕ) → v < n → u < n → marked_edge n w v u l ≡ bit_at l (get_or w (v * n + u) 0)
  unfolding marked_edge
  edge_bit v u l hv hu = ap (bit_at l) (get_or-take (n * n) w (v * n + u) 0 (place_lt n v u hv hu))

  module _ (v u x y : ℕ) (hv : v < n) (hu : u < n) (hx : x < n) (hy : y < n) where
    bytes_edges : get_or w (v * n + u) 0 ≡ get_or w (x * n + y) 0 → (l : ℕ) → marked_edge n w v u l ≡ marked_edge n w x y l
    bytes_edges e l = edge_bit v u l hv hu ∙ ap (bit_at l) e ∙ sym (edge_bit x y l hx hy)

    edges_bytes : get_or w (v * n + u) 0 < 256 → get_or w (x * n + y) 0 < 256 → ((l : ℕ) → l < 8 → marked_edge n w v u l ≡ marked_edge n w x y l)
        → get_or w (v * n + u) 0 ≡ get_or w (x * n + y) 0
    edges_bytes a b h = bits_ext 8 _ _ a b (λ l i. sym (edge_bit v u l hv hu) ∙ h l i ∙ edge_bit x y l hx hy)

    -- the same step symbols: equal marks there, and back
    pub steps_there : get_or w (v * n + u) 0 < 256 → get_or w (x * n + y) 0 < 256 → same_steps (marked_graph n w) v u x y ≡ true
        → get_or w (v * n + u) 0 ≡ get_or w (x * n + y) 0
    steps_there a b t =
        let g = marked_graph n w in
        edges_bytes a b
        (λ l h. sym (leads_forward g l v u) ∙ leads_same g v u x y t (2 * l + 1) (omega arith) (omega arith) ∙ leads_forward g l x y)

  pub steps_back : (v u x y : ℕ) → v < n → u < n → x < n → y < n → get_or w (u * n + v) 0 < 256 → get_or w (y * n + x) 0 < 256
      → same_steps (marked_graph n w) v u x y ≡ true → get_or w (u * n + v) 0 ≡ get_or w (y * n + x) 0
  steps_back v u x y hv hu hx hy a b t =
      let g = marked_graph n w in
      edges_bytes u v y x hu hv hy hx a b
      (λ l h. sym (leads_backward g l v u) ∙ leads_same g v u x y t (2 * l + 2) (omega arith) (omega arith) ∙ leads_backward g l x y)

  -- equal marks both ways: the same step symbols
  marks_steps : (v u x y : ℕ) → v < n → u < n → x < n → y < n
      → get_or w (v * n + u) 0 ≡ get_or w (x * n + y) 0 → get_or w (u * n + v) 0 ≡ get_or w (y * n + x) 0 → same_steps (marked_graph n w) v u x y ≡ true
  marks_steps v u x y hv hu hx hy e f = same_leads (marked_graph n w) v u x y (λ s p h. at s (label_of 8 s p h))
    where
      at : (s : ℕ) → (l : ℕ) × (l < 8) × ((s ≡ 2 * l + 1) ⊎ (s ≡ 2 * l + 2)) → leads (marked_graph n w) s v u ≡ leads (marked_graph n w) s x y
      at s (l, h, inl q) =
          rw q (leads_forward (marked_graph n w) l v u ∙ bytes_edges v u x y hv hu hx hy e l ∙ sym (leads_forward (marked_graph n w) l x y))
      at s (l, h, inr q) =
          rw q (leads_backward (marked_graph n w) l v u ∙ bytes_edges u v y x hu hv hy hx f l ∙ sym (leads_backward (marked_graph n w) l x y))

  -- what same_steps answers, from the marks p, q there and r, s back
  module _ (v u x y : ℕ) (hv : v < n) (hu : u < n) (hx : x < n) (hy : y < n)
      {p q : ℕ} (ep : (p ≡ get_or w (v * n + u) 0) × (p < 256)) (eq : (q ≡ get_or w (x * n + y) 0) × (q < 256)) where
    pub steps_differ : (p ≡ q → ⊥) → false ≡ same_steps (marked_graph n w) v u x y
    steps_differ k =
        sym (not_true_of (same_steps (marked_graph n w) v u x y)
        (λ t. k (ep.0 ∙ steps_there v u x y hv hu hx hy (rw ep.0 at ep.1) (rw eq.0 at eq.1) t ∙ sym eq.0)))

    pub steps_rest : {r s : ℕ} → (r ≡ get_or w (u * n + v) 0) × (r < 256) → (s ≡ get_or w (y * n + x) 0) × (s < 256) → p ≡ q
        → eqb r s ≡ same_steps (marked_graph n w) v u x y
    steps_rest {r} {s} er es e =
        same (eqb r s) (same_steps (marked_graph n w) v u x y)
        (λ t. marks_steps v u x y hv hu hx hy (sym ep.0 ∙ e ∙ eq.0) (sym er.0 ∙ eqb-true r s t ∙ es.0))
        (λ t. eq-eqb r s (er.0 ∙ steps_back v u x y hv hu hx hy (rw er.0 at er.1) (rw es.0 at es.1) t ∙ sym es.0))

  -- a mark that is not 0 shows some edge, and one that is 0 shows none
  mark_edge : (v u : ℕ) → v < n → u < n → get_or w (v * n + u) 0 < 256 → (get_or w (v * n + u) 0 ≡ 0 → ⊥) → (l : ℕ) × (l < 8) × (marked_edge n w v u l ≡ true)
  mark_edge v u hv hu a k =
      ⊎_elim (λ t. any_find 8 (marked_edge n w v u) t)
      (λ t. absurd (k (bits_ext 8 (get_or w (v * n + u) 0) 0 a (omega arith)
      (λ l h. sym (edge_bit v u l hv hu) ∙ any_none 8 (marked_edge n w v u) t l h ∙ sym (bit_zero l)))))
      (either (any_below 8 (marked_edge n w v u)))

  no_mark : (v u l : ℕ) → v < n → u < n → get_or w (v * n + u) 0 ≡ 0 → marked_edge n w v u l ≡ false
  no_mark v u l hv hu e = edge_bit v u l hv hu ∙ ap (bit_at l) e ∙ bit_zero l

  -- what next_to answers
  pub near_self : (v u : ℕ) → v ≡ u → true ≡ connected (marked_graph n w) 1 v u
  near_self v u e = rw (← e) (sym (conn_refl (marked_graph n w) 1 v))

  module _ (v u : ℕ) (hv : v < n) (hu : u < n) where
    near_along : get_or w (v * n + u) 0 < 256 → (get_or w (v * n + u) 0 ≡ 0 → ⊥) → connected (marked_graph n w) 1 v u ≡ true
    near_along a k =
        let g = marked_graph n w in
        let r = mark_edge v u hv hu a k in
        conn_one g v u hv (leads_adjacent g (2 * r.0 + 1) v u (omega arith) (omega (arith, r.1)) (leads_forward g r.0 v u ∙ r.2))

    near_against : get_or w (u * n + v) 0 < 256 → (get_or w (u * n + v) 0 ≡ 0 → ⊥) → connected (marked_graph n w) 1 v u ≡ true
    near_against a k =
        let g = marked_graph n w in
        let r = mark_edge u v hu hv a k in
        conn_one g v u hv (leads_adjacent g (2 * r.0 + 2) v u (omega arith) (omega (arith, r.1)) (leads_backward g r.0 v u ∙ r.2))

    not_adjacent : get_or w (v * n + u) 0 ≡ 0 → get_or w (u * n + v) 0 ≡ 0 → adjacent (marked_graph n w) v u ≡ true → ⊥
    not_adjacent e f t = at (adjacent_leads (marked_graph n w) v u t)
      where
        none : (s : ℕ) → (l : ℕ) × (l < 8) × ((s ≡ 2 * l + 1) ⊎ (s ≡ 2 * l + 2)) → leads (marked_graph n w) s v u ≡ false
        none s (l, h, inl q) = rw q (leads_forward (marked_graph n w) l v u ∙ no_mark v u l hv hu e)
        none s (l, h, inr q) = rw q (leads_backward (marked_graph n w) l v u ∙ no_mark u v l hu hv f)

        at : (s : ℕ) × (0 < s) × (s ≤ 16) × (leads (marked_graph n w) s v u ≡ true) → ⊥
        at (s, p, h, k) = not_both (leads (marked_graph n w) s v u) k (none s (label_of 8 s p h))

    far : (v ≡ u → ⊥) → get_or w (v * n + u) 0 ≡ 0 → get_or w (u * n + v) 0 ≡ 0 → connected (marked_graph n w) 1 v u ≡ false
    far d e f =
        let g = marked_graph n w in
        not_true_of (connected g 1 v u)
        (λ t. ⊎_elim
        (λ z. d (conn_zero g v u z))
        (λ r. not_adjacent e f (ap (λ (m : ℕ). adjacent g m u) (conn_zero g v r.0 r.2) ∙ r.3))
        (conn_cases g 0 v u t))

    pub near_first : {p : ℕ} → (p ≡ get_or w (v * n + u) 0) × (p < 256) → (p ≡ 0 → ⊥) → true ≡ connected (marked_graph n w) 1 v u
    near_first ep k = sym (near_along (rw ep.0 at ep.1) (λ z. k (ep.0 ∙ z)))

    pub near_rest : {p r : ℕ} → (v ≡ u → ⊥) → (p ≡ get_or w (v * n + u) 0) × (p < 256) → p ≡ 0 → (r ≡ get_or w (u * n + v) 0) × (r < 256)
        → not (eqb r 0) ≡ connected (marked_graph n w) 1 v u
    near_rest {p} {r} d ep z er = go (ℕ_discrete r 0)
      where
        go : Dec (r ≡ 0) → not (eqb r 0) ≡ connected (marked_graph n w) 1 v u
        go (yes e) = rw (eq-eqb r 0 e) (sym (far d (sym ep.0 ∙ z) (sym er.0 ∙ e)))
        go (no k) = rw (ne_eqb r 0 k) (sym (near_against (rw er.0 at er.1) (λ e. k (er.0 ∙ e))))
