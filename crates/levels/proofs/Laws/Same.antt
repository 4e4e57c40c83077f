-- Two graphs whose edges are the same among n items, one with eight labels and one with fewer, have the same levels and the same faults.
use Prim.Native.Nat.{ℕ, zero, suc, ◌+◌, ◌*◌, ◌/◌, ◌%◌, ◌≤◌, ◌<◌}
use mathlib.Core.Path.{◌≡◌, refl, sym, ap, ap₂, ◌∙◌}
use mathlib.Core.Logic.{◌⊎◌, inl, inr, ⊎_elim}
use mathlib.Core.List.{List, ◌++◌}
use mathlib.Core.Bool.{Bool, false, not, ◌&&◌, ◌||◌}
use native.Mathlib.Omega.{arith}
use lib.ListN.{length, get_or}
use borrow.Author.Tests.{eqb-true}
use lib.Dec.{eqb, ltb}
use Rattle.rules.specs.Graph.{Graph, edge_is, has_edge, graph_of, leads, adjacent, connected}
use Rattle.rules.specs.Rule.{Rule}
use Rattle.rules.specs.Levels.{same_ends, same_steps, split_ok, agree, agree_at, connected_at, first_of, level_of, stack, level_over, built_levels, built_level}
use Rattle.rules.specs.Accept.{number_ok, level_ok, first_fault, levels_right}
use Rattle.rules.specs.Verdict.{◌or_else◌, when}
use Rattle.rules.specs.declared.Refusal.TheVariants.{LevelFault}
use Rattle.rules.proofs.Laws.Tests.{order, same, not_both, and_right, not_true_of}
use Rattle.rules.proofs.Laws.Finite.{any_same, none_any}
use Rattle.rules.proofs.Laws.Places.{place_lt, place_row, place_column, row_lt, column_lt}
use Rattle.rules.proofs.Laws.Graph.{leads_forward, leads_backward, adjacent_leads, leads_adjacent}
use Rattle.rules.proofs.Laws.Accepted.{first_of_lt}
use Rattle.twins.specs.Marks.{marked_edge, marked_graph, Marked}
use Rattle.twins.specs.Standing.{EdgesFit}
use Rattle.twins.proofs.Laws.Marks.{label_of, leads_same, same_leads, edge_bit}
use Rattle.numbering.proofs.Laws.Numbers.{first_same, numbering_same}

module _ (n labels : ℕ) (e f : ℕ → ℕ → ℕ → Bool) (few : labels ≤ 8)
    (alike : (v u l : ℕ) → v < n → u < n → l < 8 → e v u l ≡ f v u l)
    (none : (v u l : ℕ) → labels ≤ l → f v u l ≡ false) where
  abbrev g : Graph
  g = record { items = n; labels = 8; edge = e }

  abbrev h : Graph
  h = record { items = n; labels = labels; edge = f }

  leads_at : (v u : ℕ) → v < n → u < n → (s : ℕ) → (l : ℕ) × (l < 8) × ((s ≡ 2 * l + 1) ⊎ (s ≡ 2 * l + 2)) → leads g s v u ≡ leads h s v u
  leads_at v u hv hu s (l, b, inl q) = rw q (leads_forward g l v u ∙ alike v u l hv hu b ∙ sym (leads_forward h l v u))
  leads_at v u hv hu s (l, b, inr q) = rw q (leads_backward g l v u ∙ alike u v l hu hv b ∙ sym (leads_backward h l v u))

  leads_eq : (v u : ℕ) → v < n → u < n → (s : ℕ) → 0 < s → s ≤ 16 → leads g s v u ≡ leads h s v u
  leads_eq v u hv hu s p b = leads_at v u hv hu s (label_of 8 s p b)

  past_at : (v u s : ℕ) → (l : ℕ) × (l < 8) × ((s ≡ 2 * l + 1) ⊎ (s ≡ 2 * l + 2)) → 2 * labels < s → leads h s v u ≡ false
  past_at v u s (l, b, inl q) k = rw q (leads_forward h l v u ∙ none v u l (omega arith))
  past_at v u s (l, b, inr q) k = rw q (leads_backward h l v u ∙ none u v l (omega arith))

  leads_past : (v u s : ℕ) → s ≤ 16 → 2 * labels < s → leads h s v u ≡ false
  leads_past v u s b k = past_at v u s (label_of 8 s (omega arith) b) k

  module _ (v u x y : ℕ) (hv : v < n) (hu : u < n) (hx : x < n) (hy : y < n) where
    steps_same : same_steps g v u x y ≡ same_steps h v u x y
    steps_same =
        same (same_steps g v u x y) (same_steps h v u x y)
        (λ t. same_leads h v u x y
        (λ s p b. sym (leads_eq v u hv hu s p (omega arith)) ∙ leads_same g v u x y t s p (omega arith) ∙ leads_eq x y hx hy s p (omega arith)))
        (λ t. same_leads g v u x y
        (λ s p b. leads_eq v u hv hu s p b
        ∙ ⊎_elim (λ k. leads_past v u s b k ∙ sym (leads_past x y s b k)) (λ k. leads_same h v u x y t s p k) (order (2 * labels) s)
        ∙ sym (leads_eq x y hx hy s p b)))

    agree_same : (ρ : Rule) (i : ℕ) (T : ℕ → List ℕ) → agree ρ g i T v u x y ≡ agree ρ h i T v u x y
    unfolding agree split_ok same_ends
    agree_same ρ i T = rw steps_same refl

  adjacent_same : (v u : ℕ) → v < n → u < n → adjacent g v u ≡ adjacent h v u
  adjacent_same v u hv hu =
      same (adjacent g v u) (adjacent h v u)
      (λ t. let r = adjacent_leads g v u t in
      let k = sym (leads_eq v u hv hu r.0 r.1 r.2) ∙ r.3 in
      leads_adjacent h r.0 v u r.1 (⊎_elim (λ b. not_both (leads h r.0 v u) k (leads_past v u r.0 r.2 b)) (λ b. b) (order (2 * labels) r.0)) k)
      (λ t. let r = adjacent_leads h v u t in
      leads_adjacent g r.0 v u r.1 (omega (arith, r.2)) (leads_eq v u hv hu r.0 r.1 (omega (arith, r.2)) ∙ r.3))

  connected_same : (i v u : ℕ) → v < n → u < n → connected g i v u ≡ connected h i v u
  unfolding connected
  connected_same zero v u hv hu = refl
  connected_same (suc i) v u hv hu =
      ap₂ ◌||◌ (connected_same i v u hv hu)
      (any_same n (λ m. connected g i v m && adjacent g m u) (λ m. connected h i v m && adjacent h m u)
      (λ m b. ap₂ ◌&&◌ (connected_same i v m hv b) (adjacent_same m u b hu)))

  in_same : (i p : ℕ) → p < n * n → connected_at g i p ≡ connected_at h i p
  unfolding connected_at
  in_same i p b = connected_same i (p / n) (p % n) (row_lt n p b) (column_lt n p b)

  at_same : (ρ : Rule) (i : ℕ) (T : ℕ → List ℕ) (p q : ℕ) → p < n * n → q < n * n → agree_at ρ g i T p q ≡ agree_at ρ h i T p q
  unfolding agree_at
  at_same ρ i T p q b d = agree_same (p / n) (p % n) (q / n) (q % n) (row_lt n p b) (column_lt n p b) (row_lt n q d) (column_lt n q d) ρ i T

  over_same : (ρ : Rule) (i : ℕ) (ls : List ℕ) → level_over ρ g i ls ≡ level_over ρ h i ls
  unfolding level_over
  over_same ρ i ls =
      numbering_same (connected_at g i) (connected_at h i) (agree_at ρ g i (level_of n ls)) (agree_at ρ h i (level_of n ls)) (n * n) (in_same i)
      (λ q p b d. at_same ρ i (level_of n ls) q p b d)

  pub levels_same : (ρ : Rule) (k : ℕ) → built_levels ρ g k ≡ built_levels ρ h k
  unfolding built_levels stack
  levels_same ρ zero = refl
  levels_same ρ (suc k) = ap (λ (ls : List ℕ). ls ++ level_over ρ g (suc k) ls) (levels_same ρ k) ∙ ap (λ (l : List ℕ). built_levels ρ h k ++ l) (over_same ρ (suc k) (built_levels ρ h k))

  pub level_same : (ρ : Rule) (k : ℕ) → built_level ρ g k ≡ built_level ρ h k
  unfolding built_level
  level_same ρ k = ap (λ (ls : List ℕ). level_of n ls k) (levels_same ρ k)

  ok_same : (ρ : Rule) (i : ℕ) (T : ℕ → List ℕ) (p : ℕ) → p < n * n → level_ok ρ g i T p ≡ level_ok ρ h i T p
  unfolding level_ok number_ok
  ok_same ρ i T p b =
      rw (in_same i p b, at_same ρ i T p (first_of (n * n) (T i) (get_or (T i) p 0)) b (first_of_lt (n * n) (T i) p b)) refl

  fault_same : (ρ : Rule) (i : ℕ) (T : ℕ → List ℕ) → first_fault ρ g i T ≡ first_fault ρ h i T
  unfolding first_fault
  fault_same ρ i T = first_same (n * n) (λ p. not (level_ok ρ g i T p)) (λ p. not (level_ok ρ h i T p)) (λ p b. ap not (ok_same ρ i T p b))

  pub right_same : (ρ : Rule) (k : ℕ) (T : ℕ → List ℕ) → levels_right ρ g k T ≡ levels_right ρ h k T
  unfolding levels_right
  right_same ρ zero T = refl
  right_same ρ (suc k) T =
      ap₂ ◌or_else◌ (right_same ρ k T) (ap (λ (p : ℕ). when (ltb p (n * n)) (LevelFault (suc k) p)) (fault_same ρ (suc k) T))

-- the marks of an edge table, against the graph that the table gives
module _ (n labels : ℕ) (edges area : List ℕ) (few : labels ≤ 8) (fit : EdgesFit n labels edges) (marked : Marked n edges area) where
  pub marked_edge_lem : (v u l : ℕ) → v < n → u < n → l < 8 → marked_edge n area v u l ≡ has_edge edges v u l
  marked_edge_lem v u l hv hu hl =
      edge_bit n area v u l hv hu ∙ marked.bit_at_lem (v * n + u) l (place_lt n v u hv hu) hl
      ∙ ap₂ (λ (a b : ℕ). has_edge edges a b l) (place_row n v u hu) (place_column n v u hu)

  pub no_label : (v u l : ℕ) → labels ≤ l → has_edge edges v u l ≡ false
  unfolding has_edge edge_is
  no_label v u l b =
      none_any (length edges / 3) _
      (λ k j. not_true_of _
      (λ t. let q = eqb-true (get_or edges (3 * k + 2) 0) l (and_right (eqb (get_or edges (3 * k) 0) v && eqb (get_or edges (3 * k + 1) 0) u) (eqb (get_or edges (3 * k + 2) 0) l) t) in
      omega (arith, fit.label k j)))

  pub marked_levels : (ρ : Rule) (k : ℕ) → built_levels ρ (marked_graph n area) k ≡ built_levels ρ (graph_of n labels edges) k
  unfolding graph_of
  marked_levels ρ k = levels_same n labels (marked_edge n area) (has_edge edges) few marked_edge_lem no_label ρ k

  pub marked_level : (ρ : Rule) (k : ℕ) → built_level ρ (marked_graph n area) k ≡ built_level ρ (graph_of n labels edges) k
  unfolding graph_of
  marked_level ρ k = level_same n labels (marked_edge n area) (has_edge edges) few marked_edge_lem no_label ρ k

  pub marked_right : (ρ : Rule) (k : ℕ) (T : ℕ → List ℕ) → levels_right ρ (marked_graph n area) k T ≡ levels_right ρ (graph_of n labels edges) k T
  unfolding graph_of
  marked_right ρ k T = right_same n labels (marked_edge n area) (has_edge edges) few marked_edge_lem no_label ρ k T
