-- What stored answers rest on: a stored step is the step. Accepted tables with the exact entry list have it.
use Prim.Native.Nat.{ℕ, ◌+◌, ◌*◌, ◌/◌, ◌%◌, ◌≤◌, ◌<◌}
use mathlib.Core.Path.{◌≡◌, refl, sym, ap₂, ◌∙◌, subst}
use mathlib.Core.List.{List, [], ◌∷◌}
use mathlib.Core.Bool.{◌&&◌}
use native.Mathlib.Nat.{div-add-mod'}
use native.Mathlib.Omega.{arith}
use borrow.Author.Tests.{eqb-true, eq-eqb, ltb-true, lt-ltb}
use lib.Dec.{eqb, ltb}
use lib.ListN.{length, get_or}
use Rattle.rules.specs.Finite.{first_below}
use Rattle.rules.specs.Graph.{Graph, leads}
use Rattle.rules.specs.Query.{Atom, identity, step, Query, atom, join, both, diameter, meets, meets_by, answer_by, answer_of, atom_by}
use Rattle.rules.specs.Rule.{Rule, RuleLaws}
use Rattle.rules.specs.Levels.{number_at, max_of, first_of}
use Rattle.rules.specs.Lists.{joins, joins_class, code_from, entries_up_to, entries_of}
use Rattle.rules.specs.Published.{AtomFormed, WellFormed, Symbols, end, symbol}
use Rattle.rules.specs.Accept.{LevelsAccepted}
use Rattle.rules.specs.Stored.{stands, stored_step, stored_answer}
use Rattle.rules.proofs.Laws.Tests.{and_left, and_right, and_intro, same}
use Rattle.rules.proofs.Laws.Finite.{any_same, list_same, first_is}
use Rattle.rules.proofs.Laws.Graph.{conn_le}
use Rattle.rules.proofs.Laws.Query.{meets_find, meets_connected}
use Rattle.rules.proofs.Laws.Places.{place_lt, row_lt, column_lt}
use Rattle.rules.proofs.Laws.Accepted.{accepted_at, connected_number}
use Rattle.rules.proofs.Laws.AllOrNone.{all_or_none}
use Rattle.rules.proofs.Laws.Numbering.{max_bounds}
use Rattle.rules.proofs.Laws.Entries.{up_rising, entered_iff}
use Rattle.rules.proofs.Laws.Lookup.{stands_find, stands_here}
use Rattle.rules.proofs.Laws.Sequences.{sequence, sequence_diameter, sequence_formed, sequence_joins, joins_one, code_one}

-- tables are sound for a graph: a stored step holds just the pairs that the step leads along
pub record Sound (g : Graph) (t entries : List ℕ) : Type 0 where
  pub steps : (s : ℕ) → 0 < s → s ≤ 2 * g.labels → (v u : ℕ) → v < g.items → u < g.items → stored_step g.items t entries s v u ≡ leads g s v u

-- from sound tables every query gets what the edge table gives
module _ (g : Graph) (t entries : List ℕ) (sound : Sound g t entries) where
  sound_atom : (a : Atom) → AtomFormed g.labels a → (v u : ℕ) → v < g.items → u < g.items
      → atom_by (stored_step g.items t entries) a v u ≡ atom_by (leads g) a v u
  unfolding atom_by AtomFormed
  sound_atom identity w v u hv hu = refl
  sound_atom (step s) w v u hv hu = sound.steps s w.0 w.1 v u hv hu

  pub sound_meets : (q : Query) → WellFormed g.labels q → (v u : ℕ) → v < g.items → u < g.items
      → meets_by g.items (stored_step g.items t entries) q v u ≡ meets g q v u
  unfolding meets meets_by WellFormed
  sound_meets (atom a) w v u hv hu = sound_atom a w v u hv hu
  sound_meets (join p q) w v u hv hu =
      any_same g.items _ _ (λ m h. ap₂ ◌&&◌ (sound_meets p w.0 v m hv h) (sound_meets q w.1 m u h hu))
  sound_meets (both p q) w v u hv hu = ap₂ ◌&&◌ (sound_meets p w.0 v u hv hu) (sound_meets q w.1 v u hv hu)

  pub sound_answer : (q : Query) → WellFormed g.labels q → stored_answer g.items t entries q ≡ answer_of g q
  unfolding stored_answer answer_of answer_by meets
  sound_answer q w =
      list_same (g.items * g.items) _ _ (λ p h. sound_meets q w (p / g.items) (p % g.items) (row_lt g.items p h) (column_lt g.items p h))

module _ (ρ : Rule) (law : RuleLaws ρ) (g : Graph) (k : ℕ) (T : ℕ → List ℕ) (ok : LevelsAccepted ρ g k T) (pos : 0 < k) (few : g.labels ≤ 8)
    (sized : length (T k) ≡ g.items * g.items) where
  -- what holds at the first pair of a class holds at each of its pairs
  pub first_joins : (ss : List ℕ) → Symbols g.labels ss → length ss ≤ k → (v u : ℕ) → v < g.items → u < g.items
      → 0 < number_at g.items (T k) v u → joins_class g (T k) ss (number_at g.items (T k) v u) ≡ joins g ss v u
  unfolding number_at joins_class first_of
  first_joins ss y h v u hv hu l =
      let n = g.items in
      let t = T k in
      let c = get_or t (v * n + u) 0 in
      let p = first_below (length t) (λ q. eqb (get_or t q 0) c) in
      let f = first_is (length t) (λ q. eqb (get_or t q 0) c) (v * n + u) (rw sized (place_lt n v u hv hu)) (eq-eqb c c refl) in
      let hp : p < n * n = omega (arith, f.below, sized) in
      let ep : get_or t p 0 ≡ c = eqb-true (get_or t p 0) c f.passes in
      let ep' : get_or t (p / n * n + p % n) 0 ≡ c = rw div-add-mod' ep in
      sequence_joins g ss (p / n) (p % n)
      ∙ sym (all_or_none ρ law g k T ok (sequence ss) (sequence_formed g.labels y) pos (omega (arith, sequence_diameter ss))
      v u (p / n) (p % n) hv hu (row_lt n p hp) (column_lt n p hp) (sym ep') l)
      ∙ sym (sequence_joins g ss v u)

  -- sequence lookup: the sequence joins a pair exactly if the pair's class stands in its part
  pub stored_joins : (ss : List ℕ) → Symbols g.labels ss → length ss ≤ k → (v u : ℕ) → v < g.items → u < g.items
      → (ltb 0 (number_at g.items (T k) v u) && stands (entries_of g k (T k)) (code_from 0 ss) (number_at g.items (T k) v u)) ≡ joins g ss v u
  unfolding entries_of
  stored_joins ss y h v u hv hu =
      let n = g.items in
      let t = T k in
      let c = number_at n t v u in
      let es = entries_up_to g t (max_of t) k in
      let x = code_from 0 ss in
      let iff = entered_iff g t few (max_of t) k ss c y h in
      same (ltb 0 c && stands es x c) (joins g ss v u)
      (λ e.
      let l = ltb-true 0 c (and_left (ltb 0 c) (stands es x c) e) in
      let m = stands_find es (up_rising g t few (max_of t) k) x c (and_right (ltb 0 c) (stands es x c) e) in
      sym (first_joins ss y h v u hv hu l) ∙ (iff.0 m).2)
      (λ e.
      let q = sequence ss in
      let cn = meets_connected g q v u (sequence_formed g.labels y) hv (meets_find g q v u (sym (sequence_joins g ss v u) ∙ e)) in
      let l : 0 < c = connected_number ρ g k T (accepted_at ρ g k T ok k pos (omega arith)) v u hv hu
      (conn_le g (diameter q) k v u (omega (arith, sequence_diameter ss)) cn) in
      and_intro (ltb 0 c) (stands es x c) (lt-ltb 0 c l)
      (stands_here es (up_rising g t few (max_of t) k) x c (iff.1 (l, known v u, first_joins ss y h v u hv hu l ∙ e))))
    where
      known : (v u : ℕ) → number_at g.items (T k) v u ≤ max_of (T k)
      known v u = unfold number_at in max_bounds (T k) (v * g.items + u)

  -- a stored step holds what the step leads to
  pub stored_step_lem : (s : ℕ) → 0 < s → s ≤ 2 * g.labels → (v u : ℕ) → v < g.items → u < g.items
      → stored_step g.items (T k) (entries_of g k (T k)) s v u ≡ leads g s v u
  unfolding stored_step
  stored_step_lem s p h v u hv hu =
      let c = number_at g.items (T k) v u in
      subst (λ (x : ℕ). (ltb 0 c && stands (entries_of g k (T k)) x c) ≡ joins g (s ∷ []) v u) (code_one s)
      (stored_joins (s ∷ []) (symbol p h end) (omega arith) v u hv hu)
      ∙ joins_one g s v u hu

  -- accepted tables with the exact entry list are sound
  pub accepted_sound : Sound g (T k) (entries_of g k (T k))
  accepted_sound = record { steps = stored_step_lem }
