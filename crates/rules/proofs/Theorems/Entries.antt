-- Sequence to class: the entry list holds exactly the code and class of each sequence of at most k symbols and each class whose pairs it joins, strictly ascending by code, then class.
use Rattle.std.proofs.Common.{Ok}
use Prim.Native.Nat.{ℕ, suc, ◌*◌, ◌/◌, ◌≤◌, ◌<◌}
use mathlib.Core.Path.{◌≡◌, refl, ap, subst}
use mathlib.Core.Logic.{◌↔◌, ◌⊎◌, inl, inr, ⊎_elim}
use mathlib.Core.List.{List, [], ◌∷◌}
use mathlib.Core.Bool.{true, ◌&&◌}
use native.Mathlib.Nat.{eq-or-lt_of_le}
use native.Mathlib.Omega.{arith}
use borrow.Author.Tests.{eqb-true, eq-eqb}
use lib.ListN.{length}
use Rattle.rules.specs.Graph.{Graph, leads, graph_of}
use Rattle.rules.specs.Rule.{rule}
use Rattle.rules.specs.Levels.{number_at, max_of, level_of}
use Rattle.rules.specs.Lists.{joins, code_from, joins_class, entries_up_to, entries_of}
use Rattle.rules.specs.Stored.{code_at, class_at}
use Rattle.rules.specs.Accept.{top_of}
use Rattle.rules.specs.Outcomes.{CheckCall, check_graph, check}
use Rattle.rules.specs.Published.{Joined, here, along_first, Symbols}
use Rattle.rules.proofs.Laws.Tests.{and_left, and_right, and_intro}
use Rattle.rules.proofs.Laws.Finite.{any_find, any_here}
use Rattle.rules.proofs.Laws.Graph.{leads_step, step_leads}
use Rattle.rules.proofs.Laws.Entries.{Entered, entered_iff, up_rising, code_once}
use Rattle.rules.proofs.Laws.Lookup.{rising_strict, rising_order}
use Rattle.rules.proofs.Laws.Sound.{first_joins}
use Rattle.rules.proofs.Laws.Calls.{passed, top_length}
use Rattle.rules.proofs.Theorems.Acceptance.{accepted_exactly}
use Rattle.rules.proofs.Laws.Lawful.{rule_laws}

-- the test of a sequence is the published type
module _ (g : Graph) where
  pub joins_joined : (symbols : List ℕ) (v u : ℕ) → joins g symbols v u ≡ true → Joined g symbols v u
  unfolding joins
  joins_joined [] v u e = subst (Joined g [] v) (eqb-true v u e) here
  joins_joined (s ∷ symbols) v u e =
      let r = any_find g.items (λ m. leads g s v m && joins g symbols m u) e in
      let m = r.0 in
      along_first m r.1 (leads_step g s v m (and_left (leads g s v m) (joins g symbols m u) r.2))
      (joins_joined symbols m u (and_right (leads g s v m) (joins g symbols m u) r.2))

  pub joined_joins : {symbols : List ℕ} {v u : ℕ} → Joined g symbols v u → joins g symbols v u ≡ true
  unfolding joins
  joined_joins (here {v = v}) = eq-eqb v v refl
  joined_joins (along_first {s = s} {v = v} {u = u} {symbols = symbols} m h a b) =
      any_here g.items (λ m. leads g s v m && joins g symbols m u) m h (and_intro _ _ (step_leads g a) (joined_joins b))

-- two different sequences have different codes
pub codes_differ : (labels : ℕ) → labels ≤ 8 → (a b : List ℕ) → Symbols labels a → Symbols labels b → code_from 0 a ≡ code_from 0 b → a ≡ b
codes_differ l few a b x y e = code_once l few a b x y e

module _ (g : Graph) (k : ℕ) (t : List ℕ) (few : g.labels ≤ 8) where
  -- an entry is there exactly if the sequence joins the class's first pair
  pub entries_exact : (symbols : List ℕ) (c : ℕ) → Symbols g.labels symbols → length symbols ≤ k
      → Entered (code_from 0 symbols) c (entries_of g k t) ↔ ((0 < c) × (c ≤ max_of t) × (joins_class g t symbols c ≡ true))
  unfolding entries_of
  entries_exact symbols c y h = entered_iff g t few (max_of t) k symbols c y h

  -- entries ascend by code, and among those of one code by class
  pub entries_ascend : (i j : ℕ) → i < j → j < length (entries_of g k t) / 2
      → (code_at (entries_of g k t) i < code_at (entries_of g k t) j)
      ⊎ ((code_at (entries_of g k t) i ≡ code_at (entries_of g k t) j) × (class_at (entries_of g k t) i < class_at (entries_of g k t) j))
  unfolding entries_of
  entries_ascend i j l h =
      let es = entries_up_to g t (max_of t) k in
      let r = up_rising g t few (max_of t) k in
      ⊎_elim
      (λ (e : code_at es i ≡ code_at es j). inr (e, omega (arith, rising_strict r i j l h, ap (λ (x : ℕ). x * suc (max_of t)) e)))
      (λ (b : code_at es i < code_at es j). inl b)
      (eq-or-lt_of_le (rising_order r i j (omega arith) h))

-- on accepted tables a sequence joins all pairs of a class or none, so that the first pair stands for the class
pub class_joined : (c : CheckCall) → (check c).result ≡ Ok tt → (symbols : List ℕ) → Symbols c.index.labels symbols → length symbols ≤ c.index.k
    → (v u : ℕ) → v < c.index.items → u < c.index.items → 0 < number_at c.index.items (top_of c.index) v u
    → joins_class (check_graph c) (top_of c.index) symbols (number_at c.index.items (top_of c.index) v u) ≡ joins (check_graph c) symbols v u
unfolding check_graph graph_of top_of
class_joined c ok symbols y h v u hv hu l =
    let x = c.index in
    let r = (accepted_exactly c).0 ok in
    let p = passed c r.0 in
    first_joins rule rule_laws (check_graph c) x.k (level_of x.items x.levels) r.1.levels p.levels.some_level p.sizes_fit.labels_fit
    (top_length x p.levels.some_level p.tables) symbols y h v u hv hu l
