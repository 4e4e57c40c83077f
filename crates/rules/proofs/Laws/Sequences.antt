-- A sequence of symbols as a query: it joins exactly the pairs that meet the query.
use Prim.Native.Nat.{ℕ, ◌<◌}
use mathlib.Core.Path.{◌≡◌, refl, ap, subst}
use mathlib.Core.List.{List, [], ◌∷◌}
use mathlib.Core.Bool.{Bool, true, ◌&&◌}
use native.Mathlib.Omega.{arith}
use borrow.Author.Tests.{eqb-true, eq-eqb}
use lib.Dec.{eqb}
use lib.ListN.{length}
use Rattle.rules.specs.Graph.{Graph, leads}
use Rattle.rules.specs.Query.{identity, step, Query, atom, join, diameter, reach, meets, meets_by, atom_by}
use Rattle.rules.specs.Lists.{joins, code_from}
use Rattle.rules.specs.Published.{AtomFormed, WellFormed, Symbols, end, symbol}
use Rattle.rules.proofs.Laws.Tests.{and_left, and_right, and_intro, same}
use Rattle.rules.proofs.Laws.Finite.{any_find, any_here, any_same}

-- a sequence as a query
pub sequence : List ℕ → Query
sequence [] = atom identity
sequence (s ∷ ss) = join (atom (step s)) (sequence ss)

pub sequence_diameter : (ss : List ℕ) → diameter (sequence ss) ≡ length ss
unfolding sequence diameter reach
sequence_diameter [] = refl
sequence_diameter (s ∷ ss) = omega (arith, sequence_diameter ss)

pub sequence_formed : (l : ℕ) {ss : List ℕ} → Symbols l ss → WellFormed l (sequence ss)
unfolding sequence WellFormed AtomFormed
sequence_formed l end = tt
sequence_formed l (symbol p h y) = ((p, h), sequence_formed l y)

pub code_one : (s : ℕ) → code_from 0 (s ∷ []) ≡ s
unfolding code_from
code_one s = omega arith

module _ (g : Graph) where
  pub sequence_joins : (ss : List ℕ) (v u : ℕ) → joins g ss v u ≡ meets g (sequence ss) v u
  unfolding sequence joins meets meets_by atom_by
  sequence_joins [] v u = refl
  sequence_joins (s ∷ ss) v u =
      any_same g.items _ _ (λ m h. ap (λ (b : Bool). leads g s v m && b) (sequence_joins ss m u))

  pub joins_one : (s v u : ℕ) → u < g.items → joins g (s ∷ []) v u ≡ leads g s v u
  unfolding joins
  joins_one s v u h =
      same (joins g (s ∷ []) v u) (leads g s v u)
      (λ t. let r = any_find g.items (λ m. leads g s v m && eqb m u) t in
      subst (λ (m : ℕ). leads g s v m ≡ true) (eqb-true r.0 u (and_right (leads g s v r.0) (eqb r.0 u) r.2)) (and_left (leads g s v r.0) (eqb r.0 u) r.2))
      (λ t. any_here g.items (λ m. leads g s v m && eqb m u) u h (and_intro _ _ t (eq-eqb u u refl)))
