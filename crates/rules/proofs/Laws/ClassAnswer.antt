-- Over sound tables whose classes meet a query wholly or not at all, the class answer names exactly the classes whose pairs meet the query.
use Prim.Native.Nat.{ℕ, ◌*◌, ◌/◌, ◌%◌, ◌<◌}
use mathlib.Core.Path.{◌≡◌, refl, sym, ap, ◌∙◌, subst}
use mathlib.Core.List.Memᴰ
use mathlib.Core.List.{List, Memᴰ}
use mathlib.Core.Bool.{Bool, true, ◌&&◌}
use native.Mathlib.Omega.{arith}
use borrow.Author.Tests.{eqb-true, eq-eqb, lt-ltb, ltb-true}
use lib.Dec.{eqb, ltb}
use lib.ListN.{get_or}
use Rattle.rules.specs.Finite.{first_below, list_below}
use Rattle.rules.specs.Graph.{Graph}
use Rattle.rules.specs.Query.{Query, meets, meets_by}
use Rattle.rules.specs.Levels.{first_of}
use Rattle.rules.specs.Published.{WellFormed}
use Rattle.rules.specs.Stored.{stored_step, leader, class_answer}
use Rattle.rules.proofs.Laws.Tests.{and_left, and_right, and_intro}
use Rattle.rules.proofs.Laws.Finite.{first_is}
use Rattle.rules.proofs.Laws.Listing.{list_find, list_here}
use Rattle.rules.proofs.Laws.Places.{row_lt, column_lt}
use Rattle.rules.proofs.Laws.Sound.{Sound, sound_meets}

module _ (g : Graph) (t entries : List ℕ) (sound : Sound g t entries) (q : Query) (formed : WellFormed g.labels q) where
  abbrev many : ℕ
  many = g.items * g.items

  abbrev meets_at : ℕ → Bool
  meets_at p = meets g q (p / g.items) (p % g.items)

  abbrev stored_at : ℕ → Bool
  stored_at p = meets_by g.items (stored_step g.items t entries) q (p / g.items) (p % g.items)

  abbrev listed : ℕ → Bool
  listed p = leader many t p && stored_at p

  stored_at_lem : (p : ℕ) → p < many → stored_at p ≡ meets_at p
  stored_at_lem p h = sound_meets g t entries sound q formed (p / g.items) (p % g.items) (row_lt g.items p h) (column_lt g.items p h)

  -- a listed class is that of a pair that meets the query
  pub class_from : (c : ℕ) → Memᴰ c (class_answer g.items t entries q)
      → (p : ℕ) × (p < many) × (get_or t p 0 ≡ c) × (0 < c) × (meets_at p ≡ true)
  unfolding class_answer leader
  class_from c m =
      let r = Memᴰ.of_map (λ p. get_or t p 0) (list_below many listed) m in
      let p = r.0 in
      let f = list_find listed many p r.1 in
      let l = and_left (leader many t p) (stored_at p) f.1 in
      let z : 0 < get_or t p 0 = ltb-true 0 (get_or t p 0) (and_left (ltb 0 (get_or t p 0)) (eqb (first_of many t (get_or t p 0)) p) l) in
      (p, f.0, r.2, subst (λ (x : ℕ). 0 < x) r.2 z, sym (stored_at_lem p f.0) ∙ and_right (leader many t p) (stored_at p) f.1)

  -- the class of a pair all of whose class meets the query is listed
  pub class_here : (p : ℕ) → p < many → 0 < get_or t p 0 → ((a : ℕ) → a < many → get_or t a 0 ≡ get_or t p 0 → meets_at a ≡ true)
      → Memᴰ (get_or t p 0) (class_answer g.items t entries q)
  unfolding class_answer leader first_of
  class_here p h l all =
      let c = get_or t p 0 in
      let f = first_is many (λ a. eqb (get_or t a 0) c) p h (eq-eqb c c refl) in
      let a = first_below many (λ a. eqb (get_or t a 0) c) in
      let ea : get_or t a 0 ≡ c = eqb-true (get_or t a 0) c f.passes in
      let ld : leader many t a ≡ true = and_intro _ _ (lt-ltb 0 (get_or t a 0) (omega arith)) (eq-eqb (first_of many t (get_or t a 0)) a (ap (first_of many t) ea)) in
      let st : stored_at a ≡ true = stored_at_lem a f.below ∙ all a f.below ea in
      Memᴰ.cast (sym ea) (Memᴰ.map (λ p. get_or t p 0) (list_here listed many a f.below (and_intro (leader many t a) (stored_at a) ld st)))
