-- Pairs of a class and lookup: what each test of the code says of the bounds, and that a part lies in the caller's list.
use Rattle.std.proofs.Common.{Err, Ok, Result}
use Rattle.rules.specs.declared.Part.{Part}
use Prim.Native.Nat.{ℕ, pred, ◌+◌, ◌*◌, ◌-◌, ◌/◌, ◌^◌, ◌≤◌, ◌<◌}
use mathlib.Core.Path.{◌≡◌, refl, sym, ap, ◌∙◌}
use mathlib.Core.List.{List, []}
use mathlib.Core.Bool.{Bool, true, false, ◌||◌, cond}
use native.Mathlib.Nat.{pow-suc, pow-le-pow_right}
use native.Mathlib.Numerals.{add-one}
use native.Mathlib.Omega.{arith}
use borrow.Author.Tests.{eq-eqb, ne_eqb, lt-ltb, le-ltb, le-leb, lt-leb, ltb-false}
use lib.Dec.{eqb, leb, ltb}
use lib.ListN.{length, get_or, drop}
use lib.Seq.{slice, drop-cons, drop-length}
use Rattle.rules.specs.declared.Refusal.{Refusal}
use Rattle.rules.specs.declared.Refusal.TheVariants.{TooLong, Unknown, NoClass}
use Rattle.rules.specs.Finite.{any_below}
use Rattle.rules.specs.Lists.{code_from}
use Rattle.rules.specs.Stored.{part_from, part_to}
use Rattle.rules.specs.Verdict.{Verdict, good, refuse, ◌or_else◌, when, few_symbols, known_symbols}
use Rattle.rules.specs.Outcomes.{span, part_of, class_bounds, run_bounds, lookup_after, lookup_bounds}
use Rattle.rules.proofs.Laws.Tests.{or_false_left, or_false_right}
use Rattle.rules.proofs.Laws.Loops.{any_more, first_found}
pub use Rattle.rules.proofs.Laws.Slices.{pred_is, take_from}
use Rattle.stored.proofs.Laws.Runs.{from_to, to_at_most, first_past_all}
use Rattle.parts.specs.Parts.{Inside, is_unknown, first_unknown}

refused_part : {C : Type 0} {r : Refusal} {from to : ℕ} → Err r ≡ Ok (span from to) → C
refused_part e = let z : ◌≡◌ {A = ℕ} 0 1 = cc in absurd (omega arith)

-- pairs of a class
module _ (c : ℕ) (starts order : List ℕ) where
  pub class_zero : c ≡ 0 → Err NoClass ≡ class_bounds c starts order
  unfolding class_bounds
  class_zero e = rw (eq-eqb c 0 e)

  module _ (some : c ≡ 0 → ⊥) where
    pub class_past : length starts ≤ c → Err NoClass ≡ class_bounds c starts order
    unfolding class_bounds
    class_past l = rw (ne_eqb c 0 some, le-leb (length starts) c l)

    module _ (here : c < length starts) where
      pub class_disordered : get_or starts c 0 < get_or starts (c - 1) 0 → Err NoClass ≡ class_bounds c starts order
      unfolding class_bounds
      class_disordered l = rw (pred_is c, ne_eqb c 0 some, lt-leb (length starts) c here, lt-ltb (get_or starts c 0) (get_or starts (c - 1) 0) l)

      module _ (ordered : get_or starts (c - 1) 0 ≤ get_or starts c 0) where
        pub class_outside : length order < get_or starts c 0 → Err NoClass ≡ class_bounds c starts order
        unfolding class_bounds
        class_outside l =
            rw (pred_is c, ne_eqb c 0 some, lt-leb (length starts) c here, le-ltb (get_or starts c 0) (get_or starts (c - 1) 0) ordered, lt-ltb (length order) (get_or starts c 0) l)

        pub class_inside : get_or starts c 0 ≤ length order → Ok (span (get_or starts (c - 1) 0) (get_or starts c 0)) ≡ class_bounds c starts order
        unfolding class_bounds
        class_inside l =
            rw (pred_is c, ne_eqb c 0 some, lt-leb (length starts) c here, le-ltb (get_or starts c 0) (get_or starts (c - 1) 0) ordered, le-ltb (length order) (get_or starts c 0) l)

  class_told : (b : Bool) (f t from to : ℕ) → cond b (Err NoClass) (Ok (span f t)) ≡ Ok (span from to) → (b ≡ false) × (f ≡ from) × (t ≡ to)
  class_told true f t from to e = refused_part e
  class_told false f t from to e = let same : span f t ≡ span from to = cc in (refl, ap (λ (p : Part). p.from) same, ap (λ (p : Part). p.to) same)

  pub class_part : (bounds : Result Part Refusal) → bounds ≡ class_bounds c starts order → Inside bounds order
  unfolding class_bounds
  class_part bounds q =
      let f = get_or starts (pred c) 0 in
      let t = get_or starts c 0 in
      let tests = ltb t f || ltb (length order) t in
      record {
        within = λ from to e.
            let told = class_told (eqb c 0 || (leb (length starts) c || tests)) f t from to (sym q ∙ e) in
            let inner = or_false_right (leb (length starts) c) tests (or_false_right (eqb c 0) (leb (length starts) c || tests) told.0) in
            let a : f ≤ t = ltb-false t f (or_false_left (ltb t f) (ltb (length order) t) inner) in
            let b : t ≤ length order = ltb-false (length order) t (or_false_right (ltb t f) (ltb (length order) t) inner) in
            (omega (arith, a, told.1, told.2), omega (arith, b, told.2));
      }

-- lookup's symbols
module _ (symbols : List ℕ) where
  pub unknown_more : (i : ℕ) → any_below i (is_unknown symbols) ≡ false → (get_or symbols i 0 ≡ 0 → ⊥) → get_or symbols i 0 ≤ 16
      → any_below (i + 1) (is_unknown symbols) ≡ false
  unfolding is_unknown
  unknown_more i h some l = any_more (is_unknown symbols) i h (rw (ne_eqb (get_or symbols i 0) 0 some, le-ltb 16 (get_or symbols i 0) l))

  pub unknown_zero : (i : ℕ) → i < length symbols → any_below i (is_unknown symbols) ≡ false → get_or symbols i 0 ≡ 0 → i ≡ first_unknown symbols
  unfolding is_unknown first_unknown
  unknown_zero i l h e = first_found (is_unknown symbols) (length symbols) i l h (rw (eq-eqb (get_or symbols i 0) 0 e))

  pub unknown_large : (i : ℕ) → i < length symbols → any_below i (is_unknown symbols) ≡ false → (get_or symbols i 0 ≡ 0 → ⊥) → 16 < get_or symbols i 0
      → i ≡ first_unknown symbols
  unfolding is_unknown first_unknown
  unknown_large i l h some e =
      first_found (is_unknown symbols) (length symbols) i l h (rw (ne_eqb (get_or symbols i 0) 0 some, lt-ltb 16 (get_or symbols i 0) e))

  pub unknown_none : (i : ℕ) → i ≤ length symbols → length symbols ≤ i → any_below i (is_unknown symbols) ≡ false → length symbols ≡ first_unknown symbols
  unfolding first_unknown
  unknown_none i p q h = first_past_all (length symbols) i (is_unknown symbols) p q h

  -- the code of a sequence, symbol by symbol
  pub code_more : (a i x : ℕ) → i < length symbols → code_from a (drop i symbols) ≡ x → code_from (a * 17 + get_or symbols i 0) (drop (i + 1) symbols) ≡ x
  unfolding code_from
  code_more a i x l h = rw (add-one i) (rw (drop-cons symbols i 0 l) at h)

  pub code_done : (a i x : ℕ) → i ≤ length symbols → length symbols ≤ i → code_from a (drop i symbols) ≡ x → a ≡ x
  unfolding code_from
  code_done a i x p q h = let e : i ≡ length symbols = omega arith in rw (e, drop-length symbols) at h

-- the code of i symbols is below 256·17^i - 15
pub code_small : (a i s : ℕ) → i < 4 → a + 16 ≤ 256 * 17 ^ i → s < 256 → (a * 17 + s < 4294967296) × (a * 17 + s + 16 ≤ 256 * 17 ^ (i + 1))
code_small a i s l h b =
    let few : i ≤ 3 = omega arith in
    let p : 17 ^ i ≤ 17 ^ 3 = pow-le-pow_right (omega arith) few in
    (omega (arith, p, h, b), rw (add-one i, pow-suc 17 i) (omega (arith, h, b)))

-- the run of a code
module _ (entries : List ℕ) (code : ℕ) where
  pub run_none : length entries / 2 ≤ part_from entries code → Ok (span 0 0) ≡ run_bounds entries code
  unfolding run_bounds
  run_none l = rw (le-ltb (part_from entries code) (length entries / 2) l)

  pub run_some : (from to : ℕ) → from ≡ part_from entries code → to ≡ part_to entries code → from < length entries / 2 → Ok (span (2 * from) (2 * to)) ≡ run_bounds entries code
  unfolding run_bounds
  run_some from to e f l = rw (e, f, lt-ltb (part_from entries code) (length entries / 2) (rw e at l))

  run_told : (b : Bool) (f t from to : ℕ) → f ≤ t → t ≤ length entries → ◌≡◌ {A = Result Part Refusal} (cond b (Ok (span f t)) (Ok (span 0 0))) (Ok (span from to)) → (from ≤ to) × (to ≤ length entries)
  run_told true f t from to p q e =
      let same : span f t ≡ span from to = cc in
      let a : f ≡ from = ap (λ (p : Part). p.from) same in
      let b : t ≡ to = ap (λ (p : Part). p.to) same in
      (omega arith, omega arith)
  run_told false f t from to p q e =
      let same : span 0 0 ≡ span from to = cc in
      let a : 0 ≡ from = ap (λ (p : Part). p.from) same in
      let b : 0 ≡ to = ap (λ (p : Part). p.to) same in
      (omega arith, omega arith)

  pub run_part : (from to : ℕ) → run_bounds entries code ≡ Ok (span from to) → (from ≤ to) × (to ≤ length entries)
  unfolding run_bounds
  run_part from to e =
      run_told (ltb (part_from entries code) (length entries / 2)) (2 * part_from entries code) (2 * part_to entries code) from to
      (omega (arith, from_to entries code)) (omega (arith, to_at_most entries code)) e

-- lookup
module _ (symbols entries : List ℕ) where
  pub lookup_long : 4 < length symbols → Err TooLong ≡ lookup_bounds symbols entries
  unfolding lookup_bounds few_symbols when ◌or_else◌ lookup_after
  lookup_long l = rw (lt-ltb 4 (length symbols) l)

  pub lookup_unknown : length symbols ≤ 4 → (bad : ℕ) → bad ≡ first_unknown symbols → bad < length symbols → Err (Unknown bad) ≡ lookup_bounds symbols entries
  unfolding lookup_bounds few_symbols known_symbols first_unknown is_unknown when ◌or_else◌ lookup_after
  lookup_unknown l bad e h =
      rw (le-ltb 4 (length symbols) l, ← e, lt-ltb bad (length symbols) h)

  pub lookup_known : length symbols ≤ 4 → length symbols ≤ first_unknown symbols → lookup_bounds symbols entries ≡ run_bounds entries (code_from 0 symbols)
  unfolding lookup_bounds few_symbols known_symbols first_unknown is_unknown when ◌or_else◌ lookup_after
  lookup_known l h = rw (le-ltb 4 (length symbols) l, le-ltb (first_unknown symbols) (length symbols) h)

  after_part : (v : Verdict) (from to : ℕ) → lookup_after symbols entries v ≡ Ok (span from to) → (from ≤ to) × (to ≤ length entries)
  unfolding lookup_after
  after_part good from to e = run_part entries (code_from 0 symbols) from to e
  after_part (refuse r) from to e = refused_part e

  pub lookup_part : (bounds : Result Part Refusal) → bounds ≡ lookup_bounds symbols entries → Inside bounds entries
  unfolding lookup_bounds
  lookup_part bounds q = record { within = λ from to e. after_part (few_symbols symbols or_else known_symbols symbols) from to (sym q ∙ e) }

-- a part of a list, from the front of what is left or from the end of what is kept
pub part_numbers : (list : List ℕ) (from to : ℕ) (bounds : Result Part Refusal) (numbers : List ℕ) → bounds ≡ Ok (span from to) → numbers ≡ slice from to list → numbers ≡ part_of list bounds
unfolding part_of
part_numbers list from to bounds numbers e q = rw e q

pub part_none : (list : List ℕ) (r : Refusal) (bounds : Result Part Refusal) → bounds ≡ Err r → [] ≡ part_of list bounds
unfolding part_of
part_none list r bounds e = rw e
