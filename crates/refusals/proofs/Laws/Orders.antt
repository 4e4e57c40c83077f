-- Build's order of refusals is check's, and then room for order and starts.
use Rattle.std.proofs.Common.{Result, Err}
use Prim.Native.Nat.{ℕ, suc, ◌+◌, ◌*◌}
use mathlib.Core.Path.{◌≡◌, refl, ap, ◌∙◌}
use native.Mathlib.Numerals.{add-one}
use lib.Dec.{ltb}
use lib.ListN.{length}
use Rattle.rules.specs.declared.Refusal.{Refusal}
use Rattle.rules.specs.declared.Refusal.TheVariants.{Room}
use Rattle.rules.specs.Verdict.{Verdict, good, refuse, ◌or_else◌, when, sizes, level_count, edge_count, edges_fit, room}
use Rattle.rules.specs.Outcomes.{told, BuildCall, build_refusal, CheckCall, check_refusal}
use Rattle.rules.specs.Calls.{check_call}
use Rattle.refusals.proofs.Laws.Links.{chain_on, chain_end}

or_assoc : (a b c : Verdict) → ((a or_else b) or_else c) ≡ (a or_else (b or_else c))
unfolding ◌or_else◌
or_assoc good b c = refl
or_assoc (refuse r) b c = refl

module _ (c : BuildCall) where
  -- the check of the same tables
  abbrev pub as_check : CheckCall
  as_check = check_call c.items c.labels c.k c.edges c.levels c.starts c.order c.entries c.area

  abbrev rooms : Verdict
  rooms = room c.order (c.items * c.items) or_else room c.starts (suc (c.items * c.items))

  build_order : (check_refusal as_check or_else rooms) ≡ build_refusal c
  unfolding build_refusal check_refusal
  build_order =
      let s = sizes c.items c.labels in
      let k = level_count c.k in
      let e = edge_count c.edges in
      let f = edges_fit c.items c.labels c.edges in
      let a = room c.area (9 * (c.items * c.items)) in
      let l = room c.levels (c.k * (c.items * c.items)) in
      or_assoc s (k or_else e or_else f or_else a or_else l) rooms
      ∙ ap (λ (v : Verdict). s or_else v) (or_assoc k (e or_else f or_else a or_else l) rooms
      ∙ ap (λ (v : Verdict). k or_else v) (or_assoc e (f or_else a or_else l) rooms
      ∙ ap (λ (v : Verdict). e or_else v) (or_assoc f (a or_else l) rooms
      ∙ ap (λ (v : Verdict). f or_else v) (or_assoc a l rooms))))

  pub order_end : (l : Result Unit Refusal) (r : Refusal) → Err r ≡ told (check_refusal as_check) → l ≡ Err r → l ≡ told (build_refusal c)
  order_end l r e g = chain_end (check_refusal as_check) rooms r e g ∙ ap told build_order

  module _ (passed : check_refusal as_check ≡ good) where
    pub order_short : (l : Result Unit Refusal) (r : Refusal) (needed : ℕ) → needed ≡ c.items * c.items → Err r ≡ told (when (ltb (length c.order) needed) Room) → l ≡ Err r
        → l ≡ told (build_refusal c)
    unfolding room
    order_short l r needed q e g =
        chain_on (check_refusal as_check) rooms passed (chain_end (room c.order (c.items * c.items)) (room c.starts (suc (c.items * c.items))) r (rw q at e) g)
        ∙ ap told build_order

    pub order_last : (l : Result Unit Refusal) (needed : ℕ) → needed ≡ c.items * c.items → room c.order (c.items * c.items) ≡ good
        → l ≡ told (when (ltb (length c.starts) (needed + 1)) Room) → l ≡ told (build_refusal c)
    unfolding room
    order_last l needed q o e =
        chain_on (check_refusal as_check) rooms passed
        (chain_on (room c.order (c.items * c.items)) (room c.starts (suc (c.items * c.items))) o (rw (add-one needed, q) at e))
        ∙ ap told build_order
