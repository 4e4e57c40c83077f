-- Chains of positions: walking one, and one position more.
use Prim.Native.Nat.{ℕ, zero, suc, ◌+◌, ◌*◌, ◌-◌, ◌≤◌, ◌<◌}
use mathlib.Core.Path.{◌≡◌, refl, sym, ap, ◌∙◌, subst}
use mathlib.Core.Logic.{◌⊎◌, inl, inr, ⊎_elim}
use mathlib.Core.List.{List}
use mathlib.Core.Bool.{Bool, true, false}
use native.Mathlib.Decide.{ℕ_discrete}
use native.Mathlib.Nat.{eq-or-lt_of_le}
use native.Mathlib.Omega.{arith}
use Rattle.rules.specs.Finite.{any_below}
use Rattle.rules.specs.Levels.{matches}
use Rattle.rules.proofs.Laws.Tests.{and_left, and_right, not_true_of, not_both}
use Rattle.rules.proofs.Laws.Finite.{any_find}
use Rattle.twins.specs.Chains.{Linked, here, next, Met, Stored, Chains, link_of, head_of}

-- the first position of a chain, and the rest
pub linked_cases : (link : ℕ → ℕ) {s x : ℕ} → Linked link s x → (q : ℕ) × (s ≡ suc q) × ((x ≡ q) ⊎ Linked link (link q) x)
linked_cases link (here {q = q}) = (q, refl, inl refl)
linked_cases link (next {q = q} l) = (q, refl, inr l)

pub linked_none : (link : ℕ → ℕ) {s x : ℕ} → s ≡ 0 → Linked link s x → ⊥
linked_none link e l = let r = linked_cases link l in omega (arith, r.1)

-- what a turn of the walk keeps: s is where it stands
module _ (is_in : ℕ → Bool) (link : ℕ → ℕ) (p : ℕ) where
  pub first_met : (s : ℕ) → (s ≡ 0 → ⊥) → ((x : ℕ) → Linked link s x → Met is_in link p x) → Met is_in link p (s - 1)
  first_met zero k h = absurd (k refl)
  first_met (suc q) k h = let e : suc q - 1 ≡ q = omega arith in rw e (h q here)

  pub rest_met : (s : ℕ) → (s ≡ 0 → ⊥) → ((x : ℕ) → Linked link s x → Met is_in link p x) → (x : ℕ) → Linked link (link (s - 1)) x → Met is_in link p x
  rest_met zero k h x l = absurd (k refl)
  rest_met (suc q) k h x l = let e : suc q - 1 ≡ q = omega arith in h x (next (rw e at l))

  -- those not passed, less one
  pub rest_ahead : (alike : ℕ → Bool) (s start : ℕ) → (s ≡ 0 → ⊥) → ((x : ℕ) → Linked link start x → alike x ≡ true → Linked link s x) → alike (s - 1) ≡ false
      → (x : ℕ) → Linked link start x → alike x ≡ true → Linked link (link (s - 1)) x
  rest_ahead alike s start k h no_match x l a =
      let r = linked_cases link (h x l a) in
      let q = r.0 in
      let e : s - 1 ≡ q = omega (arith, r.1) in
      ⊎_elim
      (λ (z : x ≡ q). not_both (alike q) (ap alike (sym z) ∙ a) (ap alike (sym e) ∙ no_match))
      (λ (m : Linked link (link q) x). rw e m)
      r.2

-- links that are changed at positions from p on only
module _ (link link' : ℕ → ℕ) (p : ℕ) (same : (q : ℕ) → q < p → link' q ≡ link q) where
  pub linked_there : {s x : ℕ} → ((y : ℕ) → Linked link s y → y < p) → Linked link s x → Linked link' s x
  linked_there bound here = here
  linked_there bound (next {q = q} {x = x} l) =
      next (subst (λ (z : ℕ). Linked link' z x) (sym (same q (bound q here))) (linked_there (λ y m. bound y (next m)) l))

  back_from : {s' x : ℕ} (s : ℕ) → s' ≡ s → ((y : ℕ) → Linked link s y → y < p) → Linked link' s' x → Linked link s x
  back_from s e bound (here {q = q}) = subst (λ (z : ℕ). Linked link z q) e here
  back_from s e bound (next {q = q} {x = x} l) =
      let below : q < p = bound q (subst (λ (z : ℕ). Linked link z q) e here) in
      subst (λ (z : ℕ). Linked link z x) e
      (next (back_from (link q) (same q below) (λ y m. bound y (subst (λ (z : ℕ). Linked link z y) e (next m))) l))

  pub linked_back : {s x : ℕ} → ((y : ℕ) → Linked link s y → y < p) → Linked link' s x → Linked link s x
  linked_back {s} bound l = back_from s refl bound l

module _ (is_in : ℕ → Bool) (alike : ℕ → ℕ → Bool) (bucket : ℕ → ℕ) (n : ℕ) (w : List ℕ) (p : ℕ) (ch : Chains is_in alike bucket n w p) where
  -- a head is at most p
  pub head_le : (b : ℕ) → b < n * n → head_of n w b ≤ p
  head_le b h = go (head_of n w b) (λ q m. (ch.sound b q h m).before)
    where
      go : (s : ℕ) → ((q : ℕ) → Linked (link_of n w) s q → q < p) → s ≤ p
      go zero f = omega arith
      go (suc q) f = omega (arith, f q here)

  -- nothing new at p
  later : (x : ℕ) → Met is_in (link_of n w) p x → Met is_in (link_of n w) (p + 1) x
  later x m = record { before = omega (arith, m.before); is_in_lem = m.is_in_lem; down = m.down }

  pub chains_out : is_in p ≡ false → Chains is_in alike bucket n w (p + 1)
  chains_out e =
      record {
        sound = λ b x h l. later x (ch.sound b x h l);
        complete = λ q h c. ⊎_elim
            (λ (z : q ≡ p). not_both (is_in p) (ap is_in (sym z) ∙ c) e)
            (λ (l : q < p). ch.complete q l c)
            (eq-or-lt_of_le (omega arith));
      }

  pub chains_old : (trans : (x y z : ℕ) → alike x y ≡ true → alike y z ≡ true → alike x z ≡ true)
      → (q : ℕ) → q < p → is_in q ≡ true → alike q p ≡ true → bucket q ≡ bucket p → Chains is_in alike bucket n w (p + 1)
  chains_old trans q l c a e =
      record {
        sound = λ b x h m. later x (ch.sound b x h m);
        complete = λ y h d. ⊎_elim
            (λ (z : y ≡ p).
            let s = ch.complete q l c in
            record { at = s.at; linked = rw (z, ← e) s.linked; same = rw z (trans s.at q p s.same a) })
            (λ (k : y < p). ch.complete y k d)
            (eq-or-lt_of_le (omega arith));
      }

  -- p at the head of its chain
  module _ (w' : List ℕ) (refl_p : alike p p ≡ true) (in_p : is_in p ≡ true) (small : (q : ℕ) → q ≤ p → bucket q < n * n)
      (links : (q : ℕ) → q < p → link_of n w' q ≡ link_of n w q) (link_p : link_of n w' p ≡ head_of n w (bucket p))
      (head_p : head_of n w' (bucket p) ≡ suc p) (heads : (b : ℕ) → b < n * n → (b ≡ bucket p → ⊥) → head_of n w' b ≡ head_of n w b) where
    bound : (b : ℕ) → b < n * n → (y : ℕ) → Linked (link_of n w) (head_of n w b) y → y < p
    bound b h y l = (ch.sound b y h l).before

    old_met : (b : ℕ) → b < n * n → (x : ℕ) → Linked (link_of n w') (head_of n w b) x → Met is_in (link_of n w') (p + 1) x
    old_met b h x l =
        let m = ch.sound b x h (linked_back (link_of n w) (link_of n w') p links (bound b h) l) in
        record { before = omega (arith, m.before); is_in_lem = m.is_in_lem; down = rw (links x m.before) m.down }

    new_met : (x : ℕ) → Linked (link_of n w') (suc p) x → Met is_in (link_of n w') (p + 1) x
    new_met x l =
        let r = linked_cases (link_of n w') l in
        let q = r.0 in
        let e : p ≡ q = omega (arith, r.1) in
        ⊎_elim
        (λ (z : x ≡ q).
        let xp : x ≡ p = z ∙ sym e in
        record { before = omega arith; is_in_lem = rw xp in_p; down = rw (xp, link_p) (head_le (bucket p) (small p (omega arith))) })
        (λ (m : Linked (link_of n w') (link_of n w' q) x).
        old_met (bucket p) (small p (omega arith)) x (subst (λ (z : ℕ). Linked (link_of n w') z x) (ap (link_of n w') (sym e) ∙ link_p) m))
        r.2

    pub chains_new : Chains is_in alike bucket n w' (p + 1)
    chains_new =
        record {
          sound = λ b x h l. met b x h l (ℕ_discrete b (bucket p));
          complete = λ q h c. ⊎_elim
              (λ (z : q ≡ p). record { at = p; linked = rw (z, head_p) here; same = rw z refl_p })
              (λ (k : q < p). stored q (ch.complete q k c) (small q (omega arith)) (ℕ_discrete (bucket q) (bucket p)))
              (eq-or-lt_of_le (omega arith));
        }
      where
        met : (b x : ℕ) → b < n * n → Linked (link_of n w') (head_of n w' b) x → Dec (b ≡ bucket p) → Met is_in (link_of n w') (p + 1) x
        met b x h l (yes e) = new_met x (subst (λ (z : ℕ). Linked (link_of n w') z x) (ap (head_of n w') e ∙ head_p) l)
        met b x h l (no k) = old_met b h x (subst (λ (z : ℕ). Linked (link_of n w') z x) (heads b h k) l)

        stored : (q : ℕ) → Stored alike (link_of n w) (head_of n w (bucket q)) q → bucket q < n * n → Dec (bucket q ≡ bucket p)
            → Stored alike (link_of n w') (head_of n w' (bucket q)) q
        stored q s h (yes e) =
            record {
              at = s.at;
              linked =
                  subst (λ (z : ℕ). Linked (link_of n w') z s.at) (sym (ap (head_of n w') e ∙ head_p))
                  (next (subst (λ (z : ℕ). Linked (link_of n w') z s.at) (ap (head_of n w) e ∙ sym link_p) (linked_there (link_of n w) (link_of n w') p links (bound (bucket q) h) s.linked)));
              same = s.same;
            }
        stored q s h (no k) =
            record {
              at = s.at;
              linked =
                  subst (λ (z : ℕ). Linked (link_of n w') z s.at) (sym (heads (bucket q) h k))
                  (linked_there (link_of n w) (link_of n w') p links (bound (bucket q) h) s.linked);
              same = s.same;
            }

  -- where the walk has come to the end
  pub answer_none : (trans : (x y z : ℕ) → alike x y ≡ true → alike y z ≡ true → alike x z ≡ true)
      → ((q : ℕ) → q < p → alike q p ≡ true → bucket q ≡ bucket p)
      → (s : ℕ) → s ≡ 0 → ((x : ℕ) → Linked (link_of n w) (head_of n w (bucket p)) x → alike x p ≡ true → Linked (link_of n w) s x)
      → any_below p (matches is_in alike p) ≡ false
  unfolding matches
  answer_none trans one s z ahead =
      not_true_of (any_below p (matches is_in alike p))
      (λ t.
      let r = any_find p (matches is_in alike p) t in
      let q = r.0 in
      let c = and_left (is_in q) (alike q p) r.2 in
      let a = and_right (is_in q) (alike q p) r.2 in
      let st = ch.complete q r.1 c in
      linked_none (link_of n w) z (ahead st.at (rw (one q r.1 a) at st.linked) (trans st.at q p st.same a)))

-- no chain yet
pub chains_start : (is_in : ℕ → Bool) (alike : ℕ → ℕ → Bool) (bucket : ℕ → ℕ) (n : ℕ) (w : List ℕ) → ((b : ℕ) → b < n * n → head_of n w b ≡ 0) → Chains is_in alike bucket n w 0
chains_start is_in alike bucket n w empty =
    record {
      sound = λ b x h l. absurd (linked_none (link_of n w) (empty b h) l);
      complete = λ q h c. absurd (omega arith);
    }
