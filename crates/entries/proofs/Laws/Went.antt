-- Entries that go by one behind the other: counted, written where there is room, compared with a stored list.
use Prim.Native.Nat.{ℕ, suc, ◌+◌, ◌*◌, ◌-◌, ◌≤◌, ◌<◌}
use mathlib.Core.Path.{◌≡◌, refl, sym, ap, ◌∙◌, subst}
use mathlib.Core.List.{List, [], ◌∷◌, ◌++◌, append_assoc, append-nil}
use native.Mathlib.Omega.{arith}
use lib.ListN.{length, take, drop, set, length-set, length-append, take-append-drop}
use lib.Seq.{sets-eq, take_at, drop_at, length-take-le, drop-drop}
use Rattle.rules.specs.Accept.{difference}
use Rattle.std.proofs.Common.{Bor}
use Rattle.entries.specs.declared.list.EntryList.{EntryList}
use Rattle.entries.specs.Lent.{Same}
use Rattle.entries.specs.Entries.{Went}

-- what `meet` says of one entry
abbrev pub Meets : ℕ → ℕ → ℕ → ℕ → ℕ → List ℕ → Type 0
Meets k m m' a b s = (before : List ℕ) → length before ≡ 2 * k → m ≡ difference before s → m' ≡ difference (before ++ (a ∷ (b ∷ []))) s

pub went_none : (at m : ℕ) (s l : List ℕ) → Went at m at m [] s l l
went_none at m s l = record {
  count = omega arith;
  size = refl;
  text = λ h. sym (take-append-drop (2 * at) l);
  meets = λ before len e. e ∙ ap (λ (x : List ℕ). difference x s) (sym (append-nil before));
}

pub went_trans : (at m k m' r m'' : ℕ) (es fs s a b d : List ℕ) → Went at m k m' es s a b → Went k m' r m'' fs s b d → Went at m r m'' (es ++ fs) s a d
went_trans at m k m' r m'' es fs s a b d p q =
    record {
      count = q.count ∙ rw (length-append es fs) (omega (arith, p.count));
      size = q.size ∙ p.size;
      text = λ h.
          let hk : 2 * k ≤ length a = omega (arith, q.count) in
          let hb : 2 * r ≤ length b = omega (arith, p.size) in
          let eb : b ≡ take (2 * at) a ++ (es ++ drop (2 * k) a) = p.text hk in
          let ea : b ≡ (take (2 * at) a ++ es) ++ drop (2 * k) a = eb ∙ sym (append_assoc (take (2 * at) a) es (drop (2 * k) a)) in
          let len : length (take (2 * at) a ++ es) ≡ 2 * k =
          length-append (take (2 * at) a) es ∙ rw (length-take-le (2 * at) a (omega (arith, p.count))) (sym p.count) in
          let tk : take (2 * k) b ≡ take (2 * at) a ++ es = rw ea (take_at (take (2 * at) a ++ es) (drop (2 * k) a) (2 * k) len) in
          let m : ℕ = 2 * r - 2 * k in
          let er : 2 * r ≡ 2 * k + m = omega (arith, q.count) in
          let dk : drop (2 * k) b ≡ drop (2 * k) a = rw ea (drop_at (take (2 * at) a ++ es) (drop (2 * k) a) (2 * k) len) in
          let dr : drop (2 * r) b ≡ drop (2 * r) a =
          subst (λ (x : ℕ). drop x b ≡ drop x a) (sym er) (sym (drop-drop m (2 * k) b) ∙ (ap (λ (l : List ℕ). drop m l) dk ∙ drop-drop m (2 * k) a)) in
          q.text hb ∙ (rw (tk, dr) (append_assoc (take (2 * at) a) es (fs ++ drop (2 * r) a)) ∙ ap (λ (l : List ℕ). take (2 * at) a ++ l) (sym (append_assoc es fs (drop (2 * r) a))));
      meets = λ before len e.
          q.meets (before ++ es) (rw (length-append before es) (omega (arith, p.count))) (p.meets before len e)
          ∙ ap (λ (l : List ℕ). difference l s) (append_assoc before es fs);
    }

-- one entry is put
pub went_put : (k m m' a b : ℕ) (s l : List ℕ) → Meets k m m' a b s → 2 * k + 1 < length l → Went k m (k + 1) m' (a ∷ (b ∷ [])) s l (set (set l (2 * k) a) (2 * k + 1) b)
went_put k m m' a b s l e h =
    record {
      count = omega arith;
      size = simp length-set;
      text = λ r.
          let g : 2 * k + 2 ≡ 2 * (k + 1) = omega arith in
          let f : 2 * k + 1 ≡ suc (2 * k) = omega arith in
          rw f (subst (λ (x : ℕ). set (set l (2 * k) a) (suc (2 * k)) b ≡ take (2 * k) l ++ (a ∷ (b ∷ [])) ++ drop x l) g (sets-eq (a ∷ (b ∷ [])) l (2 * k) (omega arith)))
          ∙ append_assoc (take (2 * k) l) (a ∷ (b ∷ [])) (drop (2 * (k + 1)) l);
      meets = e;
    }

-- there is no room for it
pub went_full : (k m m' a b : ℕ) (s l : List ℕ) → Meets k m m' a b s → length l ≤ 2 * k + 1 → Went k m (k + 1) m' (a ∷ (b ∷ [])) s l l
went_full k m m' a b s l e h = record { count = omega arith; size = refl; text = λ r. absurd (no r); meets = e }
  where
    no : 2 * (k + 1) ≤ length l → ⊥
    no r = omega arith

pub went_as : (at m r m' : ℕ) (es fs s a b : List ℕ) → es ≡ fs → Went at m r m' es s a b → Went at m r m' fs s a b
went_as at m r m' es fs s a b e w = subst (λ (l : List ℕ). Went at m r m' l s a b) e w

-- ---- from the start
pub went_from : {at m r m' : ℕ} {es s old new : List ℕ} → at ≡ 0 → m ≡ 0 → Went at m r m' es s old new → Went 0 0 r m' es s old new
went_from {at} {m} {r} {m'} {es} {s} {old} {new} e d w = subst (λ (x : ℕ). Went 0 x r m' es s old new) d (subst (λ (x : ℕ). Went x m r m' es s old new) e w)

-- ---- the lists that are lent
pub same_refl : (a : EntryList) → Same a a
same_refl a = record { stored = refl; out = refl; size = refl }

pub same_trans : {a b d : EntryList} → Same a b → Same b d → Same a d
same_trans p q = record { stored = q.stored ∙ p.stored; out = q.out ∙ p.out; size = q.size ∙ p.size }

pub went_on : {a b : EntryList} {at m r m' : ℕ} {es old new : List ℕ} → Same a b → Went at m r m' es b.stored.now old new → Went at m r m' es a.stored.now old new
went_on {a} {b} {at} {m} {r} {m'} {es} {old} {new} s w = subst (λ (x : List ℕ). Went at m r m' es x old new) (ap (λ (x : Bor (List ℕ)). x.now) s.stored) w

pub went_back : {a b : EntryList} {at m r m' : ℕ} {es old new : List ℕ} → Same a b → Went at m r m' es a.stored.now old new → Went at m r m' es b.stored.now old new
went_back {a} {b} {at} {m} {r} {m'} {es} {old} {new} s w = subst (λ (x : List ℕ). Went at m r m' es x old new) (sym (ap (λ (x : Bor (List ℕ)). x.now) s.stored)) w
