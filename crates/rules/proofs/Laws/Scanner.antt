-- What a scanner of a form gives: it says v exactly for the texts of the form that say v, and faults exactly at the first place at which nothing continues.
use Prim.Native.Nat.{ℕ, suc, ◌+◌, ◌≤◌, ◌<◌}
use mathlib.Core.Path.{◌≡◌, refl, sym, ap, ◌∙◌, subst}
use mathlib.Core.Logic.{⊎_elim}
use mathlib.Core.Option.{Option, none, some, Option-elim, some-injective}
use mathlib.Core.List.{List, [], ◌∷◌, ◌++◌, append_assoc}
use native.Mathlib.Nat.{eq-or-lt_of_le}
use native.Mathlib.Omega.{arith}
use lib.ListN.{length, take, drop, take-append-drop}
use lib.Seq.{take-take}
use Rattle.rules.specs.Scanner.{Scanner, Scanned, says, fault_at, scan_from, scan, Takes, ends, goes, Continues, FirstFault, Scans}
use Rattle.rules.proofs.Laws.Tests.{order}

says_fault : {Value C : Type 0} {v : Value} {p : ℕ} → says v ≡ fault_at p → C
says_fault e = let z : ◌≡◌ {A = ℕ} 0 1 = cc in absurd (omega arith)

says_inj : {Value : Type 0} {v w : Value} → says v ≡ says w → v ≡ w
says_inj e = cc

fault_inj : {Value : Type 0} {p q : ℕ} → ◌≡◌ {A = Scanned Value} (fault_at p) (fault_at q) → p ≡ q
fault_inj e = cc

none_some : {State C : Type 0} {t : State} → none ≡ some t → C
none_some e = let z : ◌≡◌ {A = ℕ} 0 1 = cc in absurd (omega arith)

module _ {Symbol State Value : Type 0} (x : Scanner Symbol State Value) where
  -- a text that is taken is one that the scan says something of
  scan_takes : (text : List Symbol) (s : State) (at : ℕ) (v : Value) → scan_from x s at text ≡ says v → Takes x s text v
  unfolding scan_from Option-elim
  scan_takes [] s at v = go (x.end s) refl
    where
      go : (o : Option Value) → x.end s ≡ o → Option-elim o (fault_at at) says ≡ says v → Takes x s [] v
      go none e f = says_fault (sym f)
      go (some w) e f = ends (e ∙ ap some (says_inj f))
  scan_takes (b ∷ text) s at v = go (λ t. scan_takes text t (suc at) v) (x.step s b) refl
    where
      go : ((t : State) → scan_from x t (suc at) text ≡ says v → Takes x t text v)
          → (o : Option State) → x.step s b ≡ o → Option-elim o (fault_at at) (λ t. scan_from x t (suc at) text) ≡ says v → Takes x s (b ∷ text) v
      go again none e f = says_fault (sym f)
      go again (some t) e f = goes t e (again t f)

  takes_scan : {text : List Symbol} {s : State} {v : Value} → Takes x s text v → (at : ℕ) → scan_from x s at text ≡ says v
  unfolding scan_from Option-elim
  takes_scan (ends e) at = rw e
  takes_scan (goes t e r) at = rw e (takes_scan r (suc at))

  -- one step of a text that is taken
  takes_step : {b : Symbol} {text : List Symbol} {s t : State} {v : Value} → x.step s b ≡ some t → Takes x s (b ∷ text) v → Takes x t text v
  takes_step {b} {text} {s} {t} {v} e (goes u f r) = subst (λ (z : State). Takes x z text v) (some-injective u t (sym f ∙ e)) r

  takes_stuck : {C : Type 0} {b : Symbol} {text : List Symbol} {s : State} {v : Value} → x.step s b ≡ none → Takes x s (b ∷ text) v → C
  takes_stuck e (goes u f r) = none_some (sym e ∙ f)

  takes_end : {C : Type 0} {s : State} {v : Value} → x.end s ≡ none → Takes x s [] v → C
  takes_end e (ends f) = none_some (sym e ∙ f)

  -- a fault one symbol later
  later : (s t : State) (b : Symbol) (text : List Symbol) (p : ℕ) → x.step s b ≡ some t
      → FirstFault (Takes x t) text p → FirstFault (Takes x s) (b ∷ text) (suc p)
  unfolding Continues
  later s t b text p e f = record {
    within = omega (arith, f.within);
    before = let r = f.before in (r.0, r.1, goes t e r.2);
    here = λ l c. f.here (omega arith) (c.0, c.1, takes_step e c.2);
    unended = λ q v r. f.unended (omega arith) v (takes_step e r);
  }

  module _ (Alive : State → Type 0) (alive_step : (s t : State) (b : Symbol) → Alive s → x.step s b ≡ some t → Alive t)
      (leads_on : (s : State) → Alive s → (rest : List Symbol) × (v : Value) × Takes x s rest v)
    where
      -- the fault of a scan is the first
      fault_first : (text : List Symbol) (s : State) (at p : ℕ) → Alive s → scan_from x s at text ≡ fault_at p
          → (q : ℕ) × (p ≡ at + q) × FirstFault (Takes x s) text q
      unfolding scan_from Option-elim Continues
      fault_first [] s at p a = go (x.end s) refl
        where
          go : (o : Option Value) → x.end s ≡ o → Option-elim o (fault_at at) says ≡ fault_at p → (q : ℕ) × (p ≡ at + q) × FirstFault (Takes x s) [] q
          go none e f = (
            0,
            sym (fault_inj f) ∙ omega arith,
            record { within = omega arith; before = leads_on s a; here = λ l. absurd (omega arith); unended = λ z v r. takes_end e r },
          )
          go (some w) e f = says_fault f
      fault_first (b ∷ text) s at p a = go (λ t e. fault_first text t (suc at) p (alive_step s t b a e)) (x.step s b) refl
        where
          go : ((t : State) → x.step s b ≡ some t → scan_from x t (suc at) text ≡ fault_at p → (q : ℕ) × (p ≡ suc at + q) × FirstFault (Takes x t) text q)
              → (o : Option State) → x.step s b ≡ o → Option-elim o (fault_at at) (λ t. scan_from x t (suc at) text) ≡ fault_at p
              → (q : ℕ) × (p ≡ at + q) × FirstFault (Takes x s) (b ∷ text) q
          go again none e f = (
            0,
            sym (fault_inj f) ∙ omega arith,
            record { within = omega arith; before = leads_on s a; here = λ l c. takes_stuck e c.2; unended = λ z. absurd (omega arith) },
          )
          go again (some t) e f = let r = again t e f in (suc r.0, r.1 ∙ omega arith, later s t b text r.0 e r.2)

-- a shorter beginning continues too
shorter : {Symbol Value : Type 0} (F : List Symbol → Value → Type 0) (text : List Symbol) (m n : ℕ) → m ≤ n → Continues F (take n text) → Continues F (take m text)
unfolding Continues
shorter F text m n h c =
    let e : take n text ≡ take m text ++ drop m (take n text) = sym (take-append-drop m (take n text)) ∙ ap (λ (z : List _). z ++ drop m (take n text)) (take-take m n text h) in
    (drop m (take n text) ++ c.0, c.1, rw (← append_assoc (take m text) (drop m (take n text)) c.0, ← e) c.2)

-- a text has one first fault, and a text of the form has none
pub fault_one : {Symbol Value : Type 0} (F : List Symbol → Value → Type 0) (text : List Symbol) (p q : ℕ) → FirstFault F text p → FirstFault F text q → p ≡ q
fault_one F text p q a b =
    ⊎_elim
    (λ (l : p < q). absurd (a.here (omega (arith, b.within)) (shorter F text (suc p) q l b.before)))
    (λ (g : q ≤ p). ⊎_elim
    (λ (e : q ≡ p). sym e)
    (λ (l : q < p). absurd (b.here (omega (arith, a.within)) (shorter F text (suc q) p l a.before)))
    (eq-or-lt_of_le g))
    (order p q)

form_no_fault : {C Symbol Value : Type 0} (F : List Symbol → Value → Type 0) (text : List Symbol) (v : Value) (p : ℕ) → F text v → FirstFault F text p → C
unfolding Continues
form_no_fault F text v p f a =
    ⊎_elim
    (λ (e : p ≡ length text). absurd (a.unended e v f))
    (λ (l : p < length text).
    absurd (a.here l (drop (suc p) text, v, rw (take-append-drop (suc p) text) f)))
    (eq-or-lt_of_le a.within)

-- the same for forms that have the same texts
fault_same : {Symbol Value : Type 0} (F G : List Symbol → Value → Type 0) → ((text : List Symbol) (v : Value) → F text v → G text v)
    → ((text : List Symbol) (v : Value) → G text v → F text v) → (text : List Symbol) (p : ℕ) → FirstFault F text p → FirstFault G text p
unfolding Continues
fault_same F G fg gf text p a = record {
  within = a.within;
  before = let c = a.before in (c.0, c.1, fg (take p text ++ c.0) c.1 c.2);
  here = λ l c. a.here l (c.0, c.1, gf (take (suc p) text ++ c.0) c.1 c.2);
  unended = λ e v g. a.unended e v (gf text v g);
}

-- a scanner of the form F
module _ {Symbol State Value : Type 0} (x : Scanner Symbol State Value) (F : List Symbol → Value → Type 0) (of : Scans x F) where
  pub scan_sound : (text : List Symbol) (v : Value) → scan x text ≡ says v → F text v
  unfolding scan
  scan_sound text v e = of.sound text v (scan_takes x text x.start 0 v e)

  pub scan_complete : (text : List Symbol) (v : Value) → F text v → scan x text ≡ says v
  unfolding scan
  scan_complete text v f = takes_scan x (of.complete text v f) 0

  pub one_value : (text : List Symbol) (v w : Value) → F text v → F text w → v ≡ w
  one_value text v w f g = says_inj (sym (scan_complete text v f) ∙ scan_complete text w g)

  pub scan_first : (text : List Symbol) (p : ℕ) → scan x text ≡ fault_at p → FirstFault F text p
  unfolding scan
  scan_first text p e =
      let r = fault_first x of.Alive of.alive_step of.leads_on text x.start 0 p of.alive_start e in
      let z : r.0 ≡ p = omega (arith, r.1) in
      subst (FirstFault F text) z (fault_same (Takes x x.start) F of.sound of.complete text r.0 r.2)

  pub first_scan : (text : List Symbol) (p : ℕ) → FirstFault F text p → scan x text ≡ fault_at p
  first_scan text p a = go (scan x text) refl
    where
      go : (r : Scanned Value) → scan x text ≡ r → r ≡ fault_at p
      go (says v) e = form_no_fault F text v p (scan_sound text v e) a
      go (fault_at q) e = ap fault_at (fault_one F text q p (scan_first text q e) a)
