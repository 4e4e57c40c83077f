-- How reading goes on behind the tokens of an atom, and behind those of two queries and a sign; and the other way: a token list that asks a query is that query written operands first.
use Prim.Native.Nat.{ℕ, suc, ◌+◌, ◌*◌, ◌≤◌, ◌<◌, max}
use mathlib.Core.Path.{◌≡◌, refl, sym, ap, ◌∙◌}
use mathlib.Core.Logic.{⊎_elim}
use mathlib.Core.List.{List, [], ◌∷◌, ◌++◌, append-nil, append_assoc}
use mathlib.Core.Bool.{Bool, true, false, ◌&&◌, cond}
use native.Mathlib.Numerals.{add-one}
use native.Mathlib.Omega.{arith}
use borrow.Author.Tests.{lt-ltb, le-ltb, lt-leb, eqb-true, ne_eqb}
use lib.Dec.{eqb, leb, ltb}
use lib.ListN.{length, length-append}
use Rattle.rules.specs.declared.Refusal.TheVariants.{QueryLength, NinthOperand, Unknown as UnknownAt}
use Rattle.rules.specs.declared.Token.{Token}
use Rattle.rules.specs.declared.Token.TheVariants.{Identity, Step, Join, Conjunction, Unknown}
use Rattle.rules.specs.Query.{Atom, identity, step, Query, atom, join, both}
use Rattle.rules.specs.Reading.{token_of, Reading, fault, asks, push, fold2, act, end, read_from, read_tokens, spell, tokens, waiting}
use Rattle.rules.specs.Published.{AtomFormed, WellFormed}
use Rattle.rules.proofs.Laws.Tests.{order}
use Rattle.rules.proofs.Laws.Tokens.{token_identity, token_step, token_join, token_conjunction}
use Rattle.rules.proofs.Laws.Reading.{fault_asks, asks_inj}

-- how reading goes on from the tokens of q: behind them with q waiting, or it is refused with 8 or 10 at one of them
pub data ReadBack (l : ℕ) (q : Query) (rest : List ℕ) (at : ℕ) (ws : List Query) (r : Reading) : Type 0 where
  goes_on : WellFormed l q → length ws + waiting q ≤ 8 → r ≡ read_from l rest (at + length (tokens q)) (q ∷ ws) → ReadBack l q rest at ws r
  unknown : (place : ℕ) → (WellFormed l q → ⊥) → at ≤ place → place < at + length (tokens q) → r ≡ fault (UnknownAt place) → ReadBack l q rest at ws r
  ninth : (place : ℕ) → 8 < length ws + waiting q → at ≤ place → place < at + length (tokens q) → r ≡ fault (NinthOperand place) → ReadBack l q rest at ws r

pub tokens_some : (q : Query) → 0 < length (tokens q)
unfolding tokens
tokens_some (atom a) = omega arith
tokens_some (join p q) = rw length-append (omega (arith, tokens_some p))
tokens_some (both p q) = rw length-append (omega (arith, tokens_some p))

module _ (l : ℕ) (few : l ≤ 8) where
  read_atom : (a : Atom) → AtomFormed l a → (rest : List ℕ) (at : ℕ) (ws : List Query) → length ws < 8
      → read_from l (spell a ∷ rest) at ws ≡ read_from l rest (suc at) (atom a ∷ ws)
  unfolding read_from act push spell AtomFormed
  read_atom identity w rest at ws h = rw (token_identity l, lt-ltb (length ws) 8 h)
  read_atom (step s) w rest at ws h = rw (token_step l s w.0 w.1, lt-ltb (length ws) 8 h)

  read_ninth : (a : Atom) → AtomFormed l a → (rest : List ℕ) (at : ℕ) (ws : List Query) → 8 ≤ length ws
      → read_from l (spell a ∷ rest) at ws ≡ fault (NinthOperand at)
  unfolding read_from act push spell AtomFormed
  read_ninth identity w rest at ws h = rw (token_identity l, le-ltb (length ws) 8 h)
  read_ninth (step s) w rest at ws h = rw (token_step l s w.0 w.1, le-ltb (length ws) 8 h)

  -- a step of a label that is not there
  read_unknown : (s : ℕ) → 2 * l < s → s ≤ 16 → (rest : List ℕ) (at : ℕ) (ws : List Query) → read_from l (s ∷ rest) at ws ≡ fault (UnknownAt at)
  unfolding read_from act token_of
  read_unknown s p h rest at ws =
      rw (ne_eqb s 0 (λ q. omega arith), lt-leb s (2 * l) p, ne_eqb s 32 (λ q. omega arith), ne_eqb s 33 (λ q. omega arith))

  pub read_join : (p q : Query) (rest : List ℕ) (at : ℕ) (ws : List Query) → read_from l (32 ∷ rest) at (q ∷ (p ∷ ws)) ≡ read_from l rest (suc at) (join p q ∷ ws)
  unfolding read_from act fold2
  read_join p q rest at ws = rw (token_join l few)

  pub read_both : (p q : Query) (rest : List ℕ) (at : ℕ) (ws : List Query) → read_from l (33 ∷ rest) at (q ∷ (p ∷ ws)) ≡ read_from l rest (suc at) (both p q ∷ ws)
  unfolding read_from act fold2
  read_both p q rest at ws = rw (token_conjunction l few)

  back_known : (a : Atom) → AtomFormed l a → (rest : List ℕ) (at : ℕ) (ws : List Query) → ReadBack l (atom a) rest at ws (read_from l (spell a ∷ rest) at ws)
  unfolding waiting tokens WellFormed
  back_known a f rest at ws =
      ⊎_elim
      (λ (h : length ws < 8). goes_on f (omega arith) (rw add-one (read_atom a f rest at ws h)))
      (λ (h : 8 ≤ length ws). ninth at (omega arith) (omega arith) (omega arith) (read_ninth a f rest at ws h))
      (order (length ws) 8)

  pub back_atom : (a : Atom) → AtomFormed 8 a → (rest : List ℕ) (at : ℕ) (ws : List Query) → ReadBack l (atom a) rest at ws (read_from l (spell a ∷ rest) at ws)
  unfolding spell tokens WellFormed AtomFormed
  back_atom identity w rest at ws = back_known identity tt rest at ws
  back_atom (step s) w rest at ws =
      ⊎_elim
      (λ (h : 2 * l < s). unknown at (λ f. omega (arith, f.1)) (omega arith) (omega arith) (read_unknown s h w.1 rest at ws))
      (λ (h : s ≤ 2 * l). back_known (step s) (w.0, h) rest at ws)
      (order (2 * l) s)

  -- r is made of p and q by the sign
  module _ (p q r : Query) (sign : ℕ)
      (spelled : tokens r ≡ tokens p ++ (tokens q ++ (sign ∷ [])))
      (waits : waiting r ≡ max (waiting p) (suc (waiting q)))
      (formed : WellFormed l p → WellFormed l q → WellFormed l r)
      (parts : WellFormed l r → WellFormed l p × WellFormed l q)
      (folds : (rest : List ℕ) (at : ℕ) (ws : List Query) → read_from l (sign ∷ rest) at (q ∷ (p ∷ ws)) ≡ read_from l rest (suc at) (r ∷ ws))
    where
      long : length (tokens r) ≡ length (tokens p) + length (tokens q) + 1
      long = rw (spelled, length-append, length-append) (omega arith)

      back_second : (rest : List ℕ) (at : ℕ) (ws : List Query) → WellFormed l p → length ws + waiting p ≤ 8 → (x : Reading)
          → ReadBack l q (sign ∷ rest) (at + length (tokens p)) (p ∷ ws) x → ReadBack l r rest at ws x
      back_second rest at ws w h x (goes_on v k e) =
          goes_on (formed w v) (omega (arith, waits))
          (e ∙ folds rest (at + length (tokens p) + length (tokens q)) ws ∙ ap (λ (n : ℕ). read_from l rest n (r ∷ ws)) (omega (arith, long)))
      back_second rest at ws w h x (unknown n v a b e) = unknown n (λ f. v (parts f).1) (omega arith) (omega (arith, long)) e
      back_second rest at ws w h x (ninth n k a b e) = ninth n (omega (arith, waits)) (omega arith) (omega (arith, long)) e

      back_first : (rest : List ℕ) (at : ℕ) (ws : List Query)
          → ((rest : List ℕ) (at : ℕ) (ws : List Query) → ReadBack l q rest at ws (read_from l (tokens q ++ rest) at ws)) → (x : Reading)
          → ReadBack l p (tokens q ++ (sign ∷ rest)) at ws x → ReadBack l r rest at ws x
      back_first rest at ws again x (goes_on w h e) =
          rw e (back_second rest at ws w h _ (again (sign ∷ rest) (at + length (tokens p)) (p ∷ ws)))
      back_first rest at ws again x (unknown n v a b e) = unknown n (λ f. v (parts f).0) a (omega (arith, long)) e
      back_first rest at ws again x (ninth n k a b e) = ninth n (omega (arith, waits)) a (omega (arith, long)) e

      pub back_pair : (rest : List ℕ) (at : ℕ) (ws : List Query)
          → ((rest : List ℕ) (at : ℕ) (ws : List Query) → ReadBack l p rest at ws (read_from l (tokens p ++ rest) at ws))
          → ((rest : List ℕ) (at : ℕ) (ws : List Query) → ReadBack l q rest at ws (read_from l (tokens q ++ rest) at ws))
          → ReadBack l r rest at ws (read_from l (tokens r ++ rest) at ws)
      back_pair rest at ws first second =
          let e : tokens r ++ rest ≡ tokens p ++ (tokens q ++ (sign ∷ rest)) = rw spelled (simp append_assoc) in
          rw e (back_first rest at ws second _ (first (tokens q ++ (sign ∷ rest)) at ws))

  -- a query over l labels is one over eight
  pub wider : (q : Query) → WellFormed l q → WellFormed 8 q
  unfolding WellFormed AtomFormed
  wider (atom identity) w = tt
  wider (atom (step s)) w = (w.0, omega (arith, w.1))
  wider (join p q) w = (wider p w.0, wider q w.1)
  wider (both p q) w = (wider p w.0, wider q w.1)

-- the other way: the tokens of what waits, the latest last
flat : List Query → List ℕ
flat [] = []
flat (q ∷ ws) = flat ws ++ tokens q

-- what a token stands for, written back
Spelled : ℕ → Token → Type 0
Spelled t Identity = t ≡ 0
Spelled t (Step s) = t ≡ s
Spelled t Join = t ≡ 32
Spelled t Conjunction = t ≡ 33
Spelled t Unknown = Unit {0}

token_spelled : (l t : ℕ) → Spelled t (token_of l t)
unfolding token_of Spelled
token_spelled l t = go (eqb t 0) (leb t (2 * l)) (eqb t 32) (eqb t 33) refl refl refl
  where
    go : (a b c d : Bool) → eqb t 0 ≡ a → eqb t 32 ≡ c → eqb t 33 ≡ d → Spelled t (cond a Identity (cond b (Step t) (cond c Join (cond d Conjunction Unknown))))
    go true b c d ea ec ed = eqb-true t 0 ea
    go false true c d ea ec ed = refl
    go false false true d ea ec ed = eqb-true t 32 ec
    go false false false true ea ec ed = eqb-true t 33 ed
    go false false false false ea ec ed = tt

-- the tokens of two operands and their sign, however they are put together
regroup : (a b c ts : List ℕ) (t u : ℕ) → t ≡ u → ((a ++ b) ++ c) ++ (t ∷ ts) ≡ (a ++ (b ++ (c ++ (u ∷ [])))) ++ ts
regroup a b c ts t u e = rw e (simp append_assoc)

module _ (q : Query) (t : ℕ) (ts : List ℕ) (at : ℕ) (k : List Query → Reading) (after : (ws : List Query) → k ws ≡ asks q → flat ws ++ ts ≡ tokens q) where
  push_spelled : (a : Atom) → t ≡ spell a → (ws : List Query) → push (atom a) ws at k ≡ asks q → flat ws ++ (t ∷ ts) ≡ tokens q
  unfolding push flat tokens
  push_spelled a s ws = go (ltb (length ws) 8)
    where
      go : (b : Bool) → cond b (k (atom a ∷ ws)) (fault (NinthOperand at)) ≡ asks q → flat ws ++ (t ∷ ts) ≡ tokens q
      go true e = sym (append_assoc (flat ws) (t ∷ []) ts) ∙ ap (λ (z : ℕ). (flat ws ++ (z ∷ [])) ++ ts) s ∙ after (atom a ∷ ws) e
      go false e = fault_asks e

  act_spelled : (o : Token) → Spelled t o → (ws : List Query) → act o ws at k ≡ asks q → flat ws ++ (t ∷ ts) ≡ tokens q
  unfolding act fold2 Spelled flat tokens spell
  act_spelled Identity s ws e = push_spelled identity s ws e
  act_spelled (Step o) s ws e = push_spelled (step o) s ws e
  act_spelled Join s [] e = fault_asks e
  act_spelled Join s (y ∷ []) e = fault_asks e
  act_spelled Join s (y ∷ (x ∷ ws)) e = regroup (flat ws) (tokens x) (tokens y) ts t 32 s ∙ after (join x y ∷ ws) e
  act_spelled Conjunction s [] e = fault_asks e
  act_spelled Conjunction s (y ∷ []) e = fault_asks e
  act_spelled Conjunction s (y ∷ (x ∷ ws)) e = regroup (flat ws) (tokens x) (tokens y) ts t 33 s ∙ after (both x y ∷ ws) e
  act_spelled Unknown s ws e = fault_asks e

end_spelled : (q : Query) (ws : List Query) → end ws ≡ asks q → flat ws ++ [] ≡ tokens q
unfolding end flat
end_spelled q [] e = fault_asks e
end_spelled q (p ∷ []) e = append-nil (tokens p) ∙ ap tokens (asks_inj e)
end_spelled q (p ∷ (r ∷ ws)) e = fault_asks e

from_spelled : (l : ℕ) (q : Query) (ts : List ℕ) (at : ℕ) (ws : List Query) → read_from l ts at ws ≡ asks q → flat ws ++ ts ≡ tokens q
unfolding read_from flat
from_spelled l q [] at ws e = end_spelled q ws e
from_spelled l q (t ∷ ts) at ws e =
    act_spelled q t ts at (λ w. read_from l ts (suc at) w) (λ w. from_spelled l q ts (suc at) w) (token_of l t) (token_spelled l t) ws e

-- a list that asks q is q's tokens
pub asked : (l : ℕ) (ts : List ℕ) (q : Query) → read_tokens l ts ≡ asks q → ts ≡ tokens q
unfolding read_tokens flat
asked l ts q = go (ltb 0 (length ts) && leb (length ts) 64)
  where
    go : (b : Bool) → cond b (read_from l ts 0 []) (fault QueryLength) ≡ asks q → ts ≡ tokens q
    go true e = from_spelled l q ts 0 [] e
    go false e = fault_asks e
