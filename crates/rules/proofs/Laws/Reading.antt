-- A query that a token list asks has only steps of the labels.
use Prim.Native.Nat.{ℕ, suc, ◌*◌}
use mathlib.Core.Path.{◌≡◌, refl, subst}
use mathlib.Core.List.{List, [], ◌∷◌}
use mathlib.Core.Bool.{Bool, true, false, ◌&&◌, cond}
use native.Mathlib.Omega.{arith}
use borrow.Author.Tests.{leb-true, eqb-false}
use lib.Dec.{eqb, leb, ltb}
use lib.ListN.{length}
use Rattle.rules.specs.declared.Refusal.{Refusal}
use Rattle.rules.specs.declared.Refusal.TheVariants.{QueryLength, NinthOperand}
use Rattle.rules.specs.declared.Token.{Token}
use Rattle.rules.specs.declared.Token.TheVariants.{Identity, Step, Join, Conjunction, Unknown}
use Rattle.rules.specs.Query.{Query, atom, identity, step, join, both}
use Rattle.rules.specs.Reading.{token_of, Reading, fault, asks, push, fold2, act, end, read_from, read_tokens}
use Rattle.rules.specs.Published.{AtomFormed, WellFormed}
use Rattle.rules.proofs.Laws.Tests.{some_of}

-- all that wait are well formed
data Formed (l : ℕ) : List Query → Type 0 where
  nil : Formed l []
  cons : {q : Query} {ws : List Query} → WellFormed l q → Formed l ws → Formed l (q ∷ ws)

pub fault_asks : {C : Type 0} {r : Refusal} {q : Query} → fault r ≡ asks q → C
fault_asks e = let z : ◌≡◌ {A = ℕ} 0 1 = cc in absurd (omega arith)

pub asks_inj : {p q : Query} → asks p ≡ asks q → p ≡ q
asks_inj e = cc

-- a step is of the labels
TokenFormed : ℕ → Token → Type 0
TokenFormed l Identity = Unit {0}
TokenFormed l (Step s) = AtomFormed l (step s)
TokenFormed l Join = Unit {0}
TokenFormed l Conjunction = Unit {0}
TokenFormed l Unknown = Unit {0}

token_formed : (l t : ℕ) → TokenFormed l (token_of l t)
unfolding token_of TokenFormed AtomFormed
token_formed l t = go (eqb t 0) (leb t (2 * l)) (eqb t 32) (eqb t 33) refl refl
  where
    go : (a b c d : Bool) → eqb t 0 ≡ a → leb t (2 * l) ≡ b → TokenFormed l (cond a Identity (cond b (Step t) (cond c Join (cond d Conjunction Unknown))))
    go true b c d ea eb = tt
    go false true c d ea eb = (some_of t (eqb-false t 0 ea), leb-true t (2 * l) eb)
    go false false true d ea eb = tt
    go false false false true ea eb = tt
    go false false false false ea eb = tt

module _ (l : ℕ) (q : Query) (at : ℕ) (k : List Query → Reading) (after : (ws : List Query) → Formed l ws → k ws ≡ asks q → WellFormed l q) where
  push_formed : (p : Query) (ws : List Query) → WellFormed l p → Formed l ws → push p ws at k ≡ asks q → WellFormed l q
  unfolding push
  push_formed p ws w f = go (ltb (length ws) 8)
    where
      go : (b : Bool) → cond b (k (p ∷ ws)) (fault (NinthOperand at)) ≡ asks q → WellFormed l q
      go true e = after (p ∷ ws) (cons w f) e
      go false e = fault_asks e

  fold2_formed : (h : Query → Query → Query) → ((x y : Query) → WellFormed l x → WellFormed l y → WellFormed l (h x y))
      → {ws : List Query} → Formed l ws → fold2 h ws at k ≡ asks q → WellFormed l q
  unfolding fold2
  fold2_formed h hf nil e = fault_asks e
  fold2_formed h hf (cons w nil) e = fault_asks e
  fold2_formed h hf (cons {q = y} w (cons {q = x} {ws = ws} v f)) e = after (h x y ∷ ws) (cons (hf x y v w) f) e

  act_formed : (t : Token) → TokenFormed l t → (ws : List Query) → Formed l ws → act t ws at k ≡ asks q → WellFormed l q
  unfolding act TokenFormed WellFormed AtomFormed
  act_formed Identity w ws f e = push_formed (atom identity) ws tt f e
  act_formed (Step s) w ws f e = push_formed (atom (step s)) ws w f e
  act_formed Join w ws f e = fold2_formed join (λ x y a b. (a, b)) f e
  act_formed Conjunction w ws f e = fold2_formed both (λ x y a b. (a, b)) f e
  act_formed Unknown w ws f e = fault_asks e

end_formed : (l : ℕ) (q : Query) {ws : List Query} → Formed l ws → end ws ≡ asks q → WellFormed l q
unfolding end
end_formed l q nil e = fault_asks e
end_formed l q (cons w nil) e = subst (WellFormed l) (asks_inj e) w
end_formed l q (cons w (cons v f)) e = fault_asks e

from_formed : (l : ℕ) (q : Query) (ts : List ℕ) (at : ℕ) (ws : List Query) → Formed l ws → read_from l ts at ws ≡ asks q → WellFormed l q
unfolding read_from
from_formed l q [] at ws f e = end_formed l q f e
from_formed l q (t ∷ ts) at ws f e =
    act_formed l q at (λ w. read_from l ts (suc at) w) (λ w. from_formed l q ts (suc at) w) (token_of l t) (token_formed l t) ws f e

pub reading_formed : (l : ℕ) (ts : List ℕ) (q : Query) → read_tokens l ts ≡ asks q → WellFormed l q
unfolding read_tokens
reading_formed l ts q = go (ltb 0 (length ts) && leb (length ts) 64)
  where
    go : (b : Bool) → cond b (read_from l ts 0 []) (fault QueryLength) ≡ asks q → WellFormed l q
    go true e = from_formed l q ts 0 [] nil e
    go false e = fault_asks e
