-- Token lists and queries: an accepted list has one tree, it is that query written operands first, different queries have different tokens, and each is read back, or refused with 8 or 10.
use Prim.Native.Nat.{ℕ, ◌≤◌}
use mathlib.Core.Path.{◌≡◌, refl, sym, ap, ◌∙◌}
use mathlib.Core.List.{List, [], ◌∷◌, ◌++◌, append-nil}
use native.Mathlib.Omega.{arith}
use borrow.Author.Tests.{lt-ltb, le-leb}
use lib.ListN.{length}
use Rattle.rules.specs.Query.{Query, atom, join, both}
use Rattle.rules.specs.Reading.{Reading, asks, end, read_from, read_tokens, tokens, waiting}
use Rattle.rules.specs.Published.{WellFormed}
use Rattle.rules.proofs.Laws.Reading.{asks_inj, reading_formed}
use Rattle.rules.proofs.Laws.Postfix.{ReadBack, goes_on, unknown, ninth, tokens_some, read_join, read_both, back_atom, back_pair, wider, asked}
use Rattle.rules.proofs.Laws.Spelling.{behind, given_back}

-- an accepted token list has one tree
pub one_tree : (labels : ℕ) (list : List ℕ) (p q : Query) → read_tokens labels list ≡ asks p → read_tokens labels list ≡ asks q → p ≡ q
one_tree labels list p q a b = asks_inj (sym a ∙ b)

-- it is the query written operands first, and its steps are of the labels
pub tree_tokens : (labels : ℕ) (list : List ℕ) (q : Query) → read_tokens labels list ≡ asks q → (list ≡ tokens q) × WellFormed labels q
tree_tokens labels list q a = (asked labels list q a, reading_formed labels list q a)

-- wherever the tokens of a query over eight labels stand, reading over some of the labels goes on behind them with the query waiting,
-- or is refused at one of them: with 8 only if a label is not there, with 10 only if more than eight would wait
pub goes_on_behind : (labels : ℕ) → labels ≤ 8 → (q : Query) → WellFormed 8 q → (rest : List ℕ) (at : ℕ) (ws : List Query)
    → ReadBack labels q rest at ws (read_from labels (tokens q ++ rest) at ws)
unfolding tokens waiting WellFormed
goes_on_behind l few (atom a) w rest at ws = back_atom l few a w rest at ws
goes_on_behind l few (join p q) w rest at ws =
    back_pair l few p q (join p q) 32 refl refl (λ a b. (a, b)) (λ f. f) (read_join l few p q) rest at ws (goes_on_behind l few p w.0) (goes_on_behind l few q w.1)
goes_on_behind l few (both p q) w rest at ws =
    back_pair l few p q (both p q) 33 refl refl (λ a b. (a, b)) (λ f. f) (read_both l few p q) rest at ws (goes_on_behind l few p w.0) (goes_on_behind l few q w.1)

-- so the tokens of a query over eight labels, if at most 64, ask it or are refused with 8 or 10, never with 9 or 11
pub tokens_read : (labels : ℕ) → labels ≤ 8 → (q : Query) → WellFormed 8 q → length (tokens q) ≤ 64
    → ReadBack labels q [] 0 [] (read_tokens labels (tokens q))
unfolding read_tokens
tokens_read l few q w h =
    rw (lt-ltb 0 (length (tokens q)) (tokens_some q), le-leb (length (tokens q)) 64 h) (go (append-nil (tokens q)) (goes_on_behind l few q w [] 0 []))
  where
    go : {xs ys : List ℕ} → xs ≡ ys → ReadBack l q [] 0 [] (read_from l xs 0 []) → ReadBack l q [] 0 [] (read_from l ys 0 [])
    go e r = rw e at r

-- a query of at most 64 tokens that keeps at most eight operands waiting is read from its tokens
pub tokens_tree : (labels : ℕ) → labels ≤ 8 → (q : Query) → WellFormed labels q → waiting q ≤ 8 → length (tokens q) ≤ 64
    → read_tokens labels (tokens q) ≡ asks q
tokens_tree l few q w h many = go (read_tokens l (tokens q)) (tokens_read l few q (wider l few q w) many)
  where
    go : (r : Reading) → ReadBack l q [] 0 [] r → r ≡ asks q
    go r (goes_on v k e) = e ∙ unfold read_from end in refl
    go r (unknown n v a b e) = absurd (v w)
    go r (ninth n k a b e) = absurd (omega arith)

-- different queries have different tokens
pub tokens_differ : (labels : ℕ) → labels ≤ 8 → (p q : Query) → WellFormed labels p → WellFormed labels q → tokens p ≡ tokens q → p ≡ q
tokens_differ l few p q v w e = only (sym (given_back l few p v) ∙ ap (λ (z : List ℕ). behind z []) e ∙ given_back l few q w)
  where
    only : {p q : Query} → p ∷ [] ≡ q ∷ [] → p ≡ q
    only e = cc
