-- How a token list is read, operands first, and which fault is found first.
use Rattle.std.specs.Prelude.{ℕ, suc, ◌*◌, max, List, [], ◌∷◌, ◌++◌, ◌&&◌, cond, eqb, leb, ltb, length}
use Rattle.rules.specs.declared.Refusal.{Refusal}
use Rattle.rules.specs.declared.Refusal.TheVariants.{QueryLength, Unknown as UnknownAt, FewOperands, NinthOperand, OperandsLeft}
use Rattle.rules.specs.declared.Token.{Token}
use Rattle.rules.specs.declared.Token.TheVariants.{Identity, Step, Join, Conjunction, Unknown}
use Rattle.rules.specs.Query.{Atom, Query, atom, join, both, identity, step}

-- token 0 is identity, 1..2L steps, 32 join, 33 conjunction, all else unknown
unfoldable pub token_of : ℕ → ℕ → Token
token_of labels t =
    cond (eqb t 0) Identity (cond (leb t (2 * labels)) (Step t) (cond (eqb t 32) Join (cond (eqb t 33) Conjunction Unknown)))

-- what reading a token list gives: the query, or the first fault
pub data Reading : Type 0 where
  asks : Query → Reading
  fault : Refusal → Reading

-- an operand waits, if fewer than eight do; the latest stands first
unfoldable pub push : Query → List Query → ℕ → (List Query → Reading) → Reading
push q ws at next = cond (ltb (length ws) 8) (next (q ∷ ws)) (fault (NinthOperand at))

-- the last two operands become one, the earlier one first
unfoldable pub fold2 : (Query → Query → Query) → List Query → ℕ → (List Query → Reading) → Reading
fold2 f [] at next = fault (FewOperands at)
fold2 f (q ∷ []) at next = fault (FewOperands at)
fold2 f (q ∷ (p ∷ waiting)) at next = next (f p q ∷ waiting)

-- what the token at a place does to the operands that wait
unfoldable pub act : Token → List Query → ℕ → (List Query → Reading) → Reading
act Identity waiting at next = push (atom identity) waiting at next
act (Step s) waiting at next = push (atom (step s)) waiting at next
act Join waiting at next = fold2 join waiting at next
act Conjunction waiting at next = fold2 both waiting at next
act Unknown waiting at next = fault (UnknownAt at)

-- at the end one operand is left
unfoldable pub end : List Query → Reading
end [] = fault OperandsLeft
end (q ∷ []) = asks q
end (q ∷ (p ∷ waiting)) = fault OperandsLeft

-- the tokens from a place on, where operands wait
unfoldable pub read_from : ℕ → List ℕ → ℕ → List Query → Reading
read_from labels [] at waiting = end waiting
read_from labels (t ∷ tokens) at waiting = act (token_of labels t) waiting at (λ w. read_from labels tokens (suc at) w)

-- 1 to 64 tokens
unfoldable pub read_tokens : ℕ → List ℕ → Reading
read_tokens labels tokens = cond (ltb 0 (length tokens) && leb (length tokens) 64) (read_from labels tokens 0 []) (fault QueryLength)

-- the token of an atom
unfoldable pub spell : Atom → ℕ
spell identity = 0
spell (step s) = s

-- a query written operands first
unfoldable pub tokens : Query → List ℕ
tokens (atom a) = spell a ∷ []
tokens (join p q) = tokens p ++ (tokens q ++ (32 ∷ []))
tokens (both p q) = tokens p ++ (tokens q ++ (33 ∷ []))

-- how many operands wait at once, at most
unfoldable pub waiting : Query → ℕ
waiting (atom a) = 1
waiting (join p q) = max (waiting p) (suc (waiting q))
waiting (both p q) = max (waiting p) (suc (waiting q))
