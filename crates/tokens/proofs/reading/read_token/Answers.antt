-- Each arm of the match says what token_of says of the byte.
use mathlib.Core.Path.{sym}
use native.Mathlib.Omega.{arith}
use Rattle.rules.proofs.Laws.Tokens.{token_identity, token_step, token_join, token_conjunction, token_unknown}
use Rattle.tokens.proofs.reading.read_token.Goals as goal

pub returns-in-0 : goal.returns-in-0
returns-in-0 c = rw c.in-0.is (sym (token_identity _))

pub returns-in-32 : goal.returns-in-32
returns-in-32 c = rw c.in-32.is (sym (token_join _ c.requires))

pub returns-in-33 : goal.returns-in-33
returns-in-33 c = rw c.in-33.is (sym (token_conjunction _ c.requires))

pub returns-in-1-to-16 : goal.returns-in-1-to-16
returns-in-1-to-16 c = sym (token_step _ _ (omega arith) (omega (arith, c.from.ensures)))

pub returns-in_default : goal.returns-in_default
returns-in_default c = sym (token_unknown _ _ (omega arith) (omega (arith, c.from.ensures)) (λ e. omega arith) (λ e. omega arith))

pub returns-in_default-2 : goal.returns-in_default-2
returns-in_default-2 c = sym (token_unknown _ _ (omega arith) (omega arith) (λ e. omega arith) (λ e. omega arith))
