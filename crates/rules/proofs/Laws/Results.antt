-- What a call that leaves by `?` answers.
use Rattle.std.proofs.Common.{Result, Err}
use Rattle.std.specs.Result.{IsErrAnd}
use Rattle.std.proofs.lemmas.Result.{err_from_is_err_and}
use mathlib.Core.Path.{◌≡◌, ap, ◌∙◌}
use Rattle.rules.specs.declared.Refusal.{Refusal}

-- the refusal is handed on as it is
pub handed_on : {A : Type 0} (l : Result A Refusal) (r : Refusal) → IsErrAnd l (λ e. e ≡ r) → l ≡ Err r
handed_on l r h = let p = err_from_is_err_and l h in p.1 ∙ ap Err p.2
