-- Each function's promise determines everything: two ends of one call, the numbers and every list that it may write, are equal.
use Prim.Native.Nat.{ℕ}
use mathlib.Core.Path.{◌≡◌, sym, ◌∙◌}
use mathlib.Core.List.{List}
use Rattle.rules.specs.Outcomes.{BuildCall, CheckCall, AnswerEnd}
use Rattle.abi.specs.declared.KvResult.{KvResult}
use Rattle.abi.specs.Handed.{HandsBuilt, HandsChecked, HandsAnswered, HandsBounds, HandsRun}

pub build_determined : (c : BuildCall) (r s : KvResult) (levels starts order entries area levels' starts' order' entries' area' : List ℕ)
    → HandsBuilt c r levels starts order entries area
    → HandsBuilt c s levels' starts' order' entries' area'
    → (r ≡ s) × (levels ≡ levels') × (starts ≡ starts') × (order ≡ order') × (entries ≡ entries') × (area ≡ area')
build_determined c r s levels starts order entries area levels' starts' order' entries' area' p q = (
  p.result ∙ sym q.result,
  p.levels ∙ sym q.levels,
  p.starts ∙ sym q.starts,
  p.order ∙ sym q.order,
  p.entries ∙ sym q.entries,
  p.area ∙ sym q.area,
)

pub check_determined : (c : CheckCall) (r s : KvResult) (area area' : List ℕ) → HandsChecked c r area → HandsChecked c s area' → (r ≡ s) × (area ≡ area')
check_determined c r s area area' p q = (p.result ∙ sym q.result, p.area ∙ sym q.area)

-- direct, stored and class answer
pub answer_determined : (o : AnswerEnd) (r s : KvResult) (answers area answers' area' : List ℕ) → HandsAnswered o r answers area → HandsAnswered o s answers' area'
    → (r ≡ s) × (answers ≡ answers') × (area ≡ area')
answer_determined o r s answers area answers' area' p q = (p.result ∙ sym q.result, p.answers ∙ sym q.answers, p.area ∙ sym q.area)

pub pairs_determined : (c : ℕ) (starts order : List ℕ) (r s : KvResult) → HandsBounds c starts order r → HandsBounds c starts order s → r ≡ s
pairs_determined c starts order r s p q = p.result ∙ sym q.result

pub lookup_determined : (symbols entries : List ℕ) (r s : KvResult) → HandsRun symbols entries r → HandsRun symbols entries s → r ≡ s
lookup_determined symbols entries r s p q = p.result ∙ sym q.result
