-- Each entry's promise determines everything: two ends of one call, the result and every lent buffer, are equal.
use Rattle.std.proofs.Common.{Result}
use Rattle.rules.specs.declared.Part.{Part}
use Rattle.rules.specs.declared.Refusal.{Refusal}
use Prim.Native.Nat.{ℕ}
use mathlib.Core.Path.{◌≡◌, refl, sym, ◌∙◌}
use mathlib.Core.List.{List}
use Rattle.rules.specs.Outcomes.{BuildCall, BuildEnd, build, CheckCall, CheckEnd, check, AnswerEnd, DirectCall, direct, StoredCall, stored, ClassCall, class}
use Rattle.rules.specs.Promises.{Builds, Checks, Ends, AnswersDirectly, AnswersStored, AnswersClasses, GivesPairs, HandsPairs, LooksUp, HandsEntries}

-- an end that meets the promise is the outcome
pub build_end_lem : (c : BuildCall) (e : BuildEnd) → Builds c e → e ≡ build c
build_end_lem c e p = rw (← p.result, ← p.levels, ← p.starts, ← p.order, ← p.entries, ← p.area) refl

pub check_end_lem : (c : CheckCall) (e : CheckEnd) → Checks c e → e ≡ check c
check_end_lem c e p = rw (← p.result, ← p.area) refl

pub answer_end : (o e : AnswerEnd) → Ends o e → e ≡ o
answer_end o e p = rw (← p.result, ← p.answers, ← p.area) refl

-- build
pub build_determined : (c : BuildCall) (e f : BuildEnd) → Builds c e → Builds c f → e ≡ f
build_determined c e f p q = build_end_lem c e p ∙ sym (build_end_lem c f q)

-- check
pub check_determined : (c : CheckCall) (e f : CheckEnd) → Checks c e → Checks c f → e ≡ f
check_determined c e f p q = check_end_lem c e p ∙ sym (check_end_lem c f q)

-- direct answer
pub direct_determined : (c : DirectCall) (e f : AnswerEnd) → AnswersDirectly c e → AnswersDirectly c f → e ≡ f
direct_determined c e f p q = answer_end (direct c) e p ∙ sym (answer_end (direct c) f q)

-- stored answer
pub stored_determined : (c : StoredCall) (e f : AnswerEnd) → AnswersStored c e → AnswersStored c f → e ≡ f
stored_determined c e f p q = answer_end (stored c) e p ∙ sym (answer_end (stored c) f q)

-- class answer
pub class_determined : (c : ClassCall) (e f : AnswerEnd) → AnswersClasses c e → AnswersClasses c f → e ≡ f
class_determined c e f p q = answer_end (class c) e p ∙ sym (answer_end (class c) f q)

-- pairs of a class: number and bounds, and the part
pub pairs_determined : (c : ℕ) (starts order : List ℕ) (r s : Result Part Refusal) → GivesPairs c starts order r → GivesPairs c starts order s → r ≡ s
pairs_determined c starts order r s p q = p.bounds ∙ sym q.bounds

pub pairs_part_determined : (c : ℕ) (starts order a b : List ℕ) → HandsPairs c starts order a → HandsPairs c starts order b → a ≡ b
pairs_part_determined c starts order a b p q = p.numbers ∙ sym q.numbers

-- sequence lookup: number and bounds, and the part
pub lookup_determined : (symbols entries : List ℕ) (r s : Result Part Refusal) → LooksUp symbols entries r → LooksUp symbols entries s → r ≡ s
lookup_determined symbols entries r s p q = p.bounds ∙ sym q.bounds

pub lookup_part_determined : (symbols entries a b : List ℕ) → HandsEntries symbols entries a → HandsEntries symbols entries b → a ≡ b
lookup_part_determined symbols entries a b p q = p.numbers ∙ sym q.numbers
