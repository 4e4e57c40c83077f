-- The lines of the output, as runs of stores.
use Prim.Native.Nat.{ℕ, ◌+◌, ◌*◌, ◌≤◌, ◌<◌}
use mathlib.Core.Path.{◌≡◌, refl, sym, ap, ◌∙◌}
use mathlib.Core.List.{List, [], ◌∷◌, ◌++◌}
use native.Mathlib.Numerals.{add-one}
use native.Mathlib.Omega.{arith}
use lib.ListN.{length, set, take, get_or}
use lib.Seq.{sets, take-suc, length-take-le}
use Rattle.hexa.specs.Digits.{put_digits, spelling}
use Rattle.hexa.proofs.Laws.Writing.{sets_before, length_put}
use Rattle.rules.specs.declared.Refusal.{Refusal}
use Rattle.rules.specs.Numbers.{of_refusal}
use Rattle.format.specs.Texts.{refusal_text, built_text, positions, list_text}

-- digits, and then what stands behind them
pub before : (d x : ℕ) (l rest : List ℕ) (at next : ℕ) → next ≡ at + d → sets (sets l at (spelling d x)) next rest ≡ sets l at (put_digits d x rest)
before d x l rest at next e = ap (λ (k : ℕ). sets (sets l at (spelling d x)) k rest) e ∙ sets_before d x l rest at

pub refusal_run : (l : List ℕ) (at : ℕ) (r : Refusal)
    → set (sets (sets (sets l at (spelling 2 255)) (at + 2) (spelling 2 (of_refusal r).number)) (at + 4) (spelling 8 (of_refusal r).a)) (at + 12) 10 ≡ sets l at (refusal_text r)
unfolding refusal_text
refusal_run l at r =
    let number = (of_refusal r).number in
    let value = (of_refusal r).a in
    before 8 value (sets (sets l at (spelling 2 255)) (at + 2) (spelling 2 number)) (10 ∷ []) (at + 4) (at + 12) (omega arith)
    ∙ (before 2 number (sets l at (spelling 2 255)) (put_digits 8 value (10 ∷ [])) (at + 2) (at + 4) (omega arith)
    ∙ before 2 255 l (put_digits 2 number (put_digits 8 value (10 ∷ []))) at (at + 2) (omega arith))

pub refusal_length : (r : Refusal) → length (refusal_text r) ≡ 13
unfolding refusal_text
refusal_length r =
    omega (arith, length_put 2 255 (put_digits 2 (of_refusal r).number (put_digits 8 (of_refusal r).a (10 ∷ []))), length_put 2 (of_refusal r).number (put_digits 8 (of_refusal r).a (10 ∷ [])), length_put 8 (of_refusal r).a (10 ∷ []))

module _ (classes pairs entries : ℕ) where
  pub built_run : (l : List ℕ)
      → set (sets (sets (sets (sets l 0 (spelling 2 129)) 2 (spelling 4 classes)) 6 (spelling 4 pairs)) 10 (spelling 4 entries)) 14 10 ≡ sets l 0 (built_text classes pairs entries)
  unfolding built_text
  built_run l =
      let one = sets l 0 (spelling 2 129) in
      let two = sets one 2 (spelling 4 classes) in
      before 4 entries (sets two 6 (spelling 4 pairs)) (10 ∷ []) 10 14 (omega arith)
      ∙ (before 4 pairs two (put_digits 4 entries (10 ∷ [])) 6 10 (omega arith)
      ∙ (before 4 classes one (put_digits 4 pairs (put_digits 4 entries (10 ∷ []))) 2 6 (omega arith)
      ∙ before 2 129 l (put_digits 4 classes (put_digits 4 pairs (put_digits 4 entries (10 ∷ [])))) 0 2 (omega arith)))

  pub built_length : length (built_text classes pairs entries) ≡ 15
  unfolding built_text
  built_length =
      omega (arith, length_put 2 129 (put_digits 4 classes (put_digits 4 pairs (put_digits 4 entries (10 ∷ [])))), length_put 4 classes (put_digits 4 pairs (put_digits 4 entries (10 ∷ []))), length_put 4 pairs (put_digits 4 entries (10 ∷ [])), length_put 4 entries (10 ∷ []))

-- positions
pub positions_append : (xs ys rest : List ℕ) → positions (xs ++ ys) rest ≡ positions xs (positions ys rest)
unfolding positions
positions_append [] ys rest = refl
positions_append (x ∷ xs) ys rest = ap (put_digits 4 x) (positions_append xs ys rest)

pub positions_length : (xs rest : List ℕ) → length (positions xs rest) ≡ 4 * length xs + length rest
unfolding positions
positions_length [] rest = omega arith
positions_length (x ∷ xs) rest = omega (arith, length_put 4 x (positions xs rest), positions_length xs rest)

-- positions, and then what stands behind them
pub positions_before : (xs l rest : List ℕ) (at next : ℕ) → next ≡ at + 4 * length xs → sets (sets l at (positions xs [])) next rest ≡ sets l at (positions xs rest)
unfolding positions
positions_before [] l rest at next e = ap (λ (k : ℕ). sets l k rest) (omega (arith, e))
positions_before (x ∷ xs) l rest at next e =
    ap (λ (m : List ℕ). sets m next rest) (sym (sets_before 4 x l (positions xs []) at))
    ∙ (positions_before xs (sets l at (spelling 4 x)) rest (at + 4) next (omega (arith, e))
    ∙ sets_before 4 x l (positions xs rest) at)

pub positions_none : (l list : List ℕ) (at : ℕ) → l ≡ sets l at (positions (take 0 list) [])
unfolding positions
positions_none l list at = refl

-- one position more
pub positions_more : (l out list : List ℕ) (at i : ℕ) → i < length list → out ≡ sets l at (positions (take i list) [])
    → sets out (at + 4 * i) (spelling 4 (get_or list i 0)) ≡ sets l at (positions (take (i + 1) list) [])
unfolding positions
positions_more l out list at i h e =
    let n : at + 4 * i ≡ at + 4 * length (take i list) = omega (arith, length-take-le i list (omega arith)) in
    ap (λ (m : List ℕ). sets m (at + 4 * i) (spelling 4 (get_or list i 0))) e
    ∙ (positions_before (take i list) l (spelling 4 (get_or list i 0)) at (at + 4 * i) n
    ∙ ap (sets l at)
    (sym (positions_append (take i list) (get_or list i 0 ∷ []) [])
    ∙ ap (λ (xs : List ℕ). positions xs []) (sym (take-suc list i 0 h) ∙ ap (λ (k : ℕ). take k list) (sym (add-one i)))))

module _ (l list : List ℕ) (at many : ℕ) (h : many ≤ length list) where
  pub list_run : set (sets (sets (sets l at (spelling 2 131)) (at + 2) (spelling 4 many)) (at + 6) (positions (take many list) [])) (at + 6 + 4 * many) 10
      ≡ sets l at (list_text many (take many list))
  unfolding list_text
  list_run =
      let n : at + 6 + 4 * many ≡ at + 6 + 4 * length (take many list) = omega (arith, length-take-le many list h) in
      let rest = positions (take many list) (10 ∷ []) in
      positions_before (take many list) (sets (sets l at (spelling 2 131)) (at + 2) (spelling 4 many)) (10 ∷ []) (at + 6) (at + 6 + 4 * many) n
      ∙ (before 4 many (sets l at (spelling 2 131)) rest (at + 2) (at + 6) (omega arith)
      ∙ before 2 131 l (put_digits 4 many rest) at (at + 2) (omega arith))

  pub list_length : length (list_text many (take many list)) ≡ 7 + 4 * many
  unfolding list_text
  list_length =
      let rest = positions (take many list) (10 ∷ []) in
      omega (arith, length_put 2 131 (put_digits 4 many rest), length_put 4 many rest, positions_length (take many list) (10 ∷ []), length-take-le many list h)
