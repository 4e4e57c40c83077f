-- A stored answer: the code's call is the program's, and its text is the machine's.
use Rattle.std.proofs.Common.{Err, Ok, Result}
use Prim.Native.Nat.{ℕ, zero, suc, ◌-◌, ◌*◌, ◌≤◌, ◌<◌}
use mathlib.Core.Path.{◌≡◌, refl, sym, ap, ◌∙◌}
use mathlib.Core.List.{List}
use mathlib.Core.Bool.{Bool, true, false, cond}
use native.Mathlib.Nat.{mul-le-mul, suc-mul}
use native.Mathlib.Omega.{arith}
use borrow.Author.Tests.{leb-true}
use lib.Dec.{leb}
use lib.ListN.{length, take, drop, replicate, length-replicate}
use lib.Seq.{ext_get_or, get_or-take, length-take-le}
use Rattle.rules.specs.declared.Refusal.{Refusal}
use Rattle.rules.specs.declared.Refusal.TheVariants.{AnswerRoom}
use Rattle.rules.specs.Finite.{table_below}
use Rattle.rules.specs.Levels.{level_of}
use Rattle.rules.specs.Verdict.{Verdict, good, refuse, room}
use Rattle.rules.specs.Writing.{fill}
use Rattle.rules.specs.Outcomes.{answer_after, StoredCall, stored_refusal, stored_list, stored}
use Rattle.parts.proofs.Laws.Parts.{take_from}
use Rattle.rules.proofs.Laws.Listing.{table_length, table_at}
use Rattle.rules.proofs.Laws.Writing.{length_fill, get_or_fill_front}
use Rattle.format.specs.Frames.{token_count, token_at, tokens_of}
use Rattle.format.proofs.Laws.Frames.{count_small}
use Rattle.format.specs.Texts.{answer_by, answer_text, list_text, refusal_text}
use Rattle.machine.specs.Machine.{stored_call}
use Rattle.lines.specs.Lent.{Found}

refused_answers : {C : Type 0} {r : Refusal} {m : ℕ} → Err r ≡ Ok m → C
refused_answers e = let z : ◌≡◌ {A = ℕ} 0 1 = cc in absurd (omega arith)

-- an answer of m positions has room for them
fits_by : (n room m : ℕ) (b : Bool) → leb n room ≡ b → cond b (Ok n) (Err (AnswerRoom n)) ≡ Ok m → m ≤ room
fits_by n room m true t e = let z : n ≡ m = cc in omega (arith, leb-true n room t)
fits_by n room m false t e = refused_answers e

fits_after : (items : ℕ) (list answers area : List ℕ) (m : ℕ) (v : Verdict) → (answer_after items list answers area v).result ≡ Ok m → m ≤ length answers
unfolding answer_after
fits_after items list answers area m good e = fits_by (length list) (length answers) m (leb (length list) (length answers)) refl e
fits_after items list answers area m (refuse r) e = refused_answers e

answers_fit : (c : StoredCall) (m : ℕ) → (stored c).result ≡ Ok m → m ≤ length c.answers
unfolding stored
answers_fit c m e = fits_after c.items (stored_list c) c.answers c.area m (stored_refusal c) e

-- what was found, as a text
module _ (c : StoredCall) (result : Result ℕ Refusal) (after : List ℕ) (found : Found c result after) where
  pub text_answers : (m : ℕ) → result ≡ Ok m → list_text m (take m after) ≡ answer_text (stored c)
  unfolding answer_text answer_by
  text_answers m e = ap (λ (l : List ℕ). list_text m (take m l)) found.answers_made ∙ ap (answer_by (stored c).answers) (sym e ∙ found.result)

  pub text_refused : (r : Refusal) → result ≡ Err r → refusal_text r ≡ answer_text (stored c)
  unfolding answer_text answer_by
  text_refused r e = ap (answer_by (stored c).answers) (sym e ∙ found.result)

pub many_fits : (items labels : ℕ) (table entries tokens after : List ℕ) (m : ℕ) (result : Result ℕ Refusal) → Found (stored_call items labels table entries tokens) result after → result ≡ Ok m
    → m ≤ 1024
unfolding stored_call
many_fits items labels table entries tokens after m result found e =
    omega (arith, answers_fit (stored_call items labels table entries tokens) m (sym found.result ∙ e), length-replicate {A = ℕ} 1024 0)

-- the table of level k as a part of all levels
pub table_part : (n k : ℕ) (levels : List ℕ) → 0 < k
    → take (k * (n * n) - (k * (n * n) - 1 * (n * n))) (drop (k * (n * n) - 1 * (n * n)) levels) ≡ level_of n levels k
unfolding level_of
table_part n zero levels h = absurd (omega arith)
table_part n (suc j) levels h =
    let from : suc j * (n * n) - 1 * (n * n) ≡ j * (n * n) = omega (arith, suc-mul j (n * n)) in
    ap (λ (f : ℕ). take (suc j * (n * n) - f) (drop f levels)) from ∙ take_from (j * (n * n)) (suc j * (n * n)) levels (omega (arith, suc-mul j (n * n)))

-- four tables of 32 items at most
pub square_small : (n : ℕ) → n ≤ 32 → n * n ≤ 1024
square_small n h = mul-le-mul h h

pub table_small : (n k : ℕ) → n ≤ 32 → k ≤ 4 → k * (n * n) ≤ 4096
table_small n k h e = mul-le-mul e (square_small n h)

pub one_table : (n k : ℕ) → 0 < k → 1 * (n * n) ≤ k * (n * n)
one_table n zero h = absurd (omega arith)
one_table n (suc j) h = omega (arith, suc-mul j (n * n))

-- the tokens at the front of a list
pub tokens_cut : (w : List ℕ) (k : ℕ) (f : ℕ → ℕ) → k ≤ length w → take k (fill w 0 k f) ≡ table_below k f
tokens_cut w k f h =
    let size : length (take k (fill w 0 k f)) ≡ k = length-take-le k (fill w 0 k f) (omega (arith, length_fill w 0 k f)) in
    ext_get_or 0 (take k (fill w 0 k f)) (table_below k f) (size ∙ sym (table_length f k))
    (λ i l. get_or-take k (fill w 0 k f) i 0 (omega (arith, size)) ∙ (get_or_fill_front w k f i (omega (arith, size)) h ∙ sym (table_at f k i (omega (arith, size)))))

pub tokens_of_lem : (line : List ℕ) → length line ≤ 512 → take (token_count line) (fill (replicate 255 0) 0 (token_count line) (token_at line)) ≡ tokens_of line
unfolding tokens_of
tokens_of_lem line h = tokens_cut (replicate 255 0) (token_count line) (token_at line) (omega (arith, count_small line h, length-replicate {A = ℕ} 255 0))

-- the code's call, with the table that it cuts out, is the program's
module _ (items labels k : ℕ) (levels entries tokens : List ℕ) (to one : ℕ) (e : to ≡ k * (items * items)) (f : one ≡ 1 * (items * items)) (h : 0 < k) where
  abbrev call : List ℕ → StoredCall
  call answers =
      record {
        items = items;
        labels = labels;
        table = take (to - (to - one)) (drop (to - one) levels);
        entries = entries;
        tokens = tokens;
        answers = answers;
        area = replicate 9216 0;
      }

  call_same : (answers : List ℕ) → answers ≡ replicate 1024 0 → call answers ≡ stored_call items labels (level_of items levels k) entries tokens
  unfolding stored_call
  call_same answers r = rw (r, e, f, table_part items k levels h)

  pub found_by : (answers : List ℕ) → answers ≡ replicate 1024 0 → (result : Result ℕ Refusal) (after : List ℕ) → result ≡ (stored (call answers)).result
      → after ≡ (stored (call answers)).answers → Found (stored_call items labels (level_of items levels k) entries tokens) result after
  found_by answers r result after a b =
      record { result = a ∙ ap (λ (c : StoredCall). (stored c).result) (call_same answers r); answers_made = b ∙ ap (λ (c : StoredCall). (stored c).answers) (call_same answers r) }
