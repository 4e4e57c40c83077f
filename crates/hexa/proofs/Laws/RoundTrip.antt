-- Reading what was written gives the number, and a number has one spelling only.
-- Assumes nothing.
use mathlib.Core.Path.{◌≡◌, refl, sym, ap, ◌∙◌}
use mathlib.Core.List.{List, [], ◌∷◌, ◌++◌, append_assoc}
use Prim.Native.Nat.{ℕ, zero, suc, ◌+◌, ◌/◌, ◌%◌, ◌^◌, ◌≤◌, ◌<◌}
use native.Mathlib.Nat.{div-lt_iff_lt-mul, div-add-mod', mod-lt, add-zero, add-suc, pow-suc}
use native.Mathlib.Omega.{arith}
use lib.ListN.{length, get_or, drop, take}
use lib.Seq.{sets, sets-eq, drop_at, drop-cons, drop-drop, drop-length, get_or-drop, length-take-le}
use Rattle.hexa.specs.Digits.{past_end, value_of, digit_of, number_at, put_digits, spelling}
use Rattle.std.specs.Prelude.{Some}
use Rattle.hexa.proofs.Laws.Digit.{Digit, digit_of_value, value_of_digit}
use Rattle.hexa.proofs.Laws.Reading.{number_within, number_drop, number_none, number_more, Parts, number_parts}
use Rattle.hexa.proofs.Laws.Writing.{put_none, put_more, put_append, length_put, drop_put}

-- the byte behind d digits
byte_behind : (s : List ℕ) (at d x g : ℕ) (rest : List ℕ) → drop at s ≡ put_digits d x (g ∷ rest) → get_or s (at + d) past_end ≡ g
byte_behind s at d x g rest e =
    let b : drop (at + d) s ≡ g ∷ rest = sym (drop-drop d at s) ∙ (ap (drop d) e ∙ drop_put d x (g ∷ rest)) in
    ap (λ (k : ℕ). get_or s k past_end) (sym (add-zero (at + d))) ∙ (sym (get_or-drop (at + d) s 0 past_end) ∙ ap (λ (l : List ℕ). get_or l 0 past_end) b)

-- reading what stands there as d digits of x gives x
pub reads_back : (s : List ℕ) (at d x : ℕ) (rest : List ℕ) → drop at s ≡ put_digits d x rest → x < 16 ^ d → number_at s at d ≡ Some x
reads_back s at zero x rest e h = number_none s at ∙ ap Some (omega arith)
reads_back s at (suc d) x rest e h =
    let f : drop at s ≡ put_digits d (x / 16) (digit_of (x % 16) ∷ rest) = e ∙ put_more d x rest in
    let b : get_or s (at + d) past_end ≡ digit_of (x % 16) = byte_behind s at d (x / 16) (digit_of (x % 16)) rest f in
    number_more s at d (x / 16) (x % 16)
    (reads_back s at d (x / 16) (digit_of (x % 16) ∷ rest) f ((div-lt_iff_lt-mul (omega arith)).1 (rw pow-suc at h)))
    (ap value_of b ∙ value_of_digit (x % 16) (mod-lt x (omega arith)))
    ∙ ap Some (div-add-mod' x 16)

-- so digits that were put before a rest are read from it, and what is read behind them is read in the rest
pub reads_put : (d x : ℕ) (rest : List ℕ) → x < 16 ^ d → number_at (put_digits d x rest) 0 d ≡ Some x
reads_put d x rest h = reads_back (put_digits d x rest) 0 d x rest refl h

pub reads_behind : (d x : ℕ) (rest : List ℕ) (at e : ℕ) → number_at (put_digits d x rest) (d + at) e ≡ number_at rest at e
reads_behind d x rest at e = sym (number_drop (put_digits d x rest) d at e) ∙ ap (λ (l : List ℕ). number_at l at e) (drop_put d x rest)

-- two lines that begin with a number of d digits are equal only if the numbers and the rests are
pub put_same : (d x y : ℕ) (rest more : List ℕ) → x < 16 ^ d → y < 16 ^ d → put_digits d x rest ≡ put_digits d y more → (x ≡ y) × (rest ≡ more)
put_same d x y rest more h k e =
    let n : Some x ≡ Some y = sym (reads_put d x rest h) ∙ (ap (λ (l : List ℕ). number_at l 0 d) e ∙ reads_put d y more k) in
    (cc, sym (drop_put d x rest) ∙ (ap (drop d) e ∙ drop_put d y more))

-- what was stored is read back
pub writes_reads : (l : List ℕ) (at d x : ℕ) → at + d ≤ length l → x < 16 ^ d → number_at (sets l at (spelling d x)) at d ≡ Some x
writes_reads l at d x h k =
    let n : length (spelling d x) ≡ d = length_put d x [] ∙ add-zero d in
    reads_back (sets l at (spelling d x)) at d x (drop (at + length (spelling d x)) l)
    (rw (sets-eq (spelling d x) l at (rw n h), append_assoc, drop_at (take at l) (spelling d x ++ drop (at + length (spelling d x)) l) at (length-take-le at l (omega arith)))
    (sym (put_append d x [] (drop (at + length (spelling d x)) l))))
    k

-- what a number that was read says of the line: its d bytes, before what stands behind them, are the spelling
pub one_spelling : (s : List ℕ) (at d x : ℕ) → number_at s at d ≡ Some x → drop at s ≡ put_digits d x (drop (at + d) s)
one_spelling s at zero x e = ap (λ (k : ℕ). drop k s) (sym (add-zero at)) ∙ sym (put_none x (drop (at + 0) s))
one_spelling s at (suc d) x e =
    let p : Parts (number_at s at d) (value_of (get_or s (at + d) past_end)) x = number_parts s at d x e in
    let g : Digit (get_or s (at + d) past_end) p.value = digit_of_value _ _ p.last in
    let q : p.before ≡ x / 16 = omega (arith, g.small, p.sum) in
    let u : p.value ≡ x % 16 = omega (arith, g.small, p.sum) in
    let b : drop (at + d) s ≡ digit_of (x % 16) ∷ drop (at + suc d) s =
    drop-cons s (at + d) past_end (number_within s at d x e)
    ∙ (ap (λ (y : ℕ). y ∷ drop (suc (at + d)) s) (g.is ∙ ap digit_of u) ∙ ap (λ (k : ℕ). digit_of (x % 16) ∷ drop k s) (sym (add-suc at d))) in
    one_spelling s at d p.before p.was
    ∙ (ap (λ (y : ℕ). put_digits d y (drop (at + d) s)) q ∙ (ap (put_digits d (x / 16)) b ∙ sym (put_more d x (drop (at + suc d) s))))

-- so a text of d digits is the spelling of its number, and two that read as one number are equal
pub text_spelt : (s : List ℕ) (d x : ℕ) → length s ≡ d → number_at s 0 d ≡ Some x → s ≡ spelling d x
text_spelt s d x h e =
    let n : 0 + d ≡ length s = omega arith in
    one_spelling s 0 d x e ∙ ap (put_digits d x) (ap (λ (k : ℕ). drop k s) n ∙ drop-length s)

pub one_text : (s t : List ℕ) (d x : ℕ) → length s ≡ d → length t ≡ d → number_at s 0 d ≡ Some x → number_at t 0 d ≡ Some x → s ≡ t
one_text s t d x h k e f = text_spelt s d x h e ∙ sym (text_spelt t d x k f)
