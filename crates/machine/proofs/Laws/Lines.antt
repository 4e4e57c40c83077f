-- What a machine prints for the bytes behind those of the line in hand is the scan of the lines from there on: what the good lines print, and then 18 at the first bad frame, or what the end asks for.
use Prim.Native.Nat.{ℕ, suc, ◌≤◌, ◌<◌, min}
use mathlib.Core.Path.{◌≡◌, refl, sym, ap, ◌∙◌}
use mathlib.Core.Logic.{◌⊎◌, inl, inr, ⊎_elim}
use mathlib.Core.Option.{Option-elim}
use mathlib.Core.List.{List, [], ◌∷◌, ◌++◌, append-nil, append_assoc}
use mathlib.Core.Bool.{true, false, cond}
use native.Mathlib.Omega.{arith}
use borrow.Author.Tests.{le-leb, lt-leb, ltb-true, ltb-false}
use lib.Dec.{eqb, ltb}
use lib.ListN.{length, length-append}
use Rattle.rules.specs.Scanner.{scan_from}
use Rattle.rules.proofs.Laws.Tests.{either}
use Rattle.format.specs.declared.Frame.{Frame}
use Rattle.format.specs.declared.Frame.TheVariants.{Sizes, Edge, Query, Faulty}
use Rattle.format.specs.Frames.{frame_of}
use Rattle.format.specs.Texts.{line_feed}
use Rattle.machine.specs.Machine.{most_digits, Stage, opening, gathering, answering, stopped, is_stopped, Turn, silent, stops, on_sizes, on_edge, on_query, on_frame, bad_frame, on_line, Machine, next_line, Fed, turned, end_line, keep, byte, after, feed, last_by, last_line, ended, finish}
use Rattle.machine.specs.Lines.{last_of, lines_from, fits, well_framed, line_turn, line_step, line_end, program, spoken, closing}

-- a frame that comes where it may not is a bad frame, and one that comes where it may does not ask what a bad frame is
unfit : (bad : Turn) (line : List ℕ) (s : Stage) (f : Frame) → is_stopped s ≡ false → fits s f ≡ false → on_frame bad line s f ≡ bad
unfolding on_frame on_sizes on_edge on_query fits is_stopped
unfit bad line opening (Sizes items labels k) g e = rw e
unfit bad line opening (Edge source target label) g e = refl
unfit bad line opening Query g e = refl
unfit bad line opening Faulty g e = refl
unfit bad line (gathering items labels k edges) (Sizes _ _ _) g e = refl
unfit bad line (gathering items labels k edges) (Edge source target label) g e = rw e
unfit bad line (gathering items labels k edges) Query g e = let z : ◌≡◌ {A = ℕ} 0 1 = cc in absurd (omega arith)
unfit bad line (gathering items labels k edges) Faulty g e = refl
unfit bad line (answering items labels table entries) (Sizes _ _ _) g e = refl
unfit bad line (answering items labels table entries) (Edge _ _ _) g e = refl
unfit bad line (answering items labels table entries) Query g e = let z : ◌≡◌ {A = ℕ} 0 1 = cc in absurd (omega arith)
unfit bad line (answering items labels table entries) Faulty g e = refl
unfit bad line stopped f g e = let z : ◌≡◌ {A = ℕ} 0 1 = cc in absurd (omega arith)

fit : (bad other : Turn) (line : List ℕ) (s : Stage) (f : Frame) → fits s f ≡ true → on_frame bad line s f ≡ on_frame other line s f
unfolding on_frame on_sizes on_edge on_query fits
fit bad other line opening (Sizes items labels k) e = rw e
fit bad other line opening (Edge source target label) e = let z : ◌≡◌ {A = ℕ} 0 1 = cc in absurd (omega arith)
fit bad other line opening Query e = let z : ◌≡◌ {A = ℕ} 0 1 = cc in absurd (omega arith)
fit bad other line opening Faulty e = let z : ◌≡◌ {A = ℕ} 0 1 = cc in absurd (omega arith)
fit bad other line (gathering items labels k edges) (Sizes _ _ _) e = let z : ◌≡◌ {A = ℕ} 0 1 = cc in absurd (omega arith)
fit bad other line (gathering items labels k edges) (Edge source target label) e = rw e
fit bad other line (gathering items labels k edges) Query e = refl
fit bad other line (gathering items labels k edges) Faulty e = let z : ◌≡◌ {A = ℕ} 0 1 = cc in absurd (omega arith)
fit bad other line (answering items labels table entries) (Sizes _ _ _) e = let z : ◌≡◌ {A = ℕ} 0 1 = cc in absurd (omega arith)
fit bad other line (answering items labels table entries) (Edge _ _ _) e = let z : ◌≡◌ {A = ℕ} 0 1 = cc in absurd (omega arith)
fit bad other line (answering items labels table entries) Query e = refl
fit bad other line (answering items labels table entries) Faulty e = let z : ◌≡◌ {A = ℕ} 0 1 = cc in absurd (omega arith)
fit bad other line stopped f e = let z : ◌≡◌ {A = ℕ} 0 1 = cc in absurd (omega arith)

stopped_is : (s : Stage) → is_stopped s ≡ true → s ≡ stopped
unfolding is_stopped
stopped_is opening e = let z : ◌≡◌ {A = ℕ} 0 1 = cc in absurd (omega arith)
stopped_is (gathering items labels k edges) e = let z : ◌≡◌ {A = ℕ} 0 1 = cc in absurd (omega arith)
stopped_is (answering items labels table entries) e = let z : ◌≡◌ {A = ℕ} 0 1 = cc in absurd (omega arith)
stopped_is stopped e = refl

-- what is printed for lines from a stage and a line number on
unfoldable pub printed : Stage → ℕ → List (List ℕ) → List ℕ
printed s k lines = spoken s lines ++ closing (scan_from program s k lines)

module _ (s : Stage) (k : ℕ) (line : List ℕ) (lines : List (List ℕ)) (on : is_stopped s ≡ false) where
  printed_bad : well_framed s line ≡ false → printed s k (line ∷ lines) ≡ (bad_frame (next_line k)).text
  unfolding printed spoken closing scan_from program line_step line_turn Option-elim
  printed_bad e = rw (on, e) refl

  printed_good : well_framed s line ≡ true
      → printed s k (line ∷ lines) ≡ (on_line s 0 line).text ++ printed (on_line s 0 line).stage (suc k) lines
  unfolding printed spoken scan_from program line_step line_turn Option-elim
  printed_good e = rw (on, e) (append_assoc (on_line s 0 line).text (spoken (on_line s 0 line).stage lines) _)

printed_stopped : (lines : List (List ℕ)) (k : ℕ) → printed stopped k lines ≡ []
unfolding printed spoken closing scan_from program line_step line_turn line_end Option-elim is_stopped silent ended
printed_stopped [] k = refl
printed_stopped (line ∷ lines) k = printed_stopped lines (suc k)

-- the number of a line
number_next : (n k : ℕ) → n ≡ min k 4294967295 → next_line n ≡ next_line k
unfolding next_line
number_next n k e = omega arith

number_more : (n k : ℕ) → n ≡ min k 4294967295 → next_line n ≡ min (suc k) 4294967295
unfolding next_line
number_more n k e = omega arith

printed_end : (m : Machine) (s : Stage) (k : ℕ) → m.lines ≡ min k 4294967295 → printed s k [] ≡ ended m s
unfolding printed spoken closing scan_from program line_end Option-elim ended
printed_end m opening k e = ap (λ (n : ℕ). (bad_frame n).text) (sym (number_next m.lines k e))
printed_end m (gathering items labels l edges) k e = refl
printed_end m (answering items labels table entries) k e = refl
printed_end m stopped k e = refl

-- the end of a line, and what is printed after it
module _ (s : Stage) (n k : ℕ) (part : List ℕ) (lines : List (List ℕ)) (next : Machine → List ℕ)
    (on : is_stopped s ≡ false) (short : length part ≤ 512) (number : n ≡ min k 4294967295)
    (silent_next : (m : Machine) → is_stopped m.stage ≡ true → next m ≡ [])
    (goes_next : (t : Stage) → is_stopped t ≡ false
    → next (record { stage = t; lines = next_line n; part = [] }) ≡ printed t (suc k) lines)
  where
    abbrev m : Machine
    m = record { stage = s; lines = n; part = part }

    -- whatever the turn of the line was
    any_turn : (t : Turn) → on_line s (next_line n) part ≡ t → (end_line m).text ++ next (end_line m).machine ≡ t.text ++ next (record { stage = t.stage; lines = next_line n; part = [] })
    unfolding end_line turned
    any_turn t e = rw e

    after_turn : (t : Stage) → next (record { stage = t; lines = next_line n; part = [] }) ≡ printed t (suc k) lines
    after_turn t =
        ⊎_elim
        (λ (e : is_stopped t ≡ true).
        silent_next (record { stage = t; lines = next_line n; part = [] }) e ∙ sym (ap (λ (z : Stage). printed z (suc k) lines) (stopped_is t e) ∙ printed_stopped lines (suc k)))
        (λ (e : is_stopped t ≡ false). goes_next t e)
        (either (is_stopped t))

    framed : well_framed s part ≡ fits s (frame_of part)
    unfolding well_framed
    framed = rw (le-leb (length part) 512 short)

    line_ends : (end_line m).text ++ next (end_line m).machine ≡ printed s k (part ∷ lines)
    unfolding on_line
    line_ends =
        ⊎_elim
        (λ (e : fits s (frame_of part) ≡ true).
        any_turn (on_line s 0 part) (fit (bad_frame (next_line n)) (bad_frame 0) part s (frame_of part) e)
        ∙ ap (λ (z : List ℕ). (on_line s 0 part).text ++ z) (after_turn (on_line s 0 part).stage)
        ∙ sym (printed_good s k part lines on (framed ∙ e)))
        (λ (e : fits s (frame_of part) ≡ false).
        any_turn (bad_frame (next_line n)) (unfit (bad_frame (next_line n)) part s (frame_of part) on e)
        ∙ bad_ends
        ∙ sym (printed_bad s k part lines on (framed ∙ e)))
        (either (fits s (frame_of part)))
      where
        bad_ends : (bad_frame (next_line n)).text ++ next (record { stage = (bad_frame (next_line n)).stage; lines = next_line n; part = [] }) ≡ (bad_frame (next_line k)).text
        bad_ends =
            ap (λ (z : List ℕ). (bad_frame (next_line n)).text ++ z) (silent_next (record { stage = (bad_frame (next_line n)).stage; lines = next_line n; part = [] }) (unfold bad_frame stops is_stopped in refl))
            ∙ append-nil (bad_frame (next_line n)).text
            ∙ ap (λ (z : ℕ). (bad_frame z).text) (number_next n k number)

-- what is printed from a machine on, to the end of the input
unfoldable pub rest : Machine → List ℕ → List ℕ
rest m bytes = let f = feed m bytes in f.text ++ finish f.machine

rest_byte : (m : Machine) (b : ℕ) (bytes : List ℕ) → rest m (b ∷ bytes) ≡ (byte m b).text ++ rest (byte m b).machine bytes
unfolding rest feed after
rest_byte m b bytes = append_assoc (byte m b).text (feed (byte m b).machine bytes).text _

ended_stopped : (m : Machine) (s : Stage) → is_stopped s ≡ true → ended m s ≡ []
ended_stopped m s e = ap (ended m) (stopped_is s e) ∙ unfold ended in refl

byte_stopped : (m : Machine) (b : ℕ) → is_stopped m.stage ≡ true → byte m b ≡ record { machine = m; text = [] }
unfolding byte
byte_stopped m b e = rw e

rest_stopped : (bytes : List ℕ) (m : Machine) → is_stopped m.stage ≡ true → rest m bytes ≡ []
unfolding rest feed finish last_line
rest_stopped [] m e = rw e (ended_stopped m m.stage e)
rest_stopped (b ∷ bytes) m e = rest_byte m b bytes ∙ ap (λ (f : Fed). f.text ++ rest f.machine bytes) (byte_stopped m b e) ∙ rest_stopped bytes m e

-- a line over 512 digits
long_line : (bytes part : List ℕ) → 512 < length part → (line : List ℕ) × (lines : List (List ℕ)) × (lines_from part bytes ≡ line ∷ lines) × (512 < length line)
unfolding lines_from last_of
long_line [] [] h = absurd (omega arith)
long_line [] (b ∷ part) h = (b ∷ part, [], refl, h)
long_line (b ∷ bytes) part h = go (long_line bytes (part ++ (b ∷ [])) (rw length-append (omega arith))) (either (eqb b line_feed))
  where
    go : ((line : List ℕ) × (lines : List (List ℕ)) × (lines_from (part ++ (b ∷ [])) bytes ≡ line ∷ lines) × (512 < length line))
        → (eqb b line_feed ≡ true) ⊎ (eqb b line_feed ≡ false)
        → (line : List ℕ) × (lines : List (List ℕ)) × (cond (eqb b line_feed) (part ∷ lines_from [] bytes) (lines_from (part ++ (b ∷ [])) bytes) ≡ line ∷ lines) × (512 < length line)
    go r (inl e) = (part, lines_from [] bytes, rw e, h)
    go r (inr e) = (r.0, r.1, rw e r.2, r.3)

long_bad : (s : Stage) (k : ℕ) (part bytes : List ℕ) → is_stopped s ≡ false → 512 < length part → printed s k (lines_from part bytes) ≡ (bad_frame (next_line k)).text
long_bad s k part bytes on h =
    let r = long_line bytes part h in
    ap (printed s k) r.2 ∙ printed_bad s k r.0 r.1 on (unfold well_framed in rw (lt-leb (length r.0) 512 r.3))

-- the end of the input
finish_printed : (s : Stage) (n k : ℕ) (part : List ℕ) → is_stopped s ≡ false → length part ≤ 512 → n ≡ min k 4294967295
    → finish (record { stage = s; lines = n; part = part }) ≡ printed s k (last_of part)
unfolding finish last_line last_by last_of
finish_printed s n k [] on short number = rw on (sym (printed_end (record { stage = s; lines = n; part = [] }) s k number))
finish_printed s n k (b ∷ part) on short number =
    rw on
    (line_ends s n k (b ∷ part) [] (λ m. ended m m.stage) on short number
    (λ m e. ended_stopped m m.stage e)
    (λ t e. sym (printed_end (record { stage = t; lines = next_line n; part = [] }) t (suc k) (number_more n k number))))

-- the bytes behind those of the line in hand
pub rest_printed : (bytes : List ℕ) (s : Stage) (n k : ℕ) (part : List ℕ) → is_stopped s ≡ false → length part ≤ 512 → n ≡ min k 4294967295
    → rest (record { stage = s; lines = n; part = part }) bytes ≡ printed s k (lines_from part bytes)
unfolding byte lines_from keep turned
rest_printed [] s n k part on short number = unfold rest feed in finish_printed s n k part on short number
rest_printed (b ∷ bytes) s n k part on short number =
    rest_byte (record { stage = s; lines = n; part = part }) b bytes ∙ go (rest_printed bytes) (either (eqb b line_feed)) (either (ltb (length part) most_digits))
  where
    go : ((s : Stage) (n k : ℕ) (part : List ℕ) → is_stopped s ≡ false → length part ≤ 512 → n ≡ min k 4294967295
        → rest (record { stage = s; lines = n; part = part }) bytes ≡ printed s k (lines_from part bytes))
        → (eqb b line_feed ≡ true) ⊎ (eqb b line_feed ≡ false) → (ltb (length part) most_digits ≡ true) ⊎ (ltb (length part) most_digits ≡ false)
        → (byte (record { stage = s; lines = n; part = part }) b).text ++ rest (byte (record { stage = s; lines = n; part = part }) b).machine bytes
        ≡ printed s k (cond (eqb b line_feed) (part ∷ lines_from [] bytes) (lines_from (part ++ (b ∷ [])) bytes))
    go again (inl e) l =
        rw (on, e)
        (line_ends s n k part (lines_from [] bytes) (λ o. rest o bytes) on short number (rest_stopped bytes)
        (λ t e. again t (next_line n) (suc k) [] e (omega arith) (number_more n k number)))
    go again (inr e) (inl l) =
        rw (on, e, l)
        (again s n k (part ++ (b ∷ [])) on (rw length-append (omega (arith, ltb-true (length part) most_digits l))) number)
    go again (inr e) (inr l) =
        rw (on, e, l)
        (ap (λ (z : List ℕ). (bad_frame (next_line n)).text ++ z)
        (rest_stopped bytes (record { stage = (bad_frame (next_line n)).stage; lines = next_line n; part = [] }) (unfold bad_frame stops is_stopped in refl))
        ∙ append-nil (bad_frame (next_line n)).text
        ∙ ap (λ (z : ℕ). (bad_frame z).text) (number_next n k number)
        ∙ sym (long_bad s k (part ++ (b ∷ [])) bytes on (rw length-append (omega (arith, ltb-false (length part) most_digits l)))))
