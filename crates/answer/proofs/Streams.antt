-- What the reads take and the writes add, one behind the other.
use Rattle.std.proofs.Common.{ℕ, zero, suc, ◌+◌, ◌-◌, ◌^◌, ◌<◌, ◌≤◌, ◌≡◌, refl, sym, ap, ◌∙◌, List, [], ◌∷◌, ◌++◌, Bool, true, false, arith, length, take, drop, subst, append-nil, append_assoc, length-append}
use borrow.Author.Tests.{ne_eqb}
use Rattle.std.proofs.Math.Seq.{length-take-le}
use Rattle.lines.specs.Lent.{Written}
use Rattle.lines.proofs.Laws.Feeding.{text_front}
use Rattle.std.proofs.Math.ListN.{drop_of_length-le}
use Rattle.std.specs.Prelude.{Option, None, Some, IfSome}
use Rattle.std.specs.Io.KnownBytes.{Appends, Consumes, IsAtEnd}
use Rattle.machine.specs.Machine.{Stage, is_stopped, Machine, beginning, Fed, byte, after, feed, finish, run}
use Rattle.machine.proofs.Theorems.Pieces.{pieces, run_pieces}
use Rattle.answer.specs.Reads.{goes_on, Reads}
use Rattle.answer.specs.Streams.{Moves, Runs}
use Rattle.answer.proofs.Laws.{machine_after}

pub appends_none : (a : Option (List ℕ)) → Appends a a []
appends_none None = tt
appends_none (Some xs) = sym (append-nil xs)

pub appends_nothing : (a : Option (List ℕ)) (many : ℕ) (out : List ℕ) → many ≤ 0 → Appends a a (take many out)
appends_nothing a zero out h = appends_none a
appends_nothing a (suc k) out h = absurd (omega (arith, h))

pub appends_more : (a b c : Option (List ℕ)) (x y : List ℕ) → Appends a b x → Appends b c y → Appends a c (x ++ y)
appends_more None b c x y e f = tt
appends_more (Some xs) None c x y e f = elim e [ ]
appends_more (Some xs) (Some ys) None x y e f = elim f [ ]
appends_more (Some xs) (Some ys) (Some zs) x y e f = f ∙ (ap (λ (l : List ℕ). l ++ y) e ∙ append_assoc xs x y)

pub consumes_none : (a : Option (List ℕ)) → Consumes a a []
consumes_none None = tt
consumes_none (Some xs) = refl

pub consumes_more : (a b c : Option (List ℕ)) (x y : List ℕ) → Consumes a b x → Consumes b c y → Consumes a c (x ++ y)
consumes_more None b c x y e f = tt
consumes_more (Some xs) None c x y e f = elim e [ ]
consumes_more (Some xs) (Some ys) None x y e f = elim f [ ]
consumes_more (Some xs) (Some ys) (Some zs) x y e f = e ∙ (ap (λ (l : List ℕ). x ++ l) f ∙ sym (append_assoc x y zs))

-- what was written for the input so far, and what the rest of it comes to
pub record Printed (held held' : Option (List ℕ)) (goal rest : Fed) : Type 0 where
  pub text : List ℕ
  pub written : Appends held held' text
  pub ahead : goal ≡ after text rest

after_none : (f : Fed) → f ≡ after [] f
unfolding after
after_none f = refl

after_after : (s t : List ℕ) (f : Fed) → after s (after t f) ≡ after (s ++ t) f
unfolding after
after_after s t f = ap (λ (x : List ℕ). record { machine = f.machine; text = x }) (sym (append_assoc s t f.text))

text_after : (text : List ℕ) (f : Fed) → (after text f).text ≡ text ++ f.text
unfolding after
text_after text f = refl

pub printed_none : (held : Option (List ℕ)) (f : Fed) → Printed held held f f
printed_none held f = record { text = []; written = appends_none held; ahead = after_none f }

pub printed_more : (a b c : Option (List ℕ)) (goal f g : Fed) (text : List ℕ) → Printed a b goal f → f ≡ after text g → Appends b c text → Printed a c goal g
printed_more a b c goal f g text p e w =
    record {
      text = p.text ++ text;
      written = appends_more a b c p.text text p.written w;
      ahead = p.ahead ∙ (ap (after p.text) e ∙ after_after p.text text g);
    }

-- the machine at the end of the input, and all that it printed
fed_all : (m : Machine) (l : List ℕ) (i : ℕ) → length l ≤ i → feed m (drop i l) ≡ record { machine = m; text = [] }
unfolding feed
fed_all m l i h = rw (drop_of_length-le l h)

done_machine : (goal : Fed) (m : Machine) (text : List ℕ) → goal ≡ after text (record { machine = m; text = [] }) → m ≡ goal.machine
unfolding after
done_machine goal m text e = sym (ap (λ (f : Fed). f.machine) e)

done_text : (goal : Fed) (m : Machine) (text : List ℕ) → goal ≡ after text (record { machine = m; text = [] }) → text ≡ goal.text
unfolding after
done_text goal m text e = sym (append-nil text) ∙ sym (ap (λ (f : Fed). f.text) e)

pub printed_machine : (a b : Option (List ℕ)) (goal : Fed) (m : Machine) (l : List ℕ) (i : ℕ) → length l ≤ i → Printed a b goal (feed m (drop i l)) → m ≡ goal.machine
printed_machine a b goal m l i h p = done_machine goal m p.text (p.ahead ∙ ap (after p.text) (fed_all m l i h))

pub printed_all : (a b : Option (List ℕ)) (goal : Fed) (m : Machine) (l : List ℕ) (i : ℕ) → length l ≤ i → Printed a b goal (feed m (drop i l)) → Appends a b goal.text
printed_all a b goal m l i h p = subst (λ (t : List ℕ). Appends a b t) (done_text goal m p.text (p.ahead ∙ ap (after p.text) (fed_all m l i h))) p.written

-- whether there is more to read
pub goes_true : (got : ℕ) (s : Stage) → goes_on got s ≡ true → 0 < got
unfolding goes_on
goes_true zero s e = absurd (cc)
goes_true (suc k) s e = omega arith

pub goes_false : (got : ℕ) (s : Stage) → goes_on got s ≡ false → is_stopped s ≡ false → got ≡ 0
unfolding goes_on
goes_false zero s e h = refl
goes_false (suc k) s e h = let f = rw (ne_eqb (suc k) zero (λ z. omega (arith, z)), h) at e in absurd (cc)

size_more : (bytes buffer : List ℕ) (got : ℕ) → got ≤ length buffer → length (bytes ++ take got buffer) ≡ length bytes + got
size_more bytes buffer got h = length-append bytes (take got buffer) ∙ ap (λ (n : ℕ). length bytes + n) (length-take-le got buffer h)

feed_text : (start : Machine) (bytes more : List ℕ) (m : Machine) → m ≡ (feed start bytes).machine → (feed start bytes).text ++ (feed m more).text ≡ (feed start (bytes ++ more)).text
unfolding after
feed_text start bytes more m e =
    ap (λ (x : Machine). (feed start bytes).text ++ (feed x more).text) e ∙ sym (ap (λ (f : Fed). f.text) (pieces start bytes more))

-- behind so many reads that each handed over a byte
pub record Going (left left' held held' : Option (List ℕ)) (start m : Machine) (turns : ℕ) : Type 0 where
  pub bytes : List ℕ
  pub read : Consumes left left' bytes
  pub fed : m ≡ (feed start bytes).machine
  pub written : Appends held held' (feed start bytes).text
  pub counted : turns ≤ length bytes

pub going_start : (left held : Option (List ℕ)) (m : Machine) → Going left left held held m m 0
unfolding feed
going_start left held m = record { bytes = []; read = consumes_none left; fed = refl; written = appends_none held; counted = omega arith }

-- with no turn left the input was too long
pub moves_long : (left left' held held' : Option (List ℕ)) (start m : Machine) (turns : ℕ) → 2 ^ 64 - 1 ≤ turns → Going left left' held held' start m turns → Moves left left' held held' start m
moves_long left left' held held' start m turns h v = record { bytes = v.bytes; read = v.read; fed = v.fed; written = v.written; over = λ s f. absurd (omega (arith, v.counted)) }

-- one read more
module _ (left left' left'' held held' held'' : Option (List ℕ)) (start m n : Machine) (turns got : ℕ) (buffer : List ℕ) (v : Going left left' held held' start m turns) (r : Reads m n got buffer)
    (c : Consumes left' left'' (take got buffer)) (a : Appends held' held'' (feed m (take got buffer)).text)
  where
    abbrev more : List ℕ
    more = v.bytes ++ take got buffer

    more_fed : n ≡ (feed start more).machine
    more_fed =
        r.fed
        ∙ (ap (λ (x : Machine). (feed x (take got buffer)).machine) v.fed
        ∙ sym (machine_after _ _ _ (pieces start v.bytes (take got buffer))))

    more_written : Appends held held'' (feed start more).text
    more_written =
        subst (λ (l : List ℕ). Appends held held'' l) (feed_text start v.bytes (take got buffer) m v.fed)
        (appends_more held held' held'' (feed start v.bytes).text (feed m (take got buffer)).text v.written a)

    pub going_more : 0 < got → Going left left'' held held'' start n (turns + 1)
    going_more h =
        record {
          bytes = more;
          read = consumes_more left left' left'' v.bytes (take got buffer) v.read c;
          fed = more_fed;
          written = more_written;
          counted = omega (arith, size_more v.bytes buffer got r.inside, v.counted);
        }

    pub moves_over : (is_stopped n.stage ≡ false → IsAtEnd left'') → Moves left left'' held held'' start n
    moves_over e =
        record {
          bytes = more;
          read = consumes_more left left' left'' v.bytes (take got buffer) v.read c;
          fed = more_fed;
          written = more_written;
          over = λ s. e;
        }

-- the last text
pub runs : (left left' held held' : Option (List ℕ)) (start m : Machine) (many : ℕ) (old new : List ℕ) → Moves left left' held held' start m → Written (finish m) many 0 old new
    → Runs left left' held held' start (take many new)
runs left left' held held' start m many old new v w =
    record {
      bytes = v.bytes;
      read = v.read;
      written = v.written;
      ends = text_front (finish m) old new many w.size (omega (arith, w.inside)) w.bytes ∙ ap finish v.fed;
      over = λ s f. v.over s (ap (λ (x : Machine). is_stopped x.stage) v.fed ∙ f);
    }

-- once the run has stopped it prints nothing, whatever follows
stopped_feed : (m : Machine) (l : List ℕ) → is_stopped m.stage ≡ true → feed m l ≡ record { machine = m; text = [] }
unfolding feed byte after
stopped_feed m [] e = refl
stopped_feed m (b ∷ l) e = rw (e, stopped_feed m l e)

no_rest : (m : Machine) (l : List ℕ) (b : Bool) → is_stopped m.stage ≡ b → (b ≡ false → l ≡ []) → feed m l ≡ record { machine = m; text = [] }
unfolding feed
no_rest m l true e h = stopped_feed m l e
no_rest m l false e h = rw (h refl)

run_prefix : (bytes rest : List ℕ) → feed (feed beginning bytes).machine rest ≡ record { machine = (feed beginning bytes).machine; text = [] }
    → run (bytes ++ rest) ≡ (feed beginning bytes).text ++ finish (feed beginning bytes).machine
run_prefix bytes rest e = run_pieces bytes rest ∙ ap (λ (f : Fed). (feed beginning bytes).text ++ (f.text ++ finish f.machine)) e

pub answered : (left left' held held' held'' : Option (List ℕ)) (last : List ℕ) → Runs left left' held held' beginning last → Appends held' held'' last
    → IfSome left (λ input. length input < 2 ^ 64 - 1 → Appends held held'' (run input))
answered None left' held held' held'' last r a = tt
answered (Some xs) None held held' held'' last r a = elim r.read [ ]
answered (Some xs) (Some ys) held held' held'' last r a =
    λ h.
    let f = feed beginning r.bytes in
    let size : length xs ≡ length r.bytes + length ys = ap length r.read ∙ length-append r.bytes ys in
    let same : run xs ≡ f.text ++ last =
    ap run r.read
    ∙ (run_prefix r.bytes ys (no_rest f.machine ys (is_stopped f.machine.stage) refl (r.over (omega arith)))
    ∙ ap (λ (l : List ℕ). f.text ++ l) (sym r.ends)) in
    subst (λ (l : List ℕ). Appends held held'' l) (sym same) (appends_more held held' held'' f.text last r.written a)
