-- Bytes taken one after the other, and the end of the input.
use Prim.Native.Nat.{ℕ, ◌+◌, ◌≤◌, ◌<◌}
use mathlib.Core.Path.{◌≡◌, refl, sym, ap, ◌∙◌}
use mathlib.Core.List.{List, [], ◌∷◌}
use mathlib.Core.Bool.{true, false}
use native.Mathlib.Numerals.{add-one}
use native.Mathlib.Omega.{arith}
use lib.ListN.{length, get_or, take, drop}
use lib.Seq.{sets, sets-eq, take_at, drop-cons, length-take-le}
use Rattle.machine.specs.declared.Gathered.{Gathered}
use Rattle.machine.specs.declared.Progress.{Progress}
use Rattle.machine.specs.declared.Progress.TheVariants.{Opening, Gathering, Answering, Stopped}
use Rattle.machine.specs.declared.Run.{Run}
use Rattle.machine.specs.Machine.{Turn, is_stopped, Machine, end_line, byte, after, feed, last_by, last_line, ended}
use Rattle.machine.specs.Standing.{stage_by, stage_of, line_of, Comes, machine_of, Steps}
use Rattle.lines.specs.Lent.{Written}

-- one byte of a list of bytes
pub feed_at : (m : Machine) (l : List ℕ) (i : ℕ) → i < length l → feed m (drop i l) ≡ after (byte m (get_or l i 0)).text (feed (byte m (get_or l i 0)).machine (drop (i + 1) l))
unfolding feed
feed_at m l i h = rw (add-one, drop-cons l i 0 h)

-- the text at the front of a list
pub text_front : (text old new : List ℕ) (n : ℕ) → n ≡ length text → n ≤ length old → new ≡ sets old 0 text → take n new ≡ text
text_front text old new n e h w =
    ap (take n) (w ∙ sets-eq text old 0 (omega (arith, e))) ∙ take_at text (drop (0 + length text) old) n (sym e)

-- a byte of the input, and its text at the front of the output
pub step_printed : (m : Machine) (input : List ℕ) (i told : ℕ) (old new : Run) → i < length input → Steps (byte m (get_or input i 0)) told old new
    → feed m (drop i input) ≡ after (take told new.out) (feed (machine_of new) (drop (i + 1) input))
step_printed m input i told old new h s =
    let b = byte m (get_or input i 0) in
    feed_at m input i h
    ∙ (ap (λ (l : List ℕ). after l (feed b.machine (drop (i + 1) input))) (sym (text_front b.text old.out new.out told s.many s.inside s.text))
    ∙ ap (λ (n : Machine). after (take told new.out) (feed n (drop (i + 1) input))) (sym s.machine))

-- the last line
last_none : (m : Machine) (l : List ℕ) → length l ≡ 0 → last_by m l ≡ record { machine = m; text = [] }
unfolding last_by
last_none m [] h = refl
last_none m (b ∷ l) h = absurd (omega (arith, h))

last_some : (m : Machine) (l : List ℕ) → 0 < length l → last_by m l ≡ end_line m
unfolding last_by
last_some m [] h = absurd (omega arith)
last_some m (b ∷ l) h = refl

module _ (r : Run) where
  pub last_stopped : is_stopped (stage_of r) ≡ true → last_line (machine_of r) ≡ record { machine = machine_of r; text = [] }
  unfolding last_line
  last_stopped e = rw e

  pub last_empty : is_stopped (stage_of r) ≡ false → r.held ≡ 0 → last_line (machine_of r) ≡ record { machine = machine_of r; text = [] }
  unfolding last_line
  last_empty e h = rw e (last_none (machine_of r) (line_of r) (ap (λ (k : ℕ). length (take k r.part)) h))

  pub last_held : is_stopped (stage_of r) ≡ false → 0 < r.held → last_line (machine_of r) ≡ end_line (machine_of r)
  unfolding last_line
  last_held e h = rw e (last_some (machine_of r) (line_of r) (omega (arith, h, length-take-le r.held r.part (omega (arith, r.held_fits, r.part_room)))))

-- the end of the input
pub written_comes : {t : Turn} {told : ℕ} {old new : Run} → Comes t told old new → Written t.text told 0 old.out new.out
written_comes h = record { size = h.many; bytes = h.text; inside = omega (arith, h.inside) }

pub ended_none : (m : Machine) (p : Progress) (edges levels entries out : List ℕ) → (p ≡ Opening → ⊥) → ((g : Gathered) → p ≡ Gathering g → ⊥)
    → Written (ended m (stage_by p edges levels entries)) 0 0 out out
unfolding ended stage_by
ended_none m Opening edges levels entries out f h = absurd (f refl)
ended_none m (Gathering g) edges levels entries out f h = absurd (h g refl)
ended_none m (Answering t) edges levels entries out f h = record { size = refl; bytes = refl; inside = omega arith }
ended_none m Stopped edges levels entries out f h = record { size = refl; bytes = refl; inside = omega arith }
