-- The steps of the machine, by the tests of the code.
use Prim.Native.Nat.{ℕ, ◌+◌, ◌<◌, min}
use mathlib.Core.Path.{◌≡◌, refl, sym, ap, ◌∙◌}
use mathlib.Core.List.{List, [], ◌∷◌, ◌++◌}
use mathlib.Core.Bool.{false}
use native.Mathlib.Numerals.{add-one}
use native.Mathlib.Omega.{arith}
use borrow.Author.Tests.{lt-ltb}
use lib.ListN.{length, set, take}
use lib.Seq.{sets, take-suc-set, length-take-le}
use Rattle.machine.specs.declared.Progress.{Progress}
use Rattle.machine.specs.declared.Progress.TheVariants.{Opening, Gathering, Answering, Stopped}
use Rattle.machine.specs.declared.Moved.{Moved}
use Rattle.machine.specs.declared.Run.{Run}
use Rattle.machine.specs.Machine.{Stage, Turn, is_stopped, Machine, next_line, Fed, turned, keep}
use Rattle.machine.specs.Standing.{stage_by, stage_of, machine_of, MovedBy, TakenBy, Comes, Steps}

-- the step is another's
pub steps_as : {f g : Fed} {many : ℕ} {old new : Run} → g ≡ f → Steps f many old new → Steps g many old new
steps_as e h = rw e h

-- whether the rest is unread
pub reads_on : (p : Progress) (edges levels entries : List ℕ) → (p ≡ Stopped → ⊥) → false ≡ is_stopped (stage_by p edges levels entries)
unfolding is_stopped stage_by
reads_on Opening edges levels entries h = refl
reads_on (Gathering g) edges levels entries h = refl
reads_on (Answering t) edges levels entries h = refl
reads_on Stopped edges levels entries h = absurd (h refl)

-- a line's number
pub next_number : (number lines : ℕ) → number ≡ min (lines + 1) 4294967295 → number ≡ next_line lines
unfolding next_line
next_number number lines e = omega (arith, e)

-- a byte is kept behind those that are held
pub keep_more : (s : Stage) (lines held : ℕ) (part : List ℕ) (b : ℕ) → length part ≡ 512 → held < 512
    → keep (record { stage = s; lines = lines; part = take held part }) b ≡ record { machine = record { stage = s; lines = lines; part = take (held + 1) (set part held b) }; text = [] }
unfolding keep
keep_more s lines held part b n h =
    let few : length (take held part) < 512 = omega (arith, length-take-le held part (omega (arith, n, h)), h) in
    let more : take held part ++ (b ∷ []) ≡ take (held + 1) (set part held b) = sym (ap (λ (k : ℕ). take k (set part held b)) (add-one held) ∙ take-suc-set part held b (omega (arith, n, h))) in
    rw (lt-ltb (length (take held part)) 512 few, more) refl

-- a line ends as its turn says: its number is counted, and nothing is held behind it
pub turned_steps : (m : Machine) {t : Turn} {told : ℕ} {old mid new : Run} (last : Run) → Comes t told mid new → mid.lines ≡ next_line m.lines → mid.out ≡ old.out
    → machine_of last ≡ record { stage = stage_of new; lines = new.lines; part = [] } → last.out ≡ new.out → Steps (turned m t) told old last
unfolding turned
turned_steps m {t} {told} {old} {mid} {new} last h n o e l =
    record {
      machine = e ∙ (let a = h.stage in let b : new.lines ≡ next_line m.lines = h.lines ∙ n in cc);
      many = h.many;
      text = l ∙ (h.text ∙ ap (λ (w : List ℕ). sets w 0 t.text) o);
      inside = omega (arith, h.inside, ap length o);
    }

-- so for the function that is lent no run
pub turned_taken : (m : Machine) {t : Turn} {part edges levels entries old new : List ℕ} (r : Moved) (number : ℕ) → MovedBy t r edges levels entries old new → number ≡ next_line m.lines
    → TakenBy (turned m t) (record { state = record { progress = r.progress; lines = number; held = 0 }; many = r.many }) part edges levels entries old new
unfolding turned
turned_taken m r number h n = record { machine = rw (h.stage, n) refl; many = h.many; text = h.text; inside = h.inside; held_fits = omega arith }

-- a step that does nothing
pub still : (r : Run) → Steps (record { machine = machine_of r; text = [] }) 0 r r
still r = record { machine = refl; many = refl; text = refl; inside = omega arith }
