-- The turns of the run, by the tests of the code.
use Prim.Native.Nat.{ℕ, ◌*◌, ◌≤◌, ◌<◌}
use mathlib.Core.Path.{◌≡◌, refl}
use mathlib.Core.List.{List}
use native.Mathlib.Omega.{arith}
use borrow.Author.Tests.{lt-leb, le-ltb}
use lib.ListN.{length, take}
use lib.Seq.{length-take-le}
use Rattle.machine.specs.declared.Gathered.{Gathered}
use Rattle.machine.specs.declared.Progress.{Progress}
use Rattle.machine.specs.declared.Progress.TheVariants.{Opening, Gathering, Answering, Stopped}
use Rattle.machine.specs.declared.Moved.{Moved}
use Rattle.machine.specs.declared.Run.{Run}
use Rattle.machine.specs.Machine.{Turn, on_sizes, on_edge}
use Rattle.machine.specs.Standing.{stage_by, line_of, MovedBy, Comes}

-- the turn is another's
pub moved_as : {t u : Turn} {r : Moved} {edges levels entries old new : List ℕ} → u ≡ t → MovedBy t r edges levels entries old new → MovedBy u r edges levels entries old new
moved_as e h = rw e h

pub comes_as : {t u : Turn} {many : ℕ} {old new : Run} → u ≡ t → Comes t many old new → Comes u many old new
comes_as e h = rw e h

-- the run comes to what it lent its output for
pub comes_by : {t : Turn} {r : Moved} (old new : Run) → MovedBy t r new.edges new.levels new.entries old.out new.out → new.progress ≡ r.progress → new.lines ≡ old.lines
    → line_of new ≡ line_of old → Comes t r.many old new
comes_by old new h p l i = record { stage = rw p h.stage; many = h.many; text = h.text; inside = h.inside; lines = l; line = i }

-- a frame that comes where it may not is a bad frame
pub sizes_bad : (bad : Turn) (items labels k : ℕ) (p : Progress) (edges levels entries : List ℕ) → (p ≡ Opening → 32 < items) → on_sizes bad items labels k (stage_by p edges levels entries) ≡ bad
unfolding on_sizes stage_by
sizes_bad bad items labels k Opening edges levels entries h = rw (lt-leb items 32 (h refl))
sizes_bad bad items labels k (Gathering g) edges levels entries h = refl
sizes_bad bad items labels k (Answering t) edges levels entries h = refl
sizes_bad bad items labels k Stopped edges levels entries h = refl

pub edge_bad : (bad : Turn) (source target label : ℕ) (p : Progress) (edges levels entries : List ℕ) → length edges ≡ 3072 → ((g : Gathered) → p ≡ Gathering g → 1024 ≤ g.edges)
    → on_edge bad source target label (stage_by p edges levels entries) ≡ bad
unfolding on_edge stage_by
edge_bad bad source target label Opening edges levels entries n h = refl
edge_bad bad source target label (Gathering g) edges levels entries n h =
    rw (le-ltb (length (take (3 * g.edges) edges)) 3072 (omega (arith, h g refl, g.few_edges, length-take-le (3 * g.edges) edges (omega (arith, g.few_edges)))))
edge_bad bad source target label (Answering t) edges levels entries n h = refl
edge_bad bad source target label Stopped edges levels entries n h = refl
