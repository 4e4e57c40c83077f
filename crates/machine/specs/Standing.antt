-- What the code's run stands for, and what the contracts say of a turn and of a step of the machine.
use Rattle.std.specs.Prelude.{ℕ, ◌*◌, ◌≤◌, ◌≡◌, List, length, take}
use Rattle.std.proofs.lemmas.List.Edits.{sets}
use Rattle.rules.specs.Levels.{level_of}
use Rattle.machine.specs.declared.Progress.{Progress}
use Rattle.machine.specs.declared.Progress.TheVariants.{Opening, Gathering, Answering, Stopped}
use Rattle.machine.specs.declared.Moved.{Moved}
use Rattle.machine.specs.declared.State.{State}
use Rattle.machine.specs.declared.Taken.{Taken}
use Rattle.machine.specs.declared.Run.{Run}
use Rattle.machine.specs.Machine.{Stage, opening, gathering, answering, stopped, Turn, Machine, Fed}

-- the stage that the code's progress and lists stand for: the edges so far, the level-k table and the entries are parts of the lists
unfoldable pub stage_by : Progress → List ℕ → List ℕ → List ℕ → Stage
stage_by Opening edges levels entries = opening
stage_by (Gathering g) edges levels entries = gathering g.sizes.items g.sizes.labels g.sizes.k (take (3 * g.edges) edges)
stage_by (Answering t) edges levels entries = answering t.sizes.items t.sizes.labels (level_of t.sizes.items levels t.sizes.k) (take t.entries entries)
stage_by Stopped edges levels entries = stopped

abbrev pub stage_of : Run → Stage
stage_of r = stage_by r.progress r.edges r.levels r.entries

-- the line in hand
abbrev pub line_of : Run → List ℕ
line_of r = take r.held r.part

-- the machine that the code's run stands for
abbrev pub machine_of : Run → Machine
machine_of r = record { stage = stage_of r; lines = r.lines; part = line_of r }

-- the same of a state and lists
abbrev pub machine_by : State → List ℕ → List ℕ → List ℕ → List ℕ → Machine
machine_by s part edges levels entries = record { stage = stage_by s.progress edges levels entries; lines = s.lines; part = take s.held part }

-- the code's r is the turn t: the stage, and its text at the front of the output
pub record MovedBy (t : Turn) (r : Moved) (edges levels entries old new : List ℕ) : Type 0 where
  pub stage : stage_by r.progress edges levels entries ≡ t.stage
  pub many : r.many ≡ length t.text
  pub text : new ≡ sets old 0 t.text
  pub inside : r.many ≤ length old

-- the code's r is the step f: the machine, and its text at the front of the output
pub record TakenBy (f : Fed) (r : Taken) (part edges levels entries old new : List ℕ) : Type 0 where
  pub machine : machine_by r.state part edges levels entries ≡ f.machine
  pub many : r.many ≡ length f.text
  pub text : new ≡ sets old 0 f.text
  pub inside : r.many ≤ length old
  pub held_fits : r.state.held ≤ 512

-- a turn's stage was come to, and so many bytes at the front of the output are its text; the lines and the line in hand are as they were
pub record Comes (t : Turn) (told : ℕ) (old new : Run) : Type 0 where
  pub stage : stage_of new ≡ t.stage
  pub many : told ≡ length t.text
  pub text : new.out ≡ sets old.out 0 t.text
  pub inside : told ≤ length old.out
  pub lines : new.lines ≡ old.lines
  pub line : line_of new ≡ line_of old

-- a step's machine was come to, and so many bytes at the front of the output are its text
pub record Steps (f : Fed) (told : ℕ) (old new : Run) : Type 0 where
  pub machine : machine_of new ≡ f.machine
  pub many : told ≡ length f.text
  pub text : new.out ≡ sets old.out 0 f.text
  pub inside : told ≤ length old.out

-- the edges, the levels and the entries are as they were, used or not
pub record SameLists (old new : Run) : Type 0 where
  pub edges : new.edges ≡ old.edges
  pub levels : new.levels ≡ old.levels
  pub entries : new.entries ≡ old.entries

-- the room of the line in hand is as it was, and as much of it is held
pub record SameLine (old new : Run) : Type 0 where
  pub part : new.part ≡ old.part
  pub held : new.held ≡ old.held
