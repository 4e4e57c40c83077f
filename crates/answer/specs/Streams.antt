-- What the reads take from a reader, and what the writes add to a writer, where the bytes of these are known.
use Rattle.std.specs.Prelude.{ℕ, ◌-◌, ◌^◌, ◌<◌, ◌≡◌, List, false, length}
use Rattle.std.specs.Io.KnownBytes.{Appends, Consumes, IsAtEnd}
use Rattle.std.specs.declared.option.Option.{Option}
use Rattle.machine.specs.Machine.{is_stopped, Machine, feed, finish}

-- the machine behind the bytes that were read, from its start on, and what it printed for them; the run has stopped or the reader is at its end, unless the input
-- is too long for the turns
pub record Moves (left left' held held' : Option (List ℕ)) (start m : Machine) : Type 0 where
  pub bytes : List ℕ
  pub read : Consumes left left' bytes
  pub fed : m ≡ (feed start bytes).machine
  pub written : Appends held held' (feed start bytes).text
  pub over : length bytes < 2 ^ 64 - 1 → is_stopped m.stage ≡ false → IsAtEnd left'

-- the run up to its last text
pub record Runs (left left' held held' : Option (List ℕ)) (start : Machine) (last : List ℕ) : Type 0 where
  pub bytes : List ℕ
  pub read : Consumes left left' bytes
  pub written : Appends held held' (feed start bytes).text
  pub ends : last ≡ finish (feed start bytes).machine
  pub over : length bytes < 2 ^ 64 - 1 → is_stopped (feed start bytes).machine.stage ≡ false → IsAtEnd left'
