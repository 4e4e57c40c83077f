-- What the reads come to. No contract can say which bytes stand in the input: these speak of the bytes that the reads handed over.
use Rattle.std.specs.Prelude.{ℕ, ◌≤◌, ◌≡◌, List, Bool, false, not, cond, eqb, length, take}
use Rattle.machine.specs.Machine.{Stage, is_stopped, Machine, feed}

-- whether there is more to read behind a read: not where it handed over nothing, nor once the run has stopped
unfoldable pub goes_on : ℕ → Stage → Bool
goes_on got s = cond (eqb got 0) false (not (is_stopped s))

-- one read: the machine goes on by the bytes that stand at the front of the buffer
pub record Reads (old new : Machine) (got : ℕ) (buffer : List ℕ) : Type 0 where
  pub inside : got ≤ length buffer
  pub fed : new ≡ (feed old (take got buffer)).machine
