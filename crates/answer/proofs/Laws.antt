-- The machine behind a piece of the input, and behind all reads.
use Rattle.std.proofs.Common.{ℕ, ◌≡◌, ap, List}
use Rattle.machine.specs.Machine.{Fed, after}

pub machine_after : (f g : Fed) (text : List ℕ) → f ≡ after text g → f.machine ≡ g.machine
unfolding after
machine_after f g text e = ap (λ (h : Fed). h.machine) e
