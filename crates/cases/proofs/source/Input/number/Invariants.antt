-- No digit notes a fault.
use Rattle.std.proofs.Common.{◌≡◌}
use Rattle.cases.specs.Noting.{is_sound}
use Rattle.cases.proofs.source.Input.number.Given as goal

abbrev pub invariant-loop : goal.invariant-loop
invariant-loop g l = is_sound l.self ≡ is_sound l.fn.self
