-- The invariant: the halves of the first c splits are of the level below.
use Prim.Native.Nat.{ℕ, ◌-◌, ◌<◌}
use mathlib.Core.Path.{◌≡◌}
use Rattle.rules.specs.Rule.{rule}
use Rattle.levels.proofs.repeat.looks_below.Given as goal

abbrev pub invariant-loop-c : goal.invariant-loop-c
invariant-loop-c l = record {
  first : (d : ℕ) → d < l.c → rule.first l.i d ≡ l.i - 1;
  second : (d : ℕ) → d < l.c → rule.second l.i d ≡ l.i - 1;
}
