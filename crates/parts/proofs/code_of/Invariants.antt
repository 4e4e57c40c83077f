-- The invariant: the code so far, gone on with the symbols that are left, is the code of all; four symbols keep it below 2^32.
use Rattle.std.proofs.Common.{◌≡◌, ◌+◌, ◌*◌, ◌^◌, ◌≤◌, drop}
use Rattle.rules.specs.Lists.{code_from}
use Rattle.parts.proofs.code_of.Given as goal

abbrev pub invariant-loop-symbol : goal.invariant-loop-symbol
invariant-loop-symbol l = (code_from l.code (drop l.symbol-index l.symbols) ≡ code_from 0 l.symbols) × (l.code + 16 ≤ 256 * 17 ^ l.symbol-index)
