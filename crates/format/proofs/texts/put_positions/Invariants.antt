-- The first i positions are written, and nothing else.
use Rattle.std.proofs.Common.{◌≡◌, [], length, take}
use lib.Seq.{sets}
use Rattle.format.specs.Texts.{positions}
use Rattle.format.proofs.texts.put_positions.Given as goal

abbrev pub invariant-loop-i : goal.invariant-loop-i
invariant-loop-i l = (l.out ≡ sets l.initial.out l.at (positions (take l.i l.list) [])) × (length l.out ≡ length l.initial.out)
