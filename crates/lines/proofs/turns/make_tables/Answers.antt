-- `lines::turns::make_tables` meets its contract: the lists that the call alone uses are zero.
use mathlib.Core.Path.{refl}
use Rattle.lines.specs.Lent.{call_of}
use Rattle.lines.proofs.turns.make_tables.Goals as goal

pub returns-clause-made : goal.returns-clause-made
unfolding call_of
returns-clause-made c = let h = c.build.ensures in record { result = h.result; levels_made = h.levels; entries_made = h.entries; out = refl; lines = refl; line = refl }
