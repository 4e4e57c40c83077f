-- The bounds of a lookup lie in the entry list (`lookup_part`), so the part can be handed over.
use Rattle.parts.proofs.Laws.Parts.{lookup_part}
use mathlib.Core.Path.{◌∙◌, ap}
use Rattle.rules.specs.Outcomes.{part_of}
use Rattle.parts.proofs.lookup.Goals as goal

pub part_of-requires : goal.part_of-requires
part_of-requires c = lookup_part _ _ _ c.lookup_bounds-bounds.ensures.bounds

pub returns : goal.returns
returns c = record { numbers = c.part_of.ensures ∙ ap (part_of _) c.lookup_bounds-bounds.ensures.bounds }
