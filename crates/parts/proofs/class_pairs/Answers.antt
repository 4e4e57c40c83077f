-- The bounds of a class lie in the order list (`class_part`), so the part can be handed over.
use Rattle.parts.proofs.Laws.Parts.{class_part}
use mathlib.Core.Path.{◌∙◌, ap}
use Rattle.rules.specs.Outcomes.{part_of}
use Rattle.parts.proofs.class_pairs.Goals as goal

pub part_of-requires : goal.part_of-requires
part_of-requires c = class_part _ _ _ _ c.class_bounds-bounds.ensures.bounds

pub returns : goal.returns
returns c = record { numbers = c.part_of.ensures ∙ ap (part_of _) c.class_bounds-bounds.ensures.bounds }
