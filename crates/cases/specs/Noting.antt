-- What callers see of an input beside its bytes: whether a fault was noted.
use Rattle.std.specs.Prelude.{Bool}
use Rattle.cases.specs.declared.source.Input.{Input}

-- the input has kept to the text form, as far as faults were noted
abbrev pub is_sound : {R : Type 0} → Input R → Bool
is_sound i = i.source.sound
