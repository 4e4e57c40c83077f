-- Three ways: over four symbols, an unknown symbol with its place, or the run of the code.
use native.Mathlib.Omega.{arith}
use mathlib.Core.Path.{sym, ◌∙◌, ap}
use Rattle.rules.specs.Outcomes.{run_bounds}
use Rattle.parts.proofs.Laws.Parts.{lookup_long, lookup_unknown, lookup_known}
use Rattle.parts.proofs.lookup_bounds.Goals as goal

pub returns-then-symbols-gt4 : goal.returns-then-symbols-gt4
returns-then-symbols-gt4 c = record { bounds = lookup_long _ _ c.if-symbols-gt4.true }

pub returns-in-Some : goal.returns-in-Some
returns-in-Some c = record { bounds = lookup_unknown _ _ c.if-symbols-gt4.false _ c.in-Some.ensures.0 c.in-Some.ensures.1 }

pub returns : goal.returns
returns c =
    record {
      bounds = c.run_bounds.ensures
          ∙ ap (run_bounds _) c.code_of.ensures
          ∙ sym (lookup_known _ _ c.if-symbols-gt4.false (omega (arith, c.in_default.ensures)));
    }
