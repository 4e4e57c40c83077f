-- Lookup in a list of fewer than 2³² numbers: the bounds handed over are the bounds themselves.
use Rattle.std.proofs.Common.{Result}
use Rattle.rules.specs.declared.Part.{Part}
use Rattle.rules.specs.declared.Refusal.{Refusal}
use Prim.Native.Nat.{ℕ, ◌<◌, ◌^◌}
use mathlib.Core.Path.{◌≡◌, refl, ap, ◌∙◌}
use mathlib.Core.List.{List}
use lib.ListN.{length}
use Rattle.rules.specs.Numbers.{of_bounds}
use Rattle.rules.specs.Outcomes.{lookup_bounds}
use Rattle.parts.proofs.Laws.Parts.{lookup_part}
use Rattle.abi.specs.declared.KvResult.{KvResult}
use Rattle.abi.specs.Handed.{handed, HandsRun}
use Rattle.abi.proofs.Laws.Narrowing.{inside_narrowed}

pub lookup_exact : (symbols entries : List ℕ) (r : KvResult) → length entries < 2 ^ 32 → HandsRun symbols entries r → r ≡ handed (of_bounds (lookup_bounds symbols entries))
lookup_exact symbols entries r short p =
    p.result ∙ ap (λ (b : Result Part Refusal). handed (of_bounds b)) (inside_narrowed (lookup_bounds symbols entries) entries short (lookup_part symbols entries (lookup_bounds symbols entries) refl))
