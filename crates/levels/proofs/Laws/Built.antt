-- From the marks back to the edge table: what is built and what is checked.
use Rattle.std.proofs.Common.{Result}
use Rattle.rules.specs.declared.Refusal.{Refusal}
use Prim.Native.Nat.{ℕ, ◌+◌, ◌*◌}
use mathlib.Core.Path.{◌≡◌, sym, ap, ◌∙◌}
use mathlib.Core.List.{List}
use native.Mathlib.Omega.{arith}
use lib.ListN.{length, drop}
use lib.Seq.{drop-drop}
use Rattle.rules.specs.Rule.{rule}
use Rattle.rules.specs.Levels.{max_of, level_of}
use Rattle.rules.specs.Outcomes.{front, told}
use Rattle.twins.specs.Marks.{Marked}
use Rattle.twins.specs.Standing.{Kept}
use Rattle.levels.specs.Needs.{Past, Stacked, Judged, LevelsBuilt, LevelsChecked}
use Rattle.levels.proofs.Laws.Same.{marked_levels, marked_level, marked_right}

module _ (n k : ℕ) (edges l w w' : List ℕ) (marked : Marked n edges w') (behind : drop (n * n) w' ≡ drop (n * n) w) (size : length w' ≡ length w) where
  past : (w'' : List ℕ) → Kept n w' w'' → Past n w w''
  past w'' kept =
      let far : (z : List ℕ) → drop (9 * (n * n)) z ≡ drop (8 * (n * n)) (drop (n * n) z) =
      λ z. ap (λ (m : ℕ). drop m z) (nine (n * n)) ∙ sym (drop-drop (8 * (n * n)) (n * n) z) in
      record { rest = kept.rest ∙ far w' ∙ ap (drop (8 * (n * n))) behind ∙ sym (far w); size = kept.size ∙ size }
    where
      nine : (m : ℕ) → 9 * m ≡ m + 8 * m
      nine m = omega arith

  pub levels_built : (r : ℕ) (l' w'' : List ℕ) → Stacked n k l w' r l' w'' → LevelsBuilt n k edges l w r l' w''
  levels_built r l' w'' s =
      record {
        count = λ labels few fit. s.count ∙ ap max_of (marked_level n labels edges w' few fit marked rule k);
        written = λ labels few fit. s.written ∙ ap (λ (b : List ℕ). front b l) (marked_levels n labels edges w' few fit marked rule k);
        past = past w'' s.kept;
      }

  pub levels_checked : (r : Result Unit Refusal) (w'' : List ℕ) → Judged n k l w' r w'' → LevelsChecked n k edges l w r w''
  levels_checked r w'' j =
      record {
        verdict = λ labels few fit. j.verdict ∙ ap told (marked_right n labels edges w' few fit marked rule k (level_of n l));
        past = past w'' j.kept;
      }
