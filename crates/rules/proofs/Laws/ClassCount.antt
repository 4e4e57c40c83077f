-- In a table whose numbers are each at most one above the largest before, the largest number is the number of first pairs.
use Prim.Native.Nat.{ℕ, zero, suc, ◌≤◌, ◌<◌}
use mathlib.Core.Path.{◌≡◌, refl, sym, ap, ◌∙◌}
use mathlib.Core.Logic.{⊎_elim}
use mathlib.Core.List.{List}
use native.Mathlib.Omega.{arith}
use lib.ListN.{length, get_or, take}
use lib.Seq.{take_all}
use Rattle.rules.specs.Finite.{count_below}
use Rattle.rules.specs.Levels.{max_of}
use Rattle.rules.specs.Stored.{leader}
use Rattle.rules.proofs.Laws.Tests.{order}
use Rattle.rules.proofs.Laws.Listing.{count_skip, count_add}
use Rattle.rules.proofs.Laws.Dense.{max_more, new_leader, old_leader}

module _ (t : List ℕ) (next : (p : ℕ) → p < length t → get_or t p 0 ≤ suc (max_of (take p t))) where
  -- the largest number is the number of first pairs
  counted : (m : ℕ) → m ≤ length t → count_below m (leader (length t) t) ≡ max_of (take m t)
  counted zero h = start t
    where
      start : (t : List ℕ) → count_below 0 (leader (length t) t) ≡ max_of (take 0 t)
      start t = unfold count_below max_of in refl
  counted (suc m) h =
      ⊎_elim
      (λ (l : max_of (take m t) < get_or t m 0).
      count_add (leader (length t) t) m (new_leader t next m h l) ∙ omega (arith, counted m (omega arith), max_more t next m h, next m h))
      (λ (l : get_or t m 0 ≤ max_of (take m t)).
      count_skip (leader (length t) t) m (old_leader t next m h l) ∙ omega (arith, counted m (omega arith), max_more t next m h))
      (order (max_of (take m t)) (get_or t m 0))

  pub classes_counted : max_of t ≡ count_below (length t) (leader (length t) t)
  classes_counted = sym (counted (length t) (omega arith) ∙ ap max_of (take_all (length t) t (omega arith)))
