-- Connected within i, by the numbers of the level below and one step more.
use Prim.Native.Nat.{ℕ, zero, suc, ◌-◌, ◌<◌}
use mathlib.Core.Path.{◌≡◌, refl, sym, ◌∙◌}
use mathlib.Core.Logic.{⊎_elim}
use mathlib.Core.List.{List}
use mathlib.Core.Bool.{Bool, true, false, not, ◌&&◌}
use native.Mathlib.Nat.{eq-zero-or-pos}
use native.Mathlib.Numerals.{add-one}
use native.Mathlib.Omega.{arith}
use lib.Dec.{eqb}
use borrow.Author.Tests.{ne_eqb, eqb-false, not-true}
use Rattle.rules.specs.Finite.{any_below}
use Rattle.rules.specs.Graph.{connected}
use Rattle.rules.specs.Rule.{rule}
use Rattle.rules.specs.Levels.{number_at, level_of}
use Rattle.rules.specs.Accept.{LevelAccepted, LevelsAccepted}
use Rattle.rules.proofs.Laws.Tests.{and_left, and_right, same}
use Rattle.rules.proofs.Laws.Finite.{any_find, any_here}
use Rattle.rules.proofs.Laws.Graph.{conn_refl, conn_cases, conn_join, conn_one}
use Rattle.rules.proofs.Laws.Accepted.{accepted_at, connected_number, number_connected}
use Rattle.twins.specs.Marks.{marked_graph, one_if}

-- the level below connects v and m, and m is u or next to it
unfoldable pub reach : ℕ → List ℕ → List ℕ → ℕ → ℕ → ℕ → ℕ → Bool
reach n levels area j v u m = not (eqb (number_at n (level_of n levels j) v m) 0) && connected (marked_graph n area) 1 m u

module _ (n : ℕ) (levels area : List ℕ) (j v u m : ℕ) where
  pub reach_yes : {a : ℕ} {b : Bool} → a ≡ number_at n (level_of n levels j) v m → (a ≡ 0 → ⊥) → b ≡ connected (marked_graph n area) 1 m u → b ≡ true
      → reach n levels area j v u m ≡ true
  unfolding reach
  reach_yes e k f t = rw (ne_eqb (number_at n (level_of n levels j) v m) 0 (λ z. k (e ∙ z))) (sym f ∙ t)

pub reach_suc : (n : ℕ) (levels area : List ℕ) (j v u : ℕ) → v < n → u < n → LevelAccepted rule (marked_graph n area) (suc j) (level_of n levels)
    → any_below n (reach n levels area (suc j) v u) ≡ connected (marked_graph n area) (suc (suc j)) v u
unfolding reach
reach_suc n levels area j v u hv hu ok =
    let g = marked_graph n area in
    let T = level_of n levels in
    same (any_below n (reach n levels area (suc j) v u)) (connected g (suc (suc j)) v u)
    (λ t.
    let r = any_find n (reach n levels area (suc j) v u) t in
    let m = r.0 in
    let a = not (eqb (number_at n (T (suc j)) v m) 0) in
    let b = connected g 1 m u in
    let k = eqb-false (number_at n (T (suc j)) v m) 0 (not-true (eqb (number_at n (T (suc j)) v m) 0) (and_left a b r.2)) in
    let l = number_connected rule g (suc j) T ok v m hv r.1 (⊎_elim (λ z. absurd (k z)) (λ p. p) (eq-zero-or-pos (number_at n (T (suc j)) v m))) in
    rw (add-one (suc j)) at (conn_join g (suc j) 1 v m u l (and_right a b r.2)))
    (λ t. ⊎_elim
    (λ e. any_here n (reach n levels area (suc j) v u) u hu (step v u hv hu e (conn_refl g 1 u)))
    (λ r. any_here n (reach n levels area (suc j) v u) r.0 r.1 (step v r.0 hv r.1 r.2 (conn_one g r.0 u r.1 r.3)))
    (conn_cases g (suc j) v u t))
  where
    step : (v m : ℕ) → v < n → m < n → connected (marked_graph n area) (suc j) v m ≡ true → connected (marked_graph n area) 1 m u ≡ true
        → reach n levels area (suc j) v u m ≡ true
    step v m hv hm e f =
        reach_yes n levels area (suc j) v u m refl (λ z. omega (arith, connected_number rule (marked_graph n area) (suc j) (level_of n levels) ok v m hv hm e)) refl f

-- what the search over the items answers
pub reach_is : (n : ℕ) (levels area : List ℕ) (i v u : ℕ) → 0 < i → (i ≡ 1 → ⊥) → v < n → u < n → LevelsAccepted rule (marked_graph n area) (i - 1) (level_of n levels)
    → any_below n (reach n levels area (i - 1) v u) ≡ connected (marked_graph n area) i v u
reach_is n levels area zero v u p k hv hu ok = absurd (omega arith)
reach_is n levels area (suc zero) v u p k hv hu ok = absurd (k refl)
reach_is n levels area (suc (suc j)) v u p k hv hu ok =
    let e : suc (suc j) - 1 ≡ suc j = omega arith in
    rw e (reach_suc n levels area j v u hv hu (accepted_at rule (marked_graph n area) (suc j) (level_of n levels) (rw e at ok) (suc j) (omega arith) (omega arith)))

-- what a position's byte says
one_set : (b : Bool) → (one_if b ≡ 0 → ⊥) → b ≡ true
unfolding one_if
one_set true k = refl
one_set false k = absurd (k refl)

one_clear : (b : Bool) → one_if b ≡ 0 → b ≡ false
unfolding one_if
one_clear true k = absurd (omega arith)
one_clear false k = refl

pub byte_set : {x : ℕ} (b : Bool) → x ≡ one_if b → (x ≡ 0 → ⊥) → b ≡ true
byte_set b e k = one_set b (λ z. k (e ∙ z))

pub byte_clear : {x : ℕ} (b : Bool) → x ≡ one_if b → x ≡ 0 → b ≡ false
byte_clear b e z = one_clear b (sym e ∙ z)
