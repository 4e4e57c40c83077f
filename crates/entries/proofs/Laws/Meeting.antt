-- One entry more behind those that were compared with a stored list.
use Prim.Native.Nat.{ℕ, zero, suc, ◌+◌, ◌*◌, ◌≤◌, ◌<◌}
use mathlib.Core.Path.{◌≡◌, sym, ◌∙◌}
use mathlib.Core.List.{List, [], ◌∷◌, ◌++◌}
use native.Mathlib.Nat.{not-suc-le-zero}
use native.Mathlib.Omega.{arith}
use lib.ListN.{length, get_or}
use Rattle.rules.specs.Accept.{difference}
use Rattle.sorting.proofs.Laws.Difference.{met_off, met_on, met_right}

module _ (s : List ℕ) (m k a b : ℕ) (p : List ℕ) (lp : length p ≡ 2 * k) (em : m ≡ difference p s) where
  pub meet_off : (m ≡ 2 * k → ⊥) → m ≡ difference (p ++ (a ∷ (b ∷ []))) s
  meet_off h = met_off p s m (2 * k) lp em (a ∷ (b ∷ [])) h

  room : m ≡ 2 * k → 2 * k ≤ length s
  room h = omega (arith, met_right p s m (2 * k) lp em)

  here : m ≡ 2 * k → (2 * k < length s → get_or s (2 * k) 0 ≡ a → ⊥) → 2 * k ≡ difference (p ++ (a ∷ (b ∷ []))) s
  here h stops =
      let z : 2 * k + 0 ≡ 2 * k = omega arith in
      sym z ∙ met_on p s m (2 * k) lp em (a ∷ (b ∷ [])) 0 h (omega arith) (omega (arith, room h)) (λ j l. absurd (not-suc-le-zero l))
      (λ l q e. stops (omega arith) (rw z at (sym e)))

  pub meet_short : m ≡ 2 * k → length s ≤ 2 * k → 2 * k ≡ difference (p ++ (a ∷ (b ∷ []))) s
  meet_short h l = here h (λ q. absurd (no q))
    where
      no : 2 * k < length s → ⊥
      no q = omega arith

  pub meet_code : m ≡ 2 * k → (get_or s (2 * k) 0 ≡ a → ⊥) → 2 * k ≡ difference (p ++ (a ∷ (b ∷ []))) s
  meet_code h n = here h (λ q. n)

  first : (j : ℕ) → j < 1 → get_or s (2 * k) 0 ≡ a → get_or {A = ℕ} (a ∷ (b ∷ [])) j 0 ≡ get_or s (2 * k + j) 0
  first zero l e = let z : 2 * k + 0 ≡ 2 * k = omega arith in rw z (sym e)
  first (suc j) l e = absurd (no l)
    where
      no : suc j < 1 → ⊥
      no q = omega arith

  next : m ≡ 2 * k → 2 * k < length s → get_or s (2 * k) 0 ≡ a → (2 * k + 1 < length s → get_or s (2 * k + 1) 0 ≡ b → ⊥) → 2 * k + 1 ≡ difference (p ++ (a ∷ (b ∷ []))) s
  next h l e stops =
      met_on p s m (2 * k) lp em (a ∷ (b ∷ [])) 1 h (omega arith) (omega arith) (λ j q. first j q e) (λ q z x. stops z (sym x))

  pub meet_odd : m ≡ 2 * k → 2 * k < length s → get_or s (2 * k) 0 ≡ a → length s ≤ 2 * k + 1 → 2 * k + 1 ≡ difference (p ++ (a ∷ (b ∷ []))) s
  meet_odd h l e z = next h l e (λ q. absurd (no q))
    where
      no : 2 * k + 1 < length s → ⊥
      no q = omega arith

  pub meet_class : m ≡ 2 * k → 2 * k < length s → get_or s (2 * k) 0 ≡ a → (get_or s (2 * k + 1) 0 ≡ b → ⊥) → 2 * k + 1 ≡ difference (p ++ (a ∷ (b ∷ []))) s
  meet_class h l e n = next h l e (λ q. n)

  pub meet_all : m ≡ 2 * k → 2 * k < length s → get_or s (2 * k) 0 ≡ a → 2 * k + 1 < length s → get_or s (2 * k + 1) 0 ≡ b → 2 * k + 2 ≡ difference (p ++ (a ∷ (b ∷ []))) s
  meet_all h l e z n =
      met_on p s m (2 * k) lp em (a ∷ (b ∷ [])) 2 h (omega arith) (omega arith) both (λ q x y. absurd (no q))
    where
      no : 2 < length (a ∷ (b ∷ [])) → ⊥
      no q = omega arith

      both : (j : ℕ) → j < 2 → get_or {A = ℕ} (a ∷ (b ∷ [])) j 0 ≡ get_or s (2 * k + j) 0
      both zero q = first zero (omega arith) e
      both (suc zero) q = sym n
      both (suc (suc j)) q = absurd (omega arith)
