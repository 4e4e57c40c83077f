-- Lists written at the front of lent ones, and the cleared area.
use Prim.Native.Nat.{ℕ, ◌+◌, ◌*◌, ◌-◌, ◌≤◌}
use mathlib.Core.Path.{◌≡◌, refl, sym, ap, ◌∙◌}
use mathlib.Core.List.{List, ◌++◌}
use native.Mathlib.Omega.{arith}
use lib.ListN.{length, get_or, drop}
use lib.Seq.{get_or-drop}
use Rattle.rules.specs.Finite.{table_below}
use Rattle.rules.specs.Writing.{fill}
use Rattle.rules.specs.Outcomes.{front, zeroed}
use Rattle.rules.proofs.Laws.Listing.{table_length}
pub use Rattle.rules.proofs.Laws.Fronts.{front_in}
pub use Rattle.relations.proofs.Laws.Areas.{frame_trans}
use Rattle.relations.specs.Relations.{Frame}
use Rattle.area.proofs.Laws.Zeroed.{zeroed_again}

-- a change of fewer places
pub frame_wider : (lo hi hi' : ℕ) (a b : List ℕ) → hi ≤ hi' → Frame lo hi a b → Frame lo hi' a b
frame_wider lo hi hi' a b h p = record { size = p.size; low = p.low; high = λ j l. p.high j (omega arith) }

-- what lies past the front is as it was
pub past_frame : (n : ℕ) (a b : List ℕ) → length b ≡ length a → drop n b ≡ drop n a → Frame 0 n a b
past_frame n a b s e =
    record { size = s; low = λ j h. absurd (omega arith); high = λ j h. at j h }
  where
    at : (j : ℕ) → n ≤ j → get_or b j 0 ≡ get_or a j 0
    at j h =
        let q : j ≡ n + (j - n) = omega arith in
        ap (λ (i : ℕ). get_or b i 0) q ∙ sym (get_or-drop n b (j - n) 0) ∙ ap (λ (l : List ℕ). get_or l (j - n) 0) e
        ∙ get_or-drop n a (j - n) 0 ∙ ap (λ (i : ℕ). get_or a i 0) (sym q)

-- the area is cleared after work in its first 9·V² bytes
pub cleared : (n : ℕ) (a b : List ℕ) → Frame 0 (9 * (n * n)) a b → 9 * (n * n) ≤ length a → fill b 0 (9 * (n * n)) (λ _. 0) ≡ zeroed n a
cleared n a b f h = zeroed_again n a b (fill b 0 (9 * (n * n)) (λ _. 0)) h f.size f.high refl

-- what lies past the first 9·V² bytes decides the cleared area
pub zeroed_past : (n : ℕ) (a b : List ℕ) → drop (9 * (n * n)) b ≡ drop (9 * (n * n)) a → zeroed n b ≡ zeroed n a
unfolding zeroed front
zeroed_past n a b e =
    let zeros = table_below (9 * (n * n)) (λ _. 0) in
    let many : length zeros ≡ 9 * (n * n) = table_length (λ _. 0) (9 * (n * n)) in
    ap (λ (i : ℕ). zeros ++ drop i b) many ∙ ap (λ (l : List ℕ). zeros ++ l) e ∙ ap (λ (i : ℕ). zeros ++ drop i a) (sym many)
