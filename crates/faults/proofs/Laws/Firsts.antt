-- The first positions of the numbers of a level, kept in the area while it is checked.
use Prim.Native.Nat.{ℕ, zero, suc, ◌+◌, ◌*◌, ◌-◌, ◌≤◌, ◌<◌}
use mathlib.Core.Path.{◌≡◌, refl, sym, ap, ◌∙◌}
use mathlib.Core.Logic.{◌⊎◌, inl, inr, ⊎_elim}
use mathlib.Core.List.{List}
use mathlib.Core.Bool.{true}
use native.Mathlib.Omega.{arith}
use lib.Dec.{eqb}
use lib.ListN.{length, get_or, take}
use lib.Seq.{get_or-take}
use borrow.Author.Tests.{ne_eqb, eq-eqb}
use Rattle.rules.specs.Graph.{Graph}
use Rattle.rules.specs.Rule.{Rule}
use Rattle.rules.specs.Levels.{level_of, first_of, max_of, connected_at, agree_at}
use Rattle.rules.specs.Accept.{level_ok}
use Rattle.rules.proofs.Laws.Tests.{order}
use Rattle.rules.proofs.Laws.Finite.{none_any}
use Rattle.rules.proofs.Laws.Builder.{at_refl}
use Rattle.rules.proofs.Laws.Numbering.{max_bounds}
use Rattle.twins.specs.Chains.{word, set_word}
use Rattle.numbering.specs.Needs.{Steady}
use Rattle.faults.specs.Needs.{Firsts, Noted}
use Rattle.packing.proofs.Laws.Words.{length_word, word_same, word_below, take_word, drop_word}
use Rattle.faults.proofs.Laws.Right.{has_number, first_self, right_high, right_agree}
use Rattle.numbering.proofs.Laws.Taken.{steady_refl}

-- a number above all before it stands at p first
pub new_first : (n : ℕ) (t : List ℕ) (p c : ℕ) → p < n * n → c ≡ get_or t p 0 → max_of (take p t) < c → first_of (n * n) t c ≡ p
unfolding has_number
new_first n t p c hp ec h =
    rw ec
    (sym (first_self n t p hp
    (none_any p (has_number t (get_or t p 0))
    (λ q l. ne_eqb (get_or t q 0) (get_or t p 0) (λ e. omega (arith, sym (get_or-take p t q 0 l), max_bounds (take p t) q, ec))))))

-- is_right of a new number
pub right_new : (ρ : Rule) (g : Graph) (i : ℕ) (T : ℕ → List ℕ) (p : ℕ) {c top : ℕ} → c ≡ get_or (T i) p 0 → p < g.items * g.items → connected_at g i p ≡ true
    → (c ≡ 0 → ⊥) → top ≡ max_of (take p (T i)) → top < c → eqb c (top + 1) ≡ level_ok ρ g i T p
right_new ρ g i T p {c} {top} ec hp cp k m l =
    ⊎_elim
    (λ (h : top + 1 < c). ne_eqb c (top + 1) (λ e. omega arith) ∙ right_high ρ g i T p ec cp k (omega (arith, m)))
    (λ (h : c ≤ top + 1). eq-eqb c (top + 1) (omega arith)
    ∙ right_agree ρ g i T p ec cp k (omega (arith, m))
    (sym (ap (agree_at ρ g i T p) (ap (first_of (g.items * g.items) (T i)) (sym ec) ∙ new_first g.items (T i) p c hp ec (omega (arith, m))) ∙ at_refl ρ g i T p)))
    (order (top + 1) c)

-- the place of a number that has stood before
pub first_read : (n i : ℕ) (levels area : List ℕ) (top : ℕ) → Firsts n i levels area top → (c : ℕ) → (c ≡ 0 → ⊥) → c ≤ top → {q : ℕ}
    → q ≡ word area (2 * (n * n) + 2 * (c - 1)) → q ≡ first_of (n * n) (level_of n levels i) c
first_read n i levels area top fs zero k h e = absurd (k refl)
first_read n i levels area top fs (suc c) k h {q} e =
    let s : suc c - 1 ≡ c = omega arith in
    e ∙ rw s (fs.first_at c (omega arith))

pub firsts_start : (n i : ℕ) (levels area : List ℕ) → Firsts n i levels area 0
firsts_start n i levels area = record { first_at = λ k h. absurd (omega arith) }

module _ (n : ℕ) (area : List ℕ) (p c top r : ℕ) (area' : List ℕ) (noted : Noted n area p c top r area') (room : 9 * (n * n) ≤ length area) (hp : p < n * n) (small : top ≤ p) where
  pub note_steady : Steady n area area'
  note_steady =
      ⊎_elim
      (λ (l : top < c). rw (noted.new l)
      (record {
        front = take_word area (2 * (n * n) + 2 * top) p (2 * (n * n)) (omega arith);
        rest = drop_word area (2 * (n * n) + 2 * top) p (6 * (n * n)) (omega arith);
        size = length_word area (2 * (n * n) + 2 * top) p;
      }))
      (λ (g : c ≤ top). rw (noted.old g) (steady_refl n area))
      (order top c)

  pub note_firsts : (i : ℕ) (levels : List ℕ) → Firsts n i levels area top → c ≡ get_or (level_of n levels i) p 0 → c ≤ suc top → top ≡ max_of (take p (level_of n levels i))
      → Firsts n i levels area' r
  note_firsts i levels fs ec h m = record { first_at = λ k l. at k l (order top c) }
    where
      at : (k : ℕ) → k < r → (top < c) ⊎ (c ≤ top) → word area' (2 * (n * n) + 2 * k) ≡ first_of (n * n) (level_of n levels i) (suc k)
      at k l (inr g) =
          ap (λ (z : List ℕ). word z (2 * (n * n) + 2 * k)) (noted.old g) ∙ fs.first_at k (omega (arith, noted.largest))
      at k l (inl g) =
          ap (λ (z : List ℕ). word z (2 * (n * n) + 2 * k)) (noted.new g)
          ∙ ⊎_elim
          (λ (b : k < top). word_below area (2 * (n * n) + 2 * top) p (2 * (n * n) + 2 * k) (omega arith) ∙ fs.first_at k b)
          (λ (b : top ≤ k).
          let kt : k ≡ top = omega (arith, noted.largest) in
          let ct : c ≡ suc k = omega (arith, noted.largest) in
          ap (λ (z : ℕ). word (set_word area (2 * (n * n) + 2 * top) p) (2 * (n * n) + 2 * z)) kt
          ∙ word_same area (2 * (n * n) + 2 * top) p (omega arith)
          ∙ sym (ap (first_of (n * n) (level_of n levels i)) (sym ct) ∙ new_first n (level_of n levels i) p c hp ec (omega (arith, m))))
          (order k top)
