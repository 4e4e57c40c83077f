-- A level that is being written: the levels below stay, and so does what is alike.
use Prim.Native.Nat.{ℕ, pred, ◌+◌, ◌*◌, ◌-◌, ◌/◌, ◌%◌, ◌≤◌, ◌<◌, max}
use mathlib.Core.Path.{◌≡◌, refl, sym, ap, ◌∙◌, fun_ext}
use mathlib.Core.List.{List, [], ◌∷◌, ◌++◌}
use native.Mathlib.Nat.{mul-le-mul_right}
use native.Mathlib.Omega.{arith}
use lib.ListN.{length, get_or, take, drop, set}
use lib.Seq.{take-append-le, take-take, length-take-le, get_or-take, get_or-drop}
use Rattle.rules.specs.Rule.{rule}
use Rattle.rules.specs.Levels.{numbering, next_number, max_of, level_of, agree_at}
use Rattle.rules.specs.Writing.{put}
use Rattle.rules.proofs.Laws.Put.{put_more, put_read, length_put}
use Rattle.rules.proofs.Laws.Agree.{agree_below}
use Rattle.rules.proofs.Laws.Builder.{accepted_same}
use Rattle.rules.proofs.Laws.Numbering.{numbering_length}
use Rattle.twins.specs.Marks.{marked_graph}
use Rattle.twins.specs.Standing.{Ready, base, is_in, alike}
use Rattle.numbering.specs.Needs.{Begun}
use Rattle.twins.proofs.Laws.Tables.{base_next}
use Rattle.rules.proofs.Laws.Dense.{max_snoc}
use Rattle.rules.proofs.Laws.Lawful.{rule_laws}
use Rattle.numbering.proofs.Laws.Numbers.{numbering_more, next_le}

-- what is written behind stays out of the front
put_front : (l : List ℕ) (at : ℕ) (s : List ℕ) (m : ℕ) → m ≤ at → at ≤ length l → take m (put l at s) ≡ take m l
unfolding put
put_front l at s m h r =
    take-append-le m (take at l) (s ++ drop (at + length s) l) (omega (arith, length-take-le at l r)) ∙ take-take m at l h

pub level_kept : (n : ℕ) (l : List ℕ) (at : ℕ) (s : List ℕ) (j : ℕ) → j * (n * n) ≤ at → at ≤ length l → level_of n (put l at s) j ≡ level_of n l j
unfolding level_of
level_kept n l at s j h r = ap (drop (pred j * (n * n))) (put_front l at s (j * (n * n)) h r)

pub part_at : (l : List ℕ) (b p q : ℕ) → q < p → get_or (take p (drop b l)) q 0 ≡ get_or l (b + q) 0
part_at l b p q h = rw (get_or-take, get_or-drop)

module _ (n i : ℕ) (l area : List ℕ) (ready : Ready n i l area) where
  -- where level i begins and ends
  pub ends : base n i + n * n ≤ length l
  ends = omega (arith, base_next n i ready.some, ready.room)

  below_base : (j : ℕ) → j < i → j * (n * n) ≤ base n i
  below_base j h = mul-le-mul_right {m = j} {n = i - 1} (n * n) (omega arith)

  module _ (s : List ℕ) where
    -- what is alike at level i, after numbers are written there
    pub alike_kept : alike n i (put l (base n i) s) area ≡ alike n i l area
    unfolding agree_at
    alike_kept =
        fun_ext (λ p. fun_ext (λ q.
        agree_below rule rule_laws (marked_graph n area) i (level_of n (put l (base n i) s)) (level_of n l)
        (λ j h. level_kept n l (base n i) s j (below_base j h) (omega (arith, ends)))
        (p / n) (p % n) (q / n) (q % n)))

    pub ready_kept : base n i + length s ≤ length l → Ready n i (put l (base n i) s) area
    ready_kept h =
        record {
          few = ready.few;
          some = ready.some;
          short = ready.short;
          room = rw (length_put l (base n i) s h) ready.room;
          area_room = ready.area_room;
          below = accepted_same rule rule_laws (marked_graph n area) (i - 1) (level_of n l) (level_of n (put l (base n i) s))
              (λ j h. sym (level_kept n l (base n i) s j (below_base j (omega (arith, ready.some))) (omega (arith, ends)))) ready.below;
        }

  -- the numbers of the first p positions
  abbrev pub numbers : ℕ → List ℕ
  numbers p = numbering (is_in n i area) (alike n i l area) p

  pub length_numbers : (p : ℕ) → length (numbers p) ≡ p
  length_numbers p = numbering_length (is_in n i area) (alike n i l area) p

  module _ (p : ℕ) (l' : List ℕ) (e : l' ≡ put l (base n i) (numbers p)) (h : p ≤ n * n) where
    fits : base n i + length (numbers p) ≤ length l
    fits = omega (arith, length_numbers p, ends)

    pub same_size : length l' ≡ length l
    same_size = ap length e ∙ length_put l (base n i) (numbers p) fits

    pub still_ready : Ready n i l' area
    still_ready = rw e (ready_kept (numbers p) fits)

    pub same_below : (j : ℕ) → j < i → level_of n l' j ≡ level_of n l j
    same_below j b = rw e (level_kept n l (base n i) (numbers p) j (below_base j b) (omega (arith, ends)))

    pub same_alike : alike n i l' area ≡ alike n i l area
    same_alike = rw e (alike_kept (numbers p))

    pub stand : take p (drop (base n i) l') ≡ numbers p
    stand = rw e (put_read l (base n i) (numbers p) p (length_numbers p) (omega (arith, ends)))

    pub begun : (top : ℕ) → top ≡ max_of (numbers p) → top ≤ p → Begun n i l' area p top
    begun top m s = record { numbers = rw (stand, same_alike) refl; largest = rw stand m; small = s }

    module _ (k : ℕ) (q : k ≡ next_number (is_in n i area) (alike n i l' area) (take p (drop (base n i) l')) p) where
      next : k ≡ next_number (is_in n i area) (alike n i l area) (numbers p) p
      next = rw (same_alike, stand) at q

      more : numbers (p + 1) ≡ numbers p ++ (k ∷ [])
      more = numbering_more (is_in n i area) (alike n i l area) p ∙ ap (λ (z : ℕ). numbers p ++ (z ∷ [])) (sym next)

      pub write_next : p < n * n → set l' (base n i + p) k ≡ put l (base n i) (numbers (p + 1))
      write_next lt = rw (more, e) (put_more l (base n i) (numbers p) p k (length_numbers p) (omega (arith, ends)))

      pub max_next : (top : ℕ) → top ≡ max_of (numbers p) → max top k ≡ max_of (numbers (p + 1))
      max_next top m = rw (more, max_snoc, m) refl

      pub next_small : (top : ℕ) → top ≡ max_of (numbers p) → k ≤ top + 1
      next_small top m = rw (next, m) (next_le (is_in n i area) (alike n i l area) (numbers p) p)
