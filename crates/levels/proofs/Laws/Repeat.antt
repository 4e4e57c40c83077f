-- Above two equal levels: which pairs are connected and which agree, and so the numbers and what is right.
use Prim.Native.Nat.{ℕ, zero, suc, ◌+◌, ◌*◌, ◌-◌, ◌/◌, ◌%◌, ◌≤◌, ◌<◌}
use mathlib.Core.Path.{◌≡◌, refl, sym, ap, ap₂, ◌∙◌, fun_ext}
use mathlib.Core.Logic.{⊎_elim}
use mathlib.Core.List.{List, append_assoc}
use mathlib.Core.Bool.{Bool, true, not, ◌&&◌}
use native.Mathlib.Nat.{mul-le-mul_right, eq-or-lt_of_le}
use native.Mathlib.Omega.{arith}
use lib.Dec.{eqb}
use lib.ListN.{length, get_or, take, drop}
use lib.Seq.{paste}
use Rattle.std.specs.Prelude.{None}
use Rattle.rules.specs.Finite.{any_below, all_below}
use Rattle.rules.specs.Graph.{connected}
use Rattle.rules.specs.Rule.{rule}
use Rattle.rules.specs.Levels.{number_at, level_of, level_over, connected_at, same_ends, same_steps, twins, split_ok, agree, agree_at, first_of, max_of}
use Rattle.rules.specs.Accept.{LevelAccepted, LevelsAccepted, number_ok, level_ok}
use Rattle.rules.specs.Writing.{put}
use Rattle.rules.proofs.Laws.Accepted.{accepted_at}
use Rattle.rules.proofs.Laws.Finite.{none_any, all_same}
use Rattle.rules.proofs.Laws.Places.{row_lt, column_lt}
use Rattle.twins.specs.Marks.{marked_graph}
use Rattle.twins.specs.Standing.{Ready, Stands, base}
use Rattle.numbering.specs.Needs.{Numbered, Faulty}
use Rattle.levels.specs.Repeat.{LooksBelow, LooksAlike, Repeats, Topped}
use Rattle.numbering.proofs.Laws.Numbers.{numbering_same}
use Rattle.twins.proofs.Laws.Reach.{reach, reach_suc}
use Rattle.faults.proofs.Laws.Right.{is_fault, fault_no, fault_none}
use Rattle.levels.proofs.Laws.Stack.{kept_refl}
use Rattle.twins.proofs.Laws.Tables.{less_one, base_next, level_length, level_part}

-- level j+3 over the equal levels j+2 and j+1
module _ (n : ℕ) (levels area : List ℕ) (j : ℕ) (e : level_of n levels (suc (suc j)) ≡ level_of n levels (suc j)) (looks : LooksAlike (suc (suc (suc j))))
    (ok : LevelsAccepted rule (marked_graph n area) (suc (suc j)) (level_of n levels)) where
  reach_again : (v u : ℕ) → reach n levels area (suc (suc j)) v u ≡ reach n levels area (suc j) v u
  unfolding reach
  reach_again v u = fun_ext (λ m. ap (λ (t : List ℕ). not (eqb (number_at n t v m) 0) && connected (marked_graph n area) 1 m u) e)

  connected_again : (p : ℕ) → p < n * n → connected_at (marked_graph n area) (suc (suc (suc j))) p ≡ connected_at (marked_graph n area) (suc (suc j)) p
  unfolding connected_at
  connected_again p h =
      let v = p / n in
      let u = p % n in
      let hv = row_lt n p h in
      let hu = column_lt n p h in
      let right : (i : ℕ) → 0 < i → i ≤ suc (suc j) → LevelAccepted rule (marked_graph n area) i (level_of n levels) = accepted_at rule (marked_graph n area) (suc (suc j)) (level_of n levels) ok in
      sym (reach_suc n levels area (suc j) v u hv hu (right (suc (suc j)) (omega arith) (omega arith)))
      ∙ ap (any_below n) (reach_again v u)
      ∙ reach_suc n levels area j v u hv hu (right (suc j) (omega arith) (omega arith))

  many_again : rule.many (suc (suc (suc j))) ≡ rule.many (suc (suc j))
  many_again = looks.many ∙ ap (λ (i : ℕ). rule.many i) (less_one (suc (suc j)))

  -- the level that a half of one split is looked for in
  first_again : (c : ℕ) → c < rule.many (suc (suc j)) → level_of n levels (rule.first (suc (suc (suc j))) c) ≡ level_of n levels (rule.first (suc (suc j)) c)
  first_again c h =
      let lower : LooksBelow (suc (suc j)) = rw (less_one (suc (suc j))) at looks.lower in
      ap (level_of n levels) (looks.upper.first c (rw many_again h) ∙ less_one (suc (suc j))) ∙ e ∙ sym (ap (level_of n levels) (lower.first c h ∙ less_one (suc j)))

  second_again : (c : ℕ) → c < rule.many (suc (suc j)) → level_of n levels (rule.second (suc (suc (suc j))) c) ≡ level_of n levels (rule.second (suc (suc j)) c)
  second_again c h =
      let lower : LooksBelow (suc (suc j)) = rw (less_one (suc (suc j))) at looks.lower in
      ap (level_of n levels) (looks.upper.second c (rw many_again h) ∙ less_one (suc (suc j))) ∙ e ∙ sym (ap (level_of n levels) (lower.second c h ∙ less_one (suc j)))

  splits_again : (v u x y : ℕ) → all_below (rule.many (suc (suc (suc j)))) (split_ok rule (marked_graph n area) (suc (suc (suc j))) (level_of n levels) v u x y)
      ≡ all_below (rule.many (suc (suc j))) (split_ok rule (marked_graph n area) (suc (suc j)) (level_of n levels) v u x y)
  unfolding split_ok
  splits_again v u x y =
      let above = split_ok rule (marked_graph n area) (suc (suc (suc j))) (level_of n levels) v u x y in
      ap (λ (m : ℕ). all_below m above) many_again
      ∙ all_same (rule.many (suc (suc j))) above (split_ok rule (marked_graph n area) (suc (suc j)) (level_of n levels) v u x y)
      (λ c h. ap₂ (λ (s t : List ℕ). twins n s t v u x y && twins n s t x y v u) (first_again c h) (second_again c h))

  agree_again : (p q : ℕ) → agree_at rule (marked_graph n area) (suc (suc (suc j))) (level_of n levels) p q ≡ agree_at rule (marked_graph n area) (suc (suc j)) (level_of n levels) p q
  unfolding agree_at agree
  agree_again p q =
      let g = marked_graph n area in
      ap (λ (b : Bool). same_ends g (p / n) (p % n) (q / n) (q % n) && same_steps g (p / n) (p % n) (q / n) (q % n) && b) (splits_again (p / n) (p % n) (q / n) (q % n))

  over_again : level_over rule (marked_graph n area) (suc (suc (suc j))) levels ≡ level_over rule (marked_graph n area) (suc (suc j)) levels
  unfolding level_over
  over_again =
      numbering_same (connected_at (marked_graph n area) (suc (suc (suc j)))) (connected_at (marked_graph n area) (suc (suc j)))
      (agree_at rule (marked_graph n area) (suc (suc (suc j))) (level_of n levels)) (agree_at rule (marked_graph n area) (suc (suc j)) (level_of n levels))
      (n * n) connected_again (λ q p a b. agree_again q p)

  ok_again : level_of n levels (suc (suc (suc j))) ≡ level_of n levels (suc (suc j)) → (p : ℕ) → p < n * n
      → level_ok rule (marked_graph n area) (suc (suc (suc j))) (level_of n levels) p ≡ true
  unfolding level_ok number_ok LevelAccepted
  ok_again d p h =
      let g = marked_graph n area in
      let T = level_of n levels in
      rw (connected_again p h, agree_again p (first_of (n * n) (T (suc (suc (suc j)))) (get_or (T (suc (suc (suc j)))) p 0)), d)
      (accepted_at rule g (suc (suc j)) T ok (suc (suc j)) (omega arith) (omega arith) p h)

-- level i is a copy of the level below
pub copied : (n i : ℕ) (l w l' : List ℕ) (top : ℕ) → Ready n i l w → Repeats n i l → Topped n i l w top → l' ≡ put l (base n i) (level_of n l (i - 1)) → Numbered n i l w top l' w
copied n zero l w l' top r d t e = absurd (omega (arith, d.deep))
copied n (suc zero) l w l' top r d t e = absurd (omega (arith, d.deep))
copied n (suc (suc zero)) l w l' top r d t e = absurd (omega (arith, d.deep))
copied n (suc (suc (suc j))) l w l' top r d t e =
    let g = marked_graph n w in
    let a : suc (suc (suc j)) - 1 ≡ suc (suc j) = omega arith in
    let b : suc (suc (suc j)) - 1 - 1 ≡ suc j = omega arith in
    let same : level_of n l (suc (suc j)) ≡ level_of n l (suc j) = rw (b, a) at d.same in
    let ok : LevelsAccepted rule g (suc (suc j)) (level_of n l) = rw a at r.below in
    let is : level_of n l (suc (suc (suc j)) - 1) ≡ level_over rule g (suc (suc (suc j))) l =
    t.numbers (omega arith) ∙ ap (λ (i : ℕ). level_over rule g i l) a ∙ sym (over_again n l w j same d.looks ok) in
    record {
      placed = record { count = t.largest ∙ ap max_of is; written = e ∙ ap (put l (base n (suc (suc (suc j))))) is };
      kept = kept_refl n w;
    }

-- level i is the same as the level below
pub level_repeats : (n i : ℕ) (l w : List ℕ) → Ready n i l w → Repeats n i l → level_of n l i ≡ level_of n l (i - 1) → Faulty n i l w None w
level_repeats n zero l w r d e = absurd (omega (arith, d.deep))
level_repeats n (suc zero) l w r d e = absurd (omega (arith, d.deep))
level_repeats n (suc (suc zero)) l w r d e = absurd (omega (arith, d.deep))
level_repeats n (suc (suc (suc j))) l w r d e =
    let g = marked_graph n w in
    let T = level_of n l in
    let a : suc (suc (suc j)) - 1 ≡ suc (suc j) = omega arith in
    let b : suc (suc (suc j)) - 1 - 1 ≡ suc j = omega arith in
    let same : level_of n l (suc (suc j)) ≡ level_of n l (suc j) = rw (b, a) at d.same in
    let ok : LevelsAccepted rule g (suc (suc j)) T = rw a at r.below in
    record {
      fault = fault_none n (suc (suc (suc j))) l w (n * n) (omega arith) (omega arith)
          (none_any (n * n) (is_fault rule g (suc (suc (suc j))) T)
          (λ p h. fault_no rule g (suc (suc (suc j))) T p (sym (ok_again n l w j same d.looks ok (rw a at e) p h)) refl));
      kept = kept_refl n w;
    }

-- one position more
pub alike_more : (f g : ℕ → ℕ) (p : ℕ) → ((q : ℕ) → q < p → f q ≡ g q) → f p ≡ g p → (q : ℕ) → q < p + 1 → f q ≡ g q
alike_more f g p h e q l = ⊎_elim (λ (d : q ≡ p). rw d e) (λ (k : q < p). h q k) (eq-or-lt_of_le (omega arith))

pub lower_stands : (n i : ℕ) (l : List ℕ) → Stands n l i → 1 < i → Stands n l (i - 1)
lower_stands n i l st h = record { some = omega arith; room = omega (arith, mul-le-mul_right {m = i - 1} {n = i} (n * n) (omega arith), st.room) }

-- the level below level i in its place
pub copy_done : (n i : ℕ) (l : List ℕ) → Stands n l i → 1 < i → paste l ((i - 1) * (n * n)) (drop ((i - 2) * (n * n)) l) ((i - 1) * (n * n) - (i - 2) * (n * n)) ≡ put l (base n i) (level_of n l (i - 1))
unfolding put
copy_done n i l st h =
    let d : i - 1 - 1 ≡ i - 2 = omega arith in
    let one = base_next n (i - 1) (omega arith) in
    let size : length (level_of n l (i - 1)) ≡ n * n = level_length n l (i - 1) (omega arith) (lower_stands n i l st h).room in
    let part = rw d at (level_part n (i - 1) l) in
    let gap : (i - 1) * (n * n) - (i - 2) * (n * n) ≡ n * n = omega (arith, one, ap (λ (j : ℕ). j * (n * n)) d) in
    rw part (rw (gap, size) (append_assoc (take ((i - 1) * (n * n)) l) (level_of n l (i - 1)) (drop ((i - 1) * (n * n) + n * n) l)))
