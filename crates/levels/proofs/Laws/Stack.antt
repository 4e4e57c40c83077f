-- One level more: over those that stand at the front, or found right.
use Rattle.std.proofs.Common.{Err, Ok}
use Rattle.std.specs.Prelude.{Option, Some, None}
use Prim.Native.Nat.{ℕ, zero, suc, ◌+◌, ◌*◌, ◌/◌, ◌%◌, ◌≤◌, ◌<◌}
use mathlib.Core.Path.{◌≡◌, refl, sym, ap, ◌∙◌, fun_ext}
use mathlib.Core.List.{List, ◌++◌, append_assoc}
use mathlib.Core.Bool.{Bool}
use native.Mathlib.Nat.{mul-le-mul_right, zero-mul}
use native.Mathlib.Decide.{le_ind}
use native.Mathlib.Omega.{arith}
use lib.Dec.{ltb}
use lib.ListN.{length, take, drop, length-append}
use lib.Seq.{take_at, drop-append-add, drop-drop}
use borrow.Author.Tests.{lt-ltb, le-ltb}
use Rattle.rules.specs.declared.Refusal.{Refusal}
use Rattle.rules.specs.declared.Refusal.TheVariants.{LevelFault}
use Rattle.rules.specs.Graph.{Graph}
use Rattle.rules.specs.Rule.{Rule, rule}
use Rattle.rules.specs.Levels.{numbering, connected_at, agree_at, max_of, level_of, stack, level_over, built_levels, built_level}
use Rattle.rules.specs.Accept.{first_fault, levels_right}
use Rattle.rules.specs.Verdict.{good, refuse, when, ◌or_else◌}
use Rattle.rules.specs.Writing.{put}
use Rattle.rules.specs.Outcomes.{front, told}
use Rattle.rules.proofs.Laws.Agree.{agree_below}
use Rattle.rules.proofs.Laws.Levels.{level_front, levels_size, over_length, stack_top, level_written, level_is}
use Rattle.rules.proofs.Laws.Builder.{accepted_same, written_accepted}
use Rattle.rules.proofs.Laws.Verdict.{good_or_else, both_good, good_when}
use Rattle.twins.specs.Marks.{marked_graph}
use Rattle.twins.specs.Standing.{Ready, Kept, Placed, base}
use Rattle.numbering.specs.Needs.{Faulty}
use Rattle.levels.specs.Needs.{Room, Judged}
use Rattle.levels.specs.Repeat.{Topped}
use Rattle.rules.proofs.Laws.Faults.{right_accepted}
use Rattle.rules.proofs.Laws.Fronts.{front_length}
use Rattle.rules.proofs.Laws.Lawful.{rule_laws}
use Rattle.twins.proofs.Laws.Tables.{less_one}
use Rattle.twins.proofs.Laws.Areas.{edges_kept, ready_area}
use Rattle.numbering.proofs.Laws.Turn.{fault_kept}

-- writing behind a front
front_more : (b s l : List ℕ) → put (front b l) (length b) s ≡ front (b ++ s) l
unfolding put front
front_more b s l =
    rw (take_at b (drop (length b) l) (length b) refl, drop-append-add b (drop (length b) l) (length s), drop-drop (length s) (length b) l, length-append b s, append_assoc b s (drop (length b + length s) l)) refl

pub kept_refl : (n : ℕ) (w : List ℕ) → Kept n w w
kept_refl n w = record { marks = refl; rest = refl; size = refl }

pub kept_trans : (n : ℕ) (w w' w'' : List ℕ) → Kept n w w' → Kept n w' w'' → Kept n w w''
kept_trans n w w' w'' a b = record { marks = b.marks ∙ a.marks; rest = b.rest ∙ a.rest; size = b.size ∙ a.size }

module _ (n : ℕ) (area l : List ℕ) where
  abbrev built : ℕ → List ℕ
  built i = built_levels rule (marked_graph n area) i

  built_size : (i : ℕ) → length (built i) ≡ i * (n * n)
  built_size i = levels_size rule (marked_graph n area) i

  -- the levels of the front
  front_level : (i j : ℕ) → j ≤ i → level_of n (front (built i) l) j ≡ level_of n (built i) j
  unfolding front
  front_level i j h =
      level_front n (built i) (drop (length (built i)) l) j (omega (arith, mul-le-mul_right {m = j} {n = i} (n * n) h, built_size i))

  over_front : (i : ℕ) → level_over rule (marked_graph n area) (suc i) (front (built i) l) ≡ level_over rule (marked_graph n area) (suc i) (built i)
  unfolding level_over agree_at
  over_front i =
      ap (λ (r : ℕ → ℕ → Bool). numbering (connected_at (marked_graph n area) (suc i)) r (n * n))
      (fun_ext (λ p. fun_ext (λ q.
      agree_below rule rule_laws (marked_graph n area) (suc i) (level_of n (front (built i) l)) (level_of n (built i)) (λ j h. front_level i j (omega arith))
      (p / n) (p % n) (q / n) (q % n))))

  pub front_size : (k i : ℕ) → i ≤ k → k * (n * n) ≤ length l → length (front (built i) l) ≡ length l
  front_size k i h r = front_length (built i) l (omega (arith, built_size i, mul-le-mul_right {m = i} {n = k} (n * n) h))

  -- the next level can be numbered
  pub front_ready : (k i j : ℕ) (l' : List ℕ) → Room n k l area → i < k → j ≡ suc i → l' ≡ front (built i) l → Ready n j l' area
  front_ready k i j l' r h ej e =
      rw (ej, e)
      (record {
        few = r.few;
        some = omega arith;
        short = omega (arith, r.short);
        room = rw (front_size k i (omega arith) r.levels_room) (omega (arith, mul-le-mul_right {m = suc i} {n = k} (n * n) h, r.levels_room));
        area_room = r.area_room;
        below = rw (less_one i)
            (accepted_same rule rule_laws (marked_graph n area) i (level_of n (built i)) (level_of n (front (built i) l)) (λ j b. sym (front_level i j b))
            (written_accepted rule rule_laws (marked_graph n area) i));
      })

  built_more : (i : ℕ) → built (suc i) ≡ built i ++ level_over rule (marked_graph n area) (suc i) (built i)
  unfolding built_levels stack
  built_more i = refl

  written_suc : (i : ℕ) → put (front (built i) l) (base n (suc i)) (level_over rule (marked_graph n area) (suc i) (front (built i) l)) ≡ front (built (suc i)) l
  written_suc i =
      let b : base n (suc i) ≡ length (built i) = ap (λ (z : ℕ). z * (n * n)) (less_one i) ∙ sym (built_size i) in
      rw (b, over_front i, built_more i) (front_more (built i) (level_over rule (marked_graph n area) (suc i) (built i)) l)

  top_suc : (i : ℕ) → built_level rule (marked_graph n area) (suc i) ≡ level_over rule (marked_graph n area) (suc i) (front (built i) l)
  unfolding built_level built_levels
  top_suc i = stack_top n (level_over rule (marked_graph n area)) (over_length rule (marked_graph n area)) i ∙ sym (over_front i)

  pub front_written : (i j r : ℕ) (l' l'' : List ℕ) → j ≡ suc i → l' ≡ front (built i) l → Placed n j l' area r l'' → l'' ≡ front (built j) l
  front_written i j r l' l'' ej e p = p.written ∙ rw (ej, e) (written_suc i)

  pub front_count : (i j r : ℕ) (l' l'' : List ℕ) → j ≡ suc i → l' ≡ front (built i) l → Placed n j l' area r l'' → r ≡ max_of (built_level rule (marked_graph n area) j)
  front_count i j r l' l'' ej e p = p.count ∙ rw (ej, e) (ap max_of (sym (top_suc i)))

  -- the level that stands on top is numbered over those below it
  over_top : (i : ℕ) → level_over rule (marked_graph n area) (suc i) (front (built (suc i)) l) ≡ built_level rule (marked_graph n area) (suc i)
  unfolding level_over agree_at
  over_top i =
      ap (λ (r : ℕ → ℕ → Bool). numbering (connected_at (marked_graph n area) (suc i)) r (n * n))
      (fun_ext (λ p. fun_ext (λ q.
      agree_below rule rule_laws (marked_graph n area) (suc i) (level_of n (front (built (suc i)) l)) (built_level rule (marked_graph n area))
      (λ j h. front_level (suc i) j (omega arith) ∙ level_written rule (marked_graph n area) (suc i) j (omega arith))
      (p / n) (p % n) (q / n) (q % n))))
      ∙ sym (level_is rule rule_laws (marked_graph n area) i)

  top_numbers : (i : ℕ) → 1 < suc i → level_of n (front (built i) l) i ≡ level_over rule (marked_graph n area) i (front (built i) l)
  top_numbers zero h = absurd (omega arith)
  top_numbers (suc i) h = front_level (suc i) (suc i) (omega arith) ∙ level_written rule (marked_graph n area) (suc i) (suc i) (omega arith) ∙ sym (over_top i)

  pub front_topped : (i j top : ℕ) (l' w : List ℕ) → j ≡ suc i → l' ≡ front (built i) l → top ≡ max_of (built_level rule (marked_graph n area) i)
      → take (n * n) w ≡ take (n * n) area → Topped n j l' w top
  front_topped i j top l' w ej e m k =
      rw (ej, e)
      (record {
        numbers = λ h. rw (less_one i, edges_kept n area w k) (top_numbers i h);
        largest = m ∙ ap max_of (sym (rw (less_one i) (front_level i i (omega arith) ∙ level_written rule (marked_graph n area) i i (omega arith))));
      })

-- the verdict on levels 1 to i, one level more
module _ (ρ : Rule) (g : Graph) (T : ℕ → List ℕ) (i : ℕ) (so_far : levels_right ρ g i T ≡ good) where
  pub right_more : (j p : ℕ) → j ≡ suc i → p ≡ first_fault ρ g j T → g.items * g.items ≤ p → levels_right ρ g j T ≡ good
  unfolding levels_right
  right_more j p ej e h =
      rw ej
      (both_good (levels_right ρ g i T) _ so_far
      (good_when (ltb (first_fault ρ g (suc i) T) (g.items * g.items)) _ (le-ltb (first_fault ρ g (suc i) T) (g.items * g.items) (rw (← ej, ← e) h))))

  refuse_suc : first_fault ρ g (suc i) T < g.items * g.items → levels_right ρ g (suc i) T ≡ refuse (LevelFault (suc i) (first_fault ρ g (suc i) T))
  unfolding levels_right when
  refuse_suc h = good_or_else (levels_right ρ g i T) _ so_far ∙ rw (lt-ltb (first_fault ρ g (suc i) T) (g.items * g.items) h) refl

  pub right_refuse : (j p k : ℕ) → j ≡ suc i → p ≡ first_fault ρ g j T → p < g.items * g.items → j ≤ k → levels_right ρ g k T ≡ refuse (LevelFault j p)
  right_refuse j p k ej e h b = stays (LevelFault j p) j k b (rw (e, ej) (refuse_suc (rw (← ej, ← e) h)))
    where
      stays : (r : Refusal) (j k : ℕ) → j ≤ k → levels_right ρ g j T ≡ refuse r → levels_right ρ g k T ≡ refuse r
      stays r j k b t = le_ind (λ m. levels_right ρ g m T ≡ refuse r) t (λ m l q. unfold levels_right ◌or_else◌ in (rw q refl)) k b

pub right_start : (ρ : Rule) (g : Graph) (T : ℕ → List ℕ) → levels_right ρ g 0 T ≡ good
unfolding levels_right
right_start ρ g T = refl

-- no level yet
module _ (n : ℕ) (area l : List ℕ) where
  pub front_start : l ≡ front (built_levels rule (marked_graph n area) 0) l
  unfolding front built_levels stack
  front_start = refl

  pub count_start : 0 ≡ max_of (built_level rule (marked_graph n area) 0)
  unfolding built_level built_levels stack level_of max_of
  count_start = rw zero-mul refl

-- a level found right so far, checked over an area that keeps the marks
module _ (n i j k : ℕ) (l w w' : List ℕ) where
  pub right_ready : Room n k l w → i < k → j ≡ suc i → levels_right rule (marked_graph n w) i (level_of n l) ≡ good → Kept n w w' → Ready n j l w'
  right_ready r h ej so_far kept =
      ready_area n j l w w'
      (rw ej
      (record {
        few = r.few;
        some = omega arith;
        short = omega (arith, r.short);
        room = omega (arith, mul-le-mul_right {m = suc i} {n = k} (n * n) h, r.levels_room);
        area_room = r.area_room;
        below = rw (less_one i) (right_accepted rule (marked_graph n w) (level_of n l) i so_far);
      }))
      kept.marks kept.size

pub judged_fault : (n i j k : ℕ) (l w w' : List ℕ) (p : ℕ) {r : Option ℕ} (w'' : List ℕ) → levels_right rule (marked_graph n w) i (level_of n l) ≡ good → j ≡ suc i → i < k
    → Kept n w w' → Faulty n j l w' r w'' → r ≡ Some p → Judged n k l w (Err (LevelFault j p)) w''
unfolding told
judged_fault n i j k l w w' p w'' so_far ej h kept f e =
    let d = (fault_kept n j l w w' kept.marks f.fault).found p e in
    record {
      verdict = sym (ap told (right_refuse rule (marked_graph n w) (level_of n l) i so_far j p k ej d.1 d.0 (omega arith)));
      kept = kept_trans n w w' w'' kept f.kept;
    }

-- one level more is right
pub judged_more : (n i j : ℕ) (l w w' : List ℕ) {r : Option ℕ} (w'' : List ℕ) → levels_right rule (marked_graph n w) i (level_of n l) ≡ good → j ≡ suc i
    → Kept n w w' → Faulty n j l w' r w'' → r ≡ None → levels_right rule (marked_graph n w) j (level_of n l) ≡ good
judged_more n i j l w w' w'' so_far ej kept f e =
    right_more rule (marked_graph n w) (level_of n l) i so_far j (n * n) ej ((fault_kept n j l w w' kept.marks f.fault).none e) (omega arith)

pub judged_good : (n k : ℕ) (l w w' : List ℕ) → levels_right rule (marked_graph n w) k (level_of n l) ≡ good → Kept n w w' → Judged n k l w (Ok tt) w'
unfolding told
judged_good n k l w w' e kept = record { verdict = sym (ap told e); kept = kept }
