-- A turn of the numbering, over the levels and the area as it leaves them.
use Prim.Native.Nat.{ℕ, ◌+◌, ◌*◌, ◌/◌, ◌%◌, ◌≤◌, ◌<◌}
use mathlib.Core.Path.{◌≡◌, refl, sym, ap, ap₂, ◌∙◌, fun_ext}
use mathlib.Core.List.{List}
use mathlib.Core.Bool.{Bool}
use native.Mathlib.Omega.{arith}
use lib.ListN.{length, get_or, take, drop}
use lib.Seq.{take-take, drop-drop, get_or-take}
use Rattle.rules.specs.Rule.{rule}
use Rattle.rules.specs.Levels.{level_of, next_number}
use Rattle.rules.specs.Writing.{put, fill}
use Rattle.rules.proofs.Laws.Writing.{get_or_fill_in, length_fill}
use Rattle.rules.specs.Accept.{level_ok}
use Rattle.twins.specs.Marks.{marked_graph}
use Rattle.twins.specs.Chains.{Chains, word, head_of, key_of, bucket_of}
use Rattle.twins.specs.Skips.{Laid}
use Rattle.twins.specs.Standing.{Ready, Near, Kept, base, is_in, alike, near_byte}
use Rattle.numbering.specs.Needs.{Begun, Steady, Positioned, Numbered, Passed, Faulty, Fault}
use Rattle.std.specs.Prelude.{Option}
use Rattle.twins.proofs.Laws.Areas.{edges_kept, byte_kept, ready_area, placed_kept, take_fill, drop_fill_at, near_kept}
use Rattle.numbering.proofs.Laws.Level.{numbers, still_ready, same_below, same_alike}
use Rattle.numbering.proofs.Laws.Chains.{chains_start}
use Rattle.numbering.proofs.Laws.Taken.{steady_trans}
use Rattle.twins.proofs.Laws.Skips.{laid_kept}
use Rattle.twins.proofs.Laws.Signature.{most_kept}

pub steady_marks : (n : ℕ) (w w' : List ℕ) → Steady n w w' → take (n * n) w' ≡ take (n * n) w
steady_marks n w w' s =
    sym (take-take (n * n) (2 * (n * n)) w' (omega arith)) ∙ ap (take (n * n)) s.front ∙ take-take (n * n) (2 * (n * n)) w (omega arith)

steady_rest : (n : ℕ) (w w' : List ℕ) → Steady n w w' → drop (9 * (n * n)) w' ≡ drop (9 * (n * n)) w
steady_rest n w w' s = far w' ∙ ap (drop (3 * (n * n))) s.rest ∙ sym (far w)
  where
    nine : (m : ℕ) → 9 * m ≡ 6 * m + 3 * m
    nine m = omega arith

    far : (z : List ℕ) → drop (9 * (n * n)) z ≡ drop (3 * (n * n)) (drop (6 * (n * n)) z)
    far z = ap (λ (m : ℕ). drop m z) (nine (n * n)) ∙ sym (drop-drop (3 * (n * n)) (6 * (n * n)) z)

pub steady_kept : (n : ℕ) (w w' : List ℕ) → Steady n w w' → Kept n w w'
steady_kept n w w' s = record { marks = steady_marks n w w' s; rest = steady_rest n w w' s; size = s.size }

-- what is laid out stays
pub laid_steady : (n i : ℕ) (l w w' : List ℕ) → Steady n w w' → Laid n i l w → Laid n i l w'
laid_steady n i l w w' s k = laid_kept n i l l w w' s.rest s.size (λ j h. refl) k

-- the bytes of the connected pairs stay
pub near_steady : (n i : ℕ) (w w' : List ℕ) → Near n i w → Steady n w w' → Near n i w'
near_steady n i w w' near s =
    record {
      byte_at = λ p h.
          let r : n * n + p < 2 * (n * n) = omega arith in
          sym (get_or-take (2 * (n * n)) w' (n * n + p) 0 r) ∙ ap (λ (z : List ℕ). get_or z (n * n + p) 0) s.front ∙ get_or-take (2 * (n * n)) w (n * n + p) 0 r
          ∙ near.byte_at p h ∙ sym (byte_kept n i w w' p (steady_marks n w w' s));
    }

-- a bucket is made of the marks and the levels below
bucket_kept : (n i : ℕ) (l l' w w' : List ℕ) → take (n * n) w' ≡ take (n * n) w → ((j : ℕ) → j < i → level_of n l' j ≡ level_of n l j)
    → bucket_of n i l' w' ≡ bucket_of n i l w
unfolding bucket_of key_of
bucket_kept n i l l' w w' e below = fun_ext (λ p. ap (λ (z : ℕ). z % (n * n)) (ap₂ ◌+◌ (key p) (most_kept n i l l' below p)))
  where
    key : (p : ℕ) → get_or (take (n * n) w') p 0 + 256 * get_or (take (n * n) w') (p % n * n + p / n) 0 ≡ get_or (take (n * n) w) p 0 + 256 * get_or (take (n * n) w) (p % n * n + p / n) 0
    key p = ap (λ (z : List ℕ). get_or z p 0 + 256 * get_or z (p % n * n + p / n) 0) e

module _ (n i : ℕ) (l w : List ℕ) (ready : Ready n i l w) (p : ℕ) (l' : List ℕ) (e : l' ≡ put l (base n i) (numbers n i l w ready p)) (h : p ≤ n * n)
    (w' : List ℕ) (s : Steady n w w') where
  pub turn_ready : Ready n i l' w'
  turn_ready = ready_area n i l' w w' (still_ready n i l w ready p l' e h) (steady_marks n w w' s) s.size

  pub turn_laid : Laid n i l w → Laid n i l' w'
  turn_laid k = laid_kept n i l l' w w' s.rest s.size (same_below n i l w ready p l' e h) k

  pub turn_begun : (top : ℕ) → Begun n i l' w p top → Begun n i l' w' p top
  turn_begun top b = record { numbers = rw (edges_kept n w w' (steady_marks n w w' s)) b.numbers; largest = b.largest; small = b.small }

  same_bucket : bucket_of n i l' w' ≡ bucket_of n i l w
  same_bucket = bucket_kept n i l l' w w' (steady_marks n w w' s) (same_below n i l w ready p l' e h)

  pub turn_chains : (v : List ℕ) (q : ℕ) → Chains (is_in n i w) (alike n i l w) (bucket_of n i l w) n v q → Chains (is_in n i w') (alike n i l' w') (bucket_of n i l' w') n v q
  turn_chains v q ch = rw (same_bucket, edges_kept n w w' (steady_marks n w w' s), same_alike n i l w ready p l' e h) ch

  pub turn_back : (v : List ℕ) (q : ℕ) → Chains (is_in n i w') (alike n i l' w') (bucket_of n i l' w') n v q → Chains (is_in n i w) (alike n i l w) (bucket_of n i l w) n v q
  turn_back v q ch = rw (same_bucket, edges_kept n w w' (steady_marks n w w' s), same_alike n i l w ready p l' e h) at ch

  pub turn_number : (k : ℕ) → k ≡ next_number (is_in n i w') (alike n i l' w') (take p (drop (base n i) l')) p
      → k ≡ next_number (is_in n i w) (alike n i l' w) (take p (drop (base n i) l')) p
  turn_number k q = rw (edges_kept n w w' (steady_marks n w w' s)) at q

-- the area with its heads cleared
heads_clear : (n : ℕ) (w w' : List ℕ) → w' ≡ fill w (4 * (n * n)) (2 * (n * n)) (λ _. 0) → 9 * (n * n) ≤ length w → (b : ℕ) → b < n * n → head_of n w' b ≡ 0
unfolding head_of word
heads_clear n w w' e r b h =
    let z : (j : ℕ) → j < 2 * (n * n) → get_or w' (4 * (n * n) + j) 0 ≡ 0 =
    λ j k. ap (λ (v : List ℕ). get_or v (4 * (n * n) + j) 0) e ∙ get_or_fill_in w (4 * (n * n)) (2 * (n * n)) (λ _. 0) j k (omega arith) in
    let second : get_or w' (4 * (n * n) + 2 * b + 1) 0 ≡ 0 = ap (λ (j : ℕ). get_or w' j 0) (place (4 * (n * n)) b) ∙ z (2 * b + 1) (omega arith) in
    omega (arith, z (2 * b) (omega arith), second)
  where
    place : (a b : ℕ) → a + 2 * b + 1 ≡ a + (2 * b + 1)
    place a b = omega arith

pub clear_steady : (n : ℕ) (w w' : List ℕ) → w' ≡ fill w (4 * (n * n)) (2 * (n * n)) (λ _. 0) → Steady n w w'
clear_steady n w w' e =
    record {
      front = ap (take (2 * (n * n))) e ∙ take_fill (2 * (n * n)) w (4 * (n * n)) (2 * (n * n)) (λ _. 0) (omega arith);
      rest = ap (drop (6 * (n * n))) e ∙ drop_fill_at (6 * (n * n)) w (4 * (n * n)) (2 * (n * n)) (λ _. 0) (omega arith);
      size = ap length e ∙ length_fill w (4 * (n * n)) (2 * (n * n)) (λ _. 0);
    }

pub laid_near : (n i : ℕ) (l w w' : List ℕ) → w' ≡ fill w (n * n) (n * n) (near_byte n i w) → Laid n i l w → Laid n i l w'
laid_near n i l w w' e k =
    laid_kept n i l l w w' (ap (drop (6 * (n * n))) e ∙ drop_fill_at (6 * (n * n)) w (n * n) (n * n) (near_byte n i w) (omega arith)) (ap length e ∙ length_fill w (n * n) (n * n) (near_byte n i w)) (λ j h. refl) k

-- number_level, from what its parts leave
module _ (n i : ℕ) (l w w' w'' : List ℕ) (ready : Ready n i l w) (near : w' ≡ fill w (n * n) (n * n) (near_byte n i w)) (clear : w'' ≡ fill w' (4 * (n * n)) (2 * (n * n)) (λ _. 0)) where
  near_w' : (Near n i w') × (Kept n w w')
  near_w' = near_kept n i w w' near ready.area_room

  pub level_ready : Laid n i l w → (Ready n i l w'') × (Near n i w'') × (Chains (is_in n i w'') (alike n i l w'') (bucket_of n i l w'') n w'' 0) × (Laid n i l w'')
  level_ready laid =
      let k = near_w'.1 in
      let s = clear_steady n w' w'' clear in
      let r = ready_area n i l w w' ready k.marks k.size in (
        ready_area n i l w' w'' r (steady_marks n w' w'' s) s.size,
        near_steady n i w' w'' near_w'.0 s,
        chains_start (is_in n i w'') (alike n i l w'') (bucket_of n i l w'') n w'' (heads_clear n w' w'' clear r.area_room),
        laid_steady n i l w' w'' s (laid_near n i l w w' near laid),
      )

  pub level_numbered : (r : ℕ) (l' v : List ℕ) → Positioned n i l w'' r l' v → Numbered n i l w r l' v
  level_numbered r l' v d =
      let k = near_w'.1 in
      let s = steady_trans n w' w'' v (clear_steady n w' w'' clear) d.steady in
      record {
        placed = placed_kept n i l w w'' r l' (steady_marks n w' w'' (clear_steady n w' w'' clear) ∙ k.marks) d.placed;
        kept = record { marks = steady_marks n w' v s ∙ k.marks; rest = steady_rest n w' v s ∙ k.rest; size = s.size ∙ k.size };
      }

-- a position is right by the marks, which stay
pub ok_kept : (n i : ℕ) (l w w' : List ℕ) (p : ℕ) {b : Bool} → Steady n w w' → b ≡ level_ok rule (marked_graph n w') i (level_of n l) p → b ≡ level_ok rule (marked_graph n w) i (level_of n l) p
ok_kept n i l w w' p s e = rw (edges_kept n w w' (steady_marks n w w' s)) at e

-- a fault is found over the marks
pub fault_kept : (n i : ℕ) (l w w' : List ℕ) {r : Option ℕ} → take (n * n) w' ≡ take (n * n) w → Fault n i l w' r → Fault n i l w r
fault_kept n i l w w' m f =
    record {
      found = λ p k. let d = f.found p k in (d.0, rw (edges_kept n w w' m) at d.1);
      none = λ k. rw (edges_kept n w w' m) at (f.none k);
    }

-- check_level, from what its parts leave
pub level_faulty : (n i : ℕ) (l w w' : List ℕ) (r : Option ℕ) (v : List ℕ) → Ready n i l w → w' ≡ fill w (n * n) (n * n) (near_byte n i w) → Passed n i l w' r v → Faulty n i l w r v
level_faulty n i l w w' r v ready near d =
    let k = (near_kept n i w w' near ready.area_room).1 in
    let s = steady_kept n w' v d.steady in
    record {
      fault = fault_kept n i l w w' k.marks d.fault;
      kept = record { marks = s.marks ∙ k.marks; rest = s.rest ∙ k.rest; size = s.size ∙ k.size };
    }
