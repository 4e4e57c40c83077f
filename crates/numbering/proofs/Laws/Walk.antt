-- The walk along the chain of a position's bucket.
use Prim.Native.Nat.{ℕ, ◌+◌, ◌*◌, ◌-◌, ◌/◌, ◌%◌, ◌<◌}
use mathlib.Core.Path.{◌≡◌, sym, ◌∙◌, subst}
use mathlib.Core.List.{List}
use mathlib.Core.Bool.{Bool, true, false}
use native.Mathlib.Omega.{arith}
use lib.ListN.{get_or}
use Rattle.std.specs.Prelude.{Some, None}
use Rattle.rules.specs.Rule.{rule}
use Rattle.rules.specs.Levels.{agree, level_of}
use Rattle.rules.proofs.Laws.Builder.{at_trans}
use Rattle.twins.specs.Marks.{marked_graph}
use Rattle.twins.specs.Standing.{is_in, alike}
use Rattle.twins.specs.Chains.{word, link_of, head_of, Linked, Met, Chains, Answer, bucket_of}
use Rattle.twins.proofs.Laws.Agreement.{at_is}
use Rattle.numbering.proofs.Laws.Chains.{first_met, rest_met, rest_ahead, answer_none}
use Rattle.twins.proofs.Laws.Signature.{bucket_same}

-- where the walk stands: what it may still meet, and that it has passed nothing alike p
pub record Ahead (n i : ℕ) (levels area : List ℕ) (p b s : ℕ) : Type 0 where
  pub met : (x : ℕ) → Linked (link_of n area) s x → Met (is_in n i area) (link_of n area) p x
  pub kept : (x : ℕ) → Linked (link_of n area) (head_of n area b) x → alike n i levels area x p ≡ true → Linked (link_of n area) s x

module _ (n i : ℕ) (levels area : List ℕ) (p b : ℕ) where
  head_is : {s : ℕ} → s ≡ word area (4 * (n * n) + 2 * b) → s ≡ head_of n area b
  unfolding head_of
  head_is e = e

  link_is : (q : ℕ) {s : ℕ} → s ≡ word area (2 * (n * n) + 2 * q) → s ≡ link_of n area q
  unfolding link_of
  link_is q e = e

  pub walk_start : {s : ℕ} → Chains (is_in n i area) (alike n i levels area) (bucket_of n i levels area) n area p → b < n * n
      → s ≡ word area (4 * (n * n) + 2 * b) → Ahead n i levels area p b s
  walk_start ch hb e =
      record {
        met = λ x l. ch.sound b x hb (subst (λ (z : ℕ). Linked (link_of n area) z x) (head_is e) l);
        kept = λ x l a. subst (λ (z : ℕ). Linked (link_of n area) z x) (sym (head_is e)) l;
      }

  module _ (s : ℕ) (k : s ≡ 0 → ⊥) (ah : Ahead n i levels area p b s) where
    pub walk_met : Met (is_in n i area) (link_of n area) p (s - 1)
    walk_met = first_met (is_in n i area) (link_of n area) p s k ah.met

    -- the next is further down
    pub walk_less : {s' : ℕ} → s' ≡ word area (2 * (n * n) + 2 * (s - 1)) → s' < s
    walk_less {s'} e = omega (arith, link_is (s - 1) e, walk_met.down)

    module _ {r : Bool} (er : r ≡ agree rule (marked_graph n area) i (level_of n levels) ((s - 1) / n) ((s - 1) % n) (p / n) (p % n)) where
      is_alike : r ≡ alike n i levels area (s - 1) p
      is_alike = er ∙ at_is rule (marked_graph n area) i (level_of n levels) (s - 1) p

      pub walk_next : {s' : ℕ} → r ≡ false → s' ≡ word area (2 * (n * n) + 2 * (s - 1)) → Ahead n i levels area p b s'
      walk_next {s'} f e =
          record {
            met = λ x l. rest_met (is_in n i area) (link_of n area) p s k ah.met x (subst (λ (z : ℕ). Linked (link_of n area) z x) (link_is (s - 1) e) l);
            kept = λ x l a. subst (λ (z : ℕ). Linked (link_of n area) z x) (sym (link_is (s - 1) e))
                (rest_ahead (is_in n i area) (link_of n area) p (λ y. alike n i levels area y p) s (head_of n area b) k ah.kept (sym is_alike ∙ f) x l a);
          }

      pub walk_found : r ≡ true → Answer (is_in n i area) (alike n i levels area) p (Some (s - 1))
      walk_found t =
          record {
            found = λ q h. let e : q ≡ s - 1 = (let z : Some (s - 1) ≡ Some q = h in cc) in rw e (walk_met.before, walk_met.is_in_lem, sym is_alike ∙ t);
            none = λ h. absurd (let z : Some (s - 1) ≡ None = h in cc);
          }

  pub walk_none : {s : ℕ} → Chains (is_in n i area) (alike n i levels area) (bucket_of n i levels area) n area p → p < n * n → b ≡ bucket_of n i levels area p
      → ((q : ℕ) → get_or area q 0 < 256) → Ahead n i levels area p b s → s ≡ 0 → Answer (is_in n i area) (alike n i levels area) p None
  walk_none {s} ch hp eb bytes ah z =
      record {
        found = λ q h. absurd (let z : None ≡ Some q = h in cc);
        none = λ h. answer_none (is_in n i area) (alike n i levels area) (bucket_of n i levels area) n area p ch
            (at_trans rule (marked_graph n area) i (level_of n levels))
            (λ q l a. bucket_same n i levels area bytes q p (omega arith) hp a) s z
            (λ x l a. ah.kept x (rw (← eb) at l) a);
      }
