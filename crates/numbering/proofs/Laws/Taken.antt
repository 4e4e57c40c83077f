-- What numbering one position leaves: its number, and the chains.
use Prim.Native.Nat.{ℕ, suc, ◌+◌, ◌*◌, ◌≤◌, ◌<◌}
use mathlib.Core.Path.{◌≡◌, refl, sym, ap, ◌∙◌}
use mathlib.Core.Logic.{⊎_elim}
use mathlib.Core.List.{List}
use mathlib.Core.Bool.{Bool, true, false}
use native.Mathlib.Numerals.{add-one}
use native.Mathlib.Omega.{arith}
use lib.ListN.{length, get_or, take, drop}
use Rattle.std.specs.Prelude.{Option, Some, None}
use Rattle.rules.specs.Rule.{rule}
use Rattle.rules.specs.Levels.{level_of}
use Rattle.rules.proofs.Laws.Tests.{order}
use Rattle.rules.proofs.Laws.Builder.{at_refl, at_sym, at_trans}
use Rattle.twins.specs.Marks.{marked_graph}
use Rattle.twins.specs.Chains.{word, set_word, link_of, head_of, Chains, Answer, bucket_of}
use Rattle.twins.specs.Standing.{base, is_in, alike}
use Rattle.numbering.specs.Needs.{Begun, Steady, Taken}
use Rattle.packing.proofs.Laws.Words.{length_word, word_same, word_above, word_below, take_word, drop_word}
use Rattle.numbering.proofs.Laws.Chains.{chains_out, chains_old, chains_new}
use Rattle.twins.proofs.Laws.Signature.{bucket_same, bucket_lt}
use Rattle.numbering.proofs.Laws.Numbers.{next_out, next_alike, next_none}
use Rattle.numbering.proofs.Laws.Level.{part_at}

pub steady_refl : (n : ℕ) (w : List ℕ) → Steady n w w
steady_refl n w = record { front = refl; rest = refl; size = refl }

pub steady_trans : (n : ℕ) (w w' w'' : List ℕ) → Steady n w w' → Steady n w' w'' → Steady n w w''
steady_trans n w w' w'' a b = record { front = b.front ∙ a.front; rest = b.rest ∙ a.rest; size = b.size ∙ a.size }

-- p at the head of the chain of bucket b, in the bytes
module _ (n : ℕ) (w : List ℕ) (b p : ℕ) (room : 9 * (n * n) ≤ length w) (hb : b < n * n) (hp : p < n * n) where
  abbrev link_at : ℕ
  link_at = 2 * (n * n) + 2 * p

  abbrev head_at : ℕ
  head_at = 4 * (n * n) + 2 * b

  abbrev linked : List ℕ
  linked = set_word w link_at (word w head_at)

  abbrev pub headed : List ℕ
  headed = set_word linked head_at (p + 1)

  size_linked : length linked ≡ length w
  size_linked = length_word w link_at (word w head_at)

  pub head_steady : Steady n w headed
  head_steady =
      record {
        front = take_word linked head_at (p + 1) (2 * (n * n)) (omega arith) ∙ take_word w link_at (word w head_at) (2 * (n * n)) (omega arith);
        rest = drop_word linked head_at (p + 1) (6 * (n * n)) (omega arith) ∙ drop_word w link_at (word w head_at) (6 * (n * n)) (omega arith);
        size = length_word linked head_at (p + 1) ∙ size_linked;
      }

  links : (q : ℕ) → q < p → link_of n headed q ≡ link_of n w q
  unfolding link_of
  links q h =
      word_below linked head_at (p + 1) (2 * (n * n) + 2 * q) (omega arith) ∙ word_below w link_at (word w head_at) (2 * (n * n) + 2 * q) (omega arith)

  link_p : link_of n headed p ≡ head_of n w b
  unfolding link_of head_of
  link_p = word_below linked head_at (p + 1) link_at (omega arith) ∙ word_same w link_at (word w head_at) (omega arith)

  head_p : head_of n headed b ≡ suc p
  unfolding head_of
  head_p = word_same linked head_at (p + 1) (omega (arith, size_linked)) ∙ add-one p

  heads : (d : ℕ) → d < n * n → (d ≡ b → ⊥) → head_of n headed d ≡ head_of n w d
  unfolding head_of
  heads d h k =
      ⊎_elim
      (λ (l : d < b). word_below linked head_at (p + 1) (4 * (n * n) + 2 * d) (omega arith))
      (λ (g : b ≤ d). word_above linked head_at (p + 1) (4 * (n * n) + 2 * d) (omega (arith, apart d g k)))
      (order d b)
      ∙ word_above w link_at (word w head_at) (4 * (n * n) + 2 * d) (omega arith)
    where
      apart : (d : ℕ) → b ≤ d → (d ≡ b → ⊥) → b < d
      apart d g k = ⊎_elim (λ l. l) (λ e. absurd (k (omega arith))) (order b d)

  pub head_chains : (c : ℕ → Bool) (r : ℕ → ℕ → Bool) (bucket : ℕ → ℕ) → Chains c r bucket n w p → b ≡ bucket p → r p p ≡ true → c p ≡ true
      → ((q : ℕ) → bucket q < n * n) → Chains c r bucket n headed (p + 1)
  head_chains c r bucket ch eb rp cp small =
      chains_new c r bucket n w p ch headed rp cp (λ q h. small q) links (link_p ∙ ap (head_of n w) eb) (ap (head_of n headed) (sym eb) ∙ head_p) (λ d h k. heads d h (λ e. k (e ∙ eb)))

module _ (n i : ℕ) (levels area : List ℕ) (p top : ℕ) (begun : Begun n i levels area p top) (hp : p < n * n)
    (ch : Chains (is_in n i area) (alike n i levels area) (bucket_of n i levels area) n area p) where
  abbrev before : List ℕ
  before = take p (drop (base n i) levels)

  pub taken_out : is_in n i area p ≡ false → Taken n i levels area p 0 area
  taken_out e =
      record {
        number = next_out (is_in n i area) (alike n i levels area) before p e;
        chains = chains_out (is_in n i area) (alike n i levels area) (bucket_of n i levels area) n area p ch e;
        steady = steady_refl n area;
      }

  module _ (cp : is_in n i area p ≡ true) {r : Option ℕ} (ans : Answer (is_in n i area) (alike n i levels area) p r) where
    pub taken_old : ((j : ℕ) → get_or area j 0 < 256) → (q : ℕ) → r ≡ Some q → Taken n i levels area p (get_or levels (base n i + q) 0) area
    taken_old bytes q e =
        let f = ans.found q e in
        let l = f.0 in
        let g = marked_graph n area in
        let T = level_of n levels in
        record {
          number =
              sym (part_at levels (base n i) p q l)
              ∙ rw begun.numbers (next_alike (is_in n i area) (alike n i levels area) (at_refl rule g i T) (at_sym rule g i T) (at_trans rule g i T) p q cp l f.1 f.2);
          chains = chains_old (is_in n i area) (alike n i levels area) (bucket_of n i levels area) n area p ch (at_trans rule g i T) q l f.1 f.2
              (bucket_same n i levels area bytes q p (omega arith) hp f.2);
          steady = steady_refl n area;
        }

    pub taken_new : (b : ℕ) (area' : List ℕ) → 9 * (n * n) ≤ length area → (b ≡ bucket_of n i levels area p) × (b < n * n) → r ≡ None
        → area' ≡ set_word (set_word area (2 * (n * n) + 2 * p) (word area (4 * (n * n) + 2 * b))) (4 * (n * n) + 2 * b) (p + 1)
        → Taken n i levels area p (top + 1) area'
    taken_new b area' room eb l e =
        rw e
        (record {
          number = next_none (is_in n i area) (alike n i levels area) before p top cp (ans.none l) begun.largest;
          chains = head_chains n area b p room eb.1 hp (is_in n i area) (alike n i levels area) (bucket_of n i levels area) ch eb.0
              (at_refl rule (marked_graph n area) i (level_of n levels) p) cp (λ j. bucket_lt n i levels area p j hp);
          steady = head_steady n area b p room eb.1 hp;
        })
