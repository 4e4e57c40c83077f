-- The entries of all lengths, and the two ways in which they are used: written, and compared.
use Prim.Native.Nat.{ℕ, zero, suc, ◌+◌, ◌*◌, ◌/◌, ◌≤◌, ◌<◌}
use mathlib.Core.Path.{◌≡◌, refl, sym, ap, ◌∙◌}
use mathlib.Core.List.{List, [], ◌++◌, append-nil, append_assoc}
use native.Mathlib.Numerals.{add-one}
use native.Mathlib.Omega.{arith}
use lib.Dec.{eqb}
use lib.ListN.{length}
use Rattle.rules.specs.Graph.{Graph, graph_of}
use Rattle.rules.specs.Levels.{max_of}
use Rattle.rules.specs.Lists.{joins, code_from, entries_behind, entries_up_to, entries_of, each_up_to}
use Rattle.sorting.proofs.Laws.Difference.{is_difference}
use Rattle.sequences.proofs.Laws.Leaves.{leaf}
use Rattle.sorting.specs.Sort.{Contiguous}
use Rattle.entries.specs.Entries.{Went, entries_rows}
use Rattle.lists.specs.Listing.{Listed, Compared}

-- the entries of the sequences of 1 to j symbols
abbrev pub longer : Graph → List ℕ → ℕ → ℕ → List ℕ
longer g t c j = each_up_to j (λ i. entries_behind g t c i [])

pub longer_none : (g : Graph) (t : List ℕ) (c : ℕ) → [] ≡ longer g t c 0
unfolding each_up_to
longer_none g t c = refl

pub longer_more : (g : Graph) (t : List ℕ) (c j : ℕ) → longer g t c j ++ entries_behind g t c (j + 1) [] ≡ longer g t c (j + 1)
unfolding each_up_to
longer_more g t c j = rw (add-one j)

all_lengths : (g : Graph) (t : List ℕ) (c k : ℕ) → entries_behind g t c 0 [] ++ longer g t c k ≡ entries_up_to g t c k
unfolding entries_up_to each_up_to
all_lengths g t c zero = append-nil (entries_behind g t c 0 [])
all_lengths g t c (suc k) = sym (append_assoc (entries_behind g t c 0 []) (longer g t c k) (entries_behind g t c (suc k) [])) ∙ ap (λ (l : List ℕ). l ++ entries_behind g t c (suc k) []) (all_lengths g t c k)

pub lengths_all : (g : Graph) (t : List ℕ) (c k j : ℕ) → j ≡ k → entries_behind g t c 0 [] ++ longer g t c j ≡ entries_up_to g t c k
lengths_all g t c k j e = rw e (all_lengths g t c k)

-- the identity is what the empty sequence joins
pub empty_entries : (n labels : ℕ) (es t : List ℕ) → Contiguous t → length t ≡ n * n
    → entries_rows n t (λ v u. eqb v u) 0 n ≡ entries_behind (graph_of n labels es) t (max_of t) 0 []
unfolding joins code_from
empty_entries n labels es t whole square = leaf n labels es t whole square [] 0 refl

pub empty_code : code_from 0 [] ≡ 0
unfolding code_from
empty_code = refl

-- ---- the pass that counts, and the pass that writes
module _ (g : Graph) (k : ℕ) (t : List ℕ) where
  pub listed_room : (r m q m' : ℕ) (s a b s' old new : List ℕ) → Went 0 0 r m (entries_up_to g t (max_of t) k) s a b → Went 0 0 q m' (entries_up_to g t (max_of t) k) s' old new
      → r ≤ length old / 2 → Listed r (entries_of g k t) old new
  unfolding entries_of
  listed_room r m q m' s a b s' old new c w h = record {
    count = omega (arith, c.count);
    text = λ l. let e : 2 * q ≡ length (entries_up_to g t (max_of t) k) = omega (arith, w.count) in rw e at (w.text (omega (arith, c.count, w.count)));
    none = λ l. absurd (no l);
  }
    where
      no : length old / 2 < r → ⊥
      no l = omega arith

  pub listed_short : (r m : ℕ) (s a b old : List ℕ) → Went 0 0 r m (entries_up_to g t (max_of t) k) s a b → length old / 2 < r → Listed r (entries_of g k t) old old
  unfolding entries_of
  listed_short r m s a b old c h = record { count = omega (arith, c.count); text = λ l. absurd (no l); none = λ l. refl }
    where
      no : r ≤ length old / 2 → ⊥
      no l = omega arith

  pub compared : (r m : ℕ) (s a b : List ℕ) → Went 0 0 r m (entries_up_to g t (max_of t) k) s a b → Compared r m (entries_of g k t) s
  unfolding entries_of
  compared r m s a b w = record {
    count = omega (arith, w.count);
    first = w.meets [] refl (is_difference [] s 0 (record { left = omega arith; right = omega arith; same = λ j h. absurd (native.Mathlib.Nat.not-suc-le-zero h); stops = λ h. absurd (native.Mathlib.Nat.not-suc-le-zero h) }));
  }

-- the list is known by another name
pub listed_to : (r : ℕ) (es old : List ℕ) {b new : List ℕ} → new ≡ b → Listed r es old b → Listed r es old new
listed_to r es old d w = rw d w
