-- How large the numbers of a table's lists can be: they fit 32 bits.
use Prim.Native.Nat.{ℕ, zero, suc, ◌+◌, ◌*◌, ◌/◌, ◌%◌, ◌≤◌}
use mathlib.Core.Path.{◌≡◌, refl}
use mathlib.Core.List.{List, [], ◌∷◌}
use native.Mathlib.Nat.{mul-le-mul}
use native.Mathlib.Omega.{arith}
use lib.ListN.{length}
use Rattle.rules.specs.Graph.{Graph, graph_of}
use Rattle.rules.specs.Levels.{max_of}
use Rattle.rules.specs.Lists.{code_from, entries_of}
use Rattle.rules.specs.Published.{Symbols, end, symbol}
use Rattle.rules.proofs.Laws.Entries.{Rising, none, more, least, code_range, up_rising}
use Rattle.rules.proofs.Laws.Places.{square_le}
use Rattle.sorting.specs.Sort.{Contiguous}
use Rattle.sorting.proofs.Laws.Numbers.{max_few}
use Rattle.top.specs.Tables.{ListsStored}

-- an entry takes two numbers, and each has a key of its own
rising_few : {m a b : ℕ} {l : List ℕ} → Rising m a b l → (length l % 2 ≡ 0) × (length l / 2 + a ≤ b)
rising_few (none h) = (refl, omega (arith, h))
rising_few (more s h t r) = let q = rising_few r in (omega (arith, q.0), omega (arith, q.1))

one : {ss : List ℕ} → Symbols 8 ss → Symbols 8 (1 ∷ ss)
one y = symbol {s = 1} (omega arith) (omega arith) y

-- no more than the code of as many symbols 1 behind 1
least_few : (k : ℕ) → k ≤ 4 → least k 1 ≤ 88741
unfolding code_from
least_few zero h = let b : least zero 1 ≤ 1 = (code_range 8 (omega arith) [] 1 end).0 in omega (arith, b)
least_few (suc zero) h = let b : least (suc zero) 1 ≤ 18 = (code_range 8 (omega arith) (1 ∷ []) 1 (one end)).0 in omega (arith, b)
least_few (suc (suc zero)) h =
    let b : least (suc (suc zero)) 1 ≤ 307 = (code_range 8 (omega arith) (1 ∷ (1 ∷ [])) 1 (one (one end))).0 in omega (arith, b)
least_few (suc (suc (suc zero))) h =
    let b : least (suc (suc (suc zero))) 1 ≤ 5220 = (code_range 8 (omega arith) (1 ∷ (1 ∷ (1 ∷ []))) 1 (one (one (one end)))).0 in omega (arith, b)
least_few (suc (suc (suc (suc zero)))) h =
    (code_range 8 (omega arith) (1 ∷ (1 ∷ (1 ∷ (1 ∷ [])))) 1 (one (one (one (one end))))).0
least_few (suc (suc (suc (suc (suc k))))) h = absurd (omega arith)

pub record Few (g : Graph) (k : ℕ) (t : List ℕ) : Type 0 where
  pub even : length (entries_of g k t) % 2 ≡ 0
  pub few : length (entries_of g k t) / 2 ≤ 1454021285

pub entries_few : (g : Graph) (k n : ℕ) (t : List ℕ) → g.labels ≤ 8 → k ≤ 4 → n ≤ 128 → length t ≡ n * n → Contiguous t → Few g k t
unfolding entries_of
entries_few g k n t l h few size whole =
    let c = max_of t in
    let small : suc c ≤ 16385 = omega (arith, max_few t whole, size, square_le few) in
    let r = rising_few (up_rising g t l c k) in
    let most : least k 1 * suc c ≤ 88741 * 16385 = mul-le-mul {n₁ = least k 1} {m₁ = suc c} {n₂ = 88741} {m₂ = 16385} (least_few k h) small in
    record { even = r.0; few = omega (arith, r.1, most) }

pub few_entries : (n labels k : ℕ) (edges t area : List ℕ) → ListsStored n labels k edges t area → Few (graph_of n labels edges) k t
unfolding graph_of
few_entries n labels k edges t area r = entries_few (graph_of n labels edges) k n t r.few_labels r.few_levels r.few_items r.square r.numbered
