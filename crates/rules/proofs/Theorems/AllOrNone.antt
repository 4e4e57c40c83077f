-- Demand 3, second part: once tables are accepted, for every query of diameter at most k, however long, and every class, all its pairs meet the query or none does.
use Rattle.std.proofs.Common.{Ok}
use Prim.Native.Nat.{ℕ, ◌*◌, ◌/◌, ◌%◌, ◌≤◌, ◌<◌}
use mathlib.Core.Path.{◌≡◌, sym, ◌∙◌}
use mathlib.Core.Logic.{◌↔◌}
use lib.ListN.{get_or}
use Rattle.rules.specs.Graph.{graph_of}
use Rattle.rules.specs.Rule.{rule}
use Rattle.rules.specs.Levels.{level_of}
use Rattle.rules.specs.Query.{Query, diameter}
use Rattle.rules.specs.Accept.{top_of}
use Rattle.rules.specs.Outcomes.{CheckCall, check_graph, check}
use Rattle.rules.specs.Published.{WellFormed, Meets}
use Rattle.rules.proofs.Laws.Calls.{passed}
use Rattle.rules.proofs.Laws.Query.{meets_find, meets_here}
use Rattle.rules.proofs.Laws.AllOrNone.{all_or_none_class}
use Rattle.rules.proofs.Theorems.Acceptance.{accepted_exactly}
use Rattle.rules.proofs.Laws.Lawful.{rule_laws}

module _ (c : CheckCall) (ok : (check c).result ≡ Ok tt) where
  -- a and b are positions of one class of the stored level-k table
  pub all_or_none : (q : Query) → WellFormed c.index.labels q → diameter q ≤ c.index.k
      → (class : ℕ) → 0 < class → (a b : ℕ) → a < c.index.items * c.index.items → b < c.index.items * c.index.items
      → get_or (top_of c.index) a 0 ≡ class → get_or (top_of c.index) b 0 ≡ class
      → Meets (check_graph c) q (a / c.index.items) (a % c.index.items) ↔ Meets (check_graph c) q (b / c.index.items) (b % c.index.items)
  unfolding top_of check_graph graph_of
  all_or_none q w d class p a b ha hb ea eb =
      let x = c.index in
      let g = check_graph c in
      let n = x.items in
      let r = (accepted_exactly c).0 ok in
      let same = all_or_none_class rule rule_laws g x.k (level_of n x.levels) r.1.levels q w (passed c r.0).levels.some_level d class p a b ha hb ea eb in (
        λ m. meets_find g q (b / n) (b % n) (sym same ∙ meets_here g q (a / n) (a % n) m),
        λ m. meets_find g q (a / n) (a % n) (same ∙ meets_here g q (b / n) (b % n) m),
      )
