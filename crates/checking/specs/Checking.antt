-- The verdict on stored lists.
use Rattle.std.specs.Prelude.{ℕ, List}
use Rattle.rules.specs.declared.Refusal.TheVariants.{ListFault, EntryFault}
use Rattle.rules.specs.Graph.{Graph}
use Rattle.rules.specs.Lists.{starts_of, order_of, entries_of}
use Rattle.rules.specs.Verdict.{Verdict, ◌or_else◌}
use Rattle.rules.specs.Accept.{same_list}

-- 16 for starts, then for order, then 17
unfoldable pub lists_verdict : Graph → ℕ → List ℕ → List ℕ → List ℕ → List ℕ → Verdict
lists_verdict g k t starts order entries =
    same_list (starts_of t) starts (ListFault 1) or_else same_list (order_of t) order (ListFault 2) or_else same_list (entries_of g k t) entries EntryFault
