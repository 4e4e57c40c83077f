-- Two ways: no room for both numbers, and nothing is written; or the entry stands behind the k before it. The difference is `meet`'s.
use mathlib.Core.Path.{refl}
use lib.ListN.{length-set}
use Rattle.entries.proofs.Laws.Went as went
use Rattle.entries.proofs.list.EntryList.put.Goals as goal

pub returns-then-i-self : goal.returns-then-i-self
returns-then-i-self c = (refl, went.went_full _ _ _ _ _ _ _ c.meet-met.ensures c.if-i-self.true, record { stored = refl; out = refl; size = refl })

pub returns : goal.returns
returns c = (refl, went.went_put _ _ _ _ _ _ _ c.meet-met.ensures c.if-i-self.false, record { stored = refl; out = refl; size = simp length-set })
