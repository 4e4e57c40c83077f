-- What the entries promise one after the other: what build left is accepted by check; once check has accepted, stored answers end as direct answers do,
-- and all pairs of a class are answered or none. All is said of ends that meet the entries' own promises.
use Rattle.std.proofs.Common.{Err, Ok}
use Rattle.rules.specs.Outcomes.{counted}
use Prim.Native.Nat.{ℕ, suc, ◌*◌, ◌/◌, ◌%◌, ◌≤◌, ◌<◌}
use mathlib.Core.Path.{◌≡◌, refl, sym, ap, ◌∙◌, subst}
use mathlib.Core.Logic.{◌↔◌}
use mathlib.Core.List.{List, Memᴰ}
use mathlib.Core.Bool.{Bool, true, false, cond}
use native.Mathlib.Omega.{arith}
use lib.Dec.{leb}
use lib.ListN.{length, get_or, take, drop}
use lib.Seq.{take_at}
use Rattle.rules.specs.declared.Refusal.{Refusal}
use Rattle.rules.specs.declared.Refusal.TheVariants.{AnswerRoom}
use Rattle.rules.specs.Finite.{table_below}
use Rattle.rules.specs.Query.{Query, diameter, answer_by, answer_of, meets}
use Rattle.rules.specs.Reading.{asks, read_tokens}
use Rattle.rules.specs.Verdict.{Verdict, good, refuse, query_of}
use Rattle.rules.specs.Rule.{rule}
use Rattle.rules.specs.Graph.{graph_of}
use Rattle.rules.specs.Levels.{level_of}
use Rattle.rules.specs.Accept.{Index, top_of}
use Rattle.rules.specs.Outcomes.{front, BuildCall, BuildEnd, handed_over, CheckCall, CheckEnd, check_graph, check, AnswerEnd, answer_after, DirectCall, direct_list, direct_refusal, direct, StoredCall, stored}
use Rattle.rules.specs.Promises.{Builds, Checks, AnswersDirectly, AnswersStored}
use Rattle.rules.specs.Published.{WellFormed, Meets}
use Rattle.rules.proofs.Laws.Listing.{table_length, list_find, list_here}
use Rattle.rules.proofs.Laws.Calls.{passed}
use Rattle.rules.proofs.Laws.Reading.{reading_formed}
use Rattle.rules.proofs.Laws.AllOrNone.{all_or_none_class}
use Rattle.rules.proofs.Theorems.Acceptance.{accepted_exactly}
use Rattle.rules.proofs.Theorems.AllOrNone.{all_or_none}
use Rattle.rules.proofs.Theorems.Builder.{builder_is_accepted}
use Rattle.rules.proofs.Theorems.Determined.{build_end_lem, answer_end}
use Rattle.rules.proofs.Theorems.Stored.{stored_is_direct}
use Rattle.rules.specs.Calls.{direct_call, stored_call}
use Rattle.rules.specs.Calls.{index_of}
use Rattle.rules.proofs.Laws.Lawful.{rule_laws}

-- the tables that build left, the lists cut to the counts that it returned
unfoldable pub cut : BuildCall → BuildEnd → ℕ → ℕ → ℕ → Index
cut c e classes pairs entries =
    index_of c.items c.labels c.k e.levels (take (suc classes) e.starts) (take pairs e.order) (take (2 * entries) e.entries)

-- check is called with them, over the edge table of the build
unfoldable pub check_of : BuildCall → BuildEnd → ℕ → ℕ → ℕ → List ℕ → CheckCall
check_of c e classes pairs entries area = record { edges = c.edges; index = cut c e classes pairs entries; area = area }

-- an answer from the edge table of a check, and one from its tables
unfoldable pub from_edges : CheckCall → List ℕ → List ℕ → List ℕ → DirectCall
from_edges c tokens answers area = direct_call c.index.items c.index.labels c.edges tokens answers area

unfoldable pub from_tables : CheckCall → List ℕ → List ℕ → List ℕ → List ℕ → StoredCall
from_tables c table tokens answers area = stored_call c.index.items c.index.labels table c.index.entries tokens answers area

module _ (c : BuildCall) (e : BuildEnd) (built : Builds c e) (classes pairs entries : ℕ) (done : e.result ≡ Ok (counted classes pairs entries)) where
  accepted_outcome : (area : List ℕ) → 9 * (c.items * c.items) ≤ length area → (check (check_of c e classes pairs entries area)).result ≡ Ok tt
  unfolding check_of cut handed_over
  accepted_outcome area room =
      subst (λ (b : BuildEnd). (check (check_of c b classes pairs entries area)).result ≡ Ok tt) (sym (build_end_lem c e built))
      (builder_is_accepted c classes pairs entries (sym built.result ∙ done) area room)

  -- what build writes, cut to the counts that it returned, is accepted, with any area that is large enough
  pub built_is_accepted : (area : List ℕ) → 9 * (c.items * c.items) ≤ length area
      → (f : CheckEnd) → Checks (check_of c e classes pairs entries area) f → f.result ≡ Ok tt
  built_is_accepted area room f checked = checked.result ∙ accepted_outcome area room

-- an answer that was given stands at the front of the answer list
answer_given : (items : ℕ) (list answers area : List ℕ) (v : Verdict) (m : ℕ) → (answer_after items list answers area v).result ≡ Ok m
    → take m (answer_after items list answers area v).answers ≡ list
unfolding answer_after front
answer_given items list answers area good m e = given (leb (length list) (length answers)) e
  where
    refused_answers : {C : Type 0} {r : Refusal} → Err r ≡ Ok m → C
    refused_answers q = let z : ◌≡◌ {A = ℕ} 0 1 = cc in absurd (omega arith)

    given : (b : Bool) → cond b (Ok (length list)) (Err (AnswerRoom (length list))) ≡ Ok m
        → take m (cond b (front list answers) answers) ≡ list
    given true q = let l : length list ≡ m = cc in take_at list (drop (length list) answers) m l
    given false q = refused_answers q
answer_given items list answers area (refuse r) m e = let z : ◌≡◌ {A = ℕ} 0 1 = cc in absurd (omega arith)

module _ (c : CheckCall) (e : CheckEnd) (checked : Checks c e) (ok : e.result ≡ Ok tt) where
  accepted : (check c).result ≡ Ok tt
  accepted = sym checked.result ∙ ok

  -- once check has accepted: for every query of diameter at most k and every class, all its pairs meet the query or none does
  pub accepted_all_or_none : (q : Query) → WellFormed c.index.labels q → diameter q ≤ c.index.k
      → (class : ℕ) → 0 < class → (a b : ℕ) → a < c.index.items * c.index.items → b < c.index.items * c.index.items
      → get_or (top_of c.index) a 0 ≡ class → get_or (top_of c.index) b 0 ≡ class
      → Meets (check_graph c) q (a / c.index.items) (a % c.index.items) ↔ Meets (check_graph c) q (b / c.index.items) (b % c.index.items)
  accepted_all_or_none = all_or_none c accepted

  module _ (tokens answers area : List ℕ) where
    -- stored answers end as direct answers do: result, answers and area, refusals included
    pub stored_ends_as_direct : (table : List ℕ) → take (c.index.items * c.index.items) table ≡ top_of c.index
        → (s d : AnswerEnd) → AnswersStored (from_tables c table tokens answers area) s → AnswersDirectly (from_edges c tokens answers area) d → s ≡ d
    unfolding from_tables from_edges
    stored_ends_as_direct table top s d fs fd =
        answer_end (stored (from_tables c table tokens answers area)) s fs
        ∙ stored_is_direct c accepted table top tokens answers area
        ∙ sym (answer_end (direct (from_edges c tokens answers area)) d fd)

    module _ (q : Query) (read : read_tokens c.index.labels tokens ≡ asks q) (short : diameter q ≤ c.index.k) where
      same_meets : (class : ℕ) → 0 < class → (a b : ℕ) → a < c.index.items * c.index.items → b < c.index.items * c.index.items
          → get_or (top_of c.index) a 0 ≡ class → get_or (top_of c.index) b 0 ≡ class
          → Memᴰ a (answer_of (check_graph c) q) → Memᴰ b (answer_of (check_graph c) q)
      unfolding top_of check_graph graph_of answer_of answer_by meets
      same_meets class some a b ha hb ea eb m =
          let n = c.index.items in
          let g = check_graph c in
          let r = (accepted_exactly c).0 accepted in
          let same = all_or_none_class rule rule_laws g c.index.k (level_of n c.index.levels) r.1.levels q (reading_formed c.index.labels tokens q read)
          (passed c r.0).levels.some_level short class some a b ha hb ea eb in
          list_here (λ p. meets g q (p / n) (p % n)) (n * n) b hb (sym same ∙ (list_find (λ p. meets g q (p / n) (p % n)) (n * n) a m).1)

      -- what a direct answer gives holds all pairs of a class or none: a stands among its answers, so does b
      pub direct_all_or_none : (d : AnswerEnd) → AnswersDirectly (from_edges c tokens answers area) d → (m : ℕ) → d.result ≡ Ok m
          → (class : ℕ) → 0 < class → (a b : ℕ) → a < c.index.items * c.index.items → b < c.index.items * c.index.items
          → get_or (top_of c.index) a 0 ≡ class → get_or (top_of c.index) b 0 ≡ class
          → Memᴰ a (take m d.answers) → Memᴰ b (take m d.answers)
      unfolding direct direct_list query_of from_edges check_graph
      direct_all_or_none d fd m some_answers class some a b ha hb ea eb h =
          let call = from_edges c tokens answers area in
          let list : direct_list call ≡ answer_of (check_graph c) q = ap (λ r. answer_of (check_graph c) (query_of r)) read in
          let given : take m d.answers ≡ answer_of (check_graph c) q =
          ap (take m) fd.answers
          ∙ answer_given c.index.items (direct_list call) answers area (direct_refusal call) m (sym fd.result ∙ some_answers) ∙ list in
          subst (λ (l : List ℕ). Memᴰ b l) (sym given)
          (same_meets class some a b ha hb ea eb (subst (λ (l : List ℕ). Memᴰ a l) given h))

      -- and so does a stored answer
      pub stored_all_or_none : (table : List ℕ) → take (c.index.items * c.index.items) table ≡ top_of c.index
          → (s : AnswerEnd) → AnswersStored (from_tables c table tokens answers area) s → (m : ℕ) → s.result ≡ Ok m
          → (class : ℕ) → 0 < class → (a b : ℕ) → a < c.index.items * c.index.items → b < c.index.items * c.index.items
          → get_or (top_of c.index) a 0 ≡ class → get_or (top_of c.index) b 0 ≡ class
          → Memᴰ a (take m s.answers) → Memᴰ b (take m s.answers)
      stored_all_or_none table top s fs m some_answers class some a b ha hb ea eb h =
          let d = direct (from_edges c tokens answers area) in
          let itself : AnswersDirectly (from_edges c tokens answers area) d = record { result = refl; answers = refl; area = refl } in
          let ends : s ≡ d = stored_ends_as_direct table top s d fs itself in
          subst (λ (x : AnswerEnd). Memᴰ b (take m x.answers)) (sym ends)
          (direct_all_or_none d itself m (sym (ap (λ (x : AnswerEnd). x.result) ends) ∙ some_answers) class some a b ha hb ea eb
          (subst (λ (x : AnswerEnd). Memᴰ a (take m x.answers)) ends h))

module _ (c : BuildCall) (e : BuildEnd) (built : Builds c e) (classes pairs entries : ℕ) (done : e.result ≡ Ok (counted classes pairs entries)) where
  -- with what build left, stored answers end as direct answers do: no check has to be called
  pub built_answers : (tokens answers area table : List ℕ) → take (c.items * c.items) table ≡ top_of (cut c e classes pairs entries)
      → (s d : AnswerEnd) → AnswersStored (from_tables (check_of c e classes pairs entries area) table tokens answers area) s
      → AnswersDirectly (from_edges (check_of c e classes pairs entries area) tokens answers area) d → s ≡ d
  unfolding check_of cut from_tables from_edges
  built_answers tokens answers area table top s d fs fd =
      let size = 9 * (c.items * c.items) in
      let zeros = table_below size (λ _. 0) in
      let call = check_of c e classes pairs entries zeros in
      let room : size ≤ length zeros = omega (arith, table_length (λ _. 0) size) in
      stored_ends_as_direct call (check call) (record { result = refl; area = refl }) (accepted_outcome c e built classes pairs entries done zeros room)
      tokens answers area table top s d fs fd
