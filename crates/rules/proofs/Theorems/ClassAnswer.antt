-- Demand 3 for class answers: once tables are accepted, a query of diameter at most k gets exactly the classes all of whose pairs meet it.
use Rattle.std.proofs.Common.{Ok}
use Prim.Native.Nat.{ℕ, ◌*◌, ◌/◌, ◌%◌, ◌≤◌, ◌<◌}
use mathlib.Core.Path.{◌≡◌, sym, ap, ◌∙◌, subst}
use mathlib.Core.Logic.{◌↔◌}
use mathlib.Core.List.{List, Memᴰ}
use lib.ListN.{get_or, take}
use lib.Seq.{get_or-take}
use Rattle.rules.specs.Graph.{graph_of}
use Rattle.rules.specs.Query.{Query, diameter}
use Rattle.rules.specs.Stored.{class_answer}
use Rattle.rules.specs.Accept.{top_of}
use Rattle.rules.specs.Outcomes.{CheckCall, check_graph, check}
use Rattle.rules.specs.Published.{WellFormed, Meets}
use Rattle.rules.proofs.Laws.Query.{meets_find, meets_here}
use Rattle.rules.proofs.Laws.ClassAnswer.{class_from, class_here}
use Rattle.rules.proofs.Theorems.AllOrNone.{all_or_none}
use Rattle.rules.proofs.Theorems.Stored.{accepted_tables_sound}

-- a class of the level-k table t of n items all of whose pairs meet the query
pub record MeetsWholly (c : CheckCall) (q : Query) (class : ℕ) : Type 0 where
  pub some : 0 < class
  pub pair : ℕ
  pub inside : pair < c.index.items * c.index.items
  pub numbered : get_or (top_of c.index) pair 0 ≡ class
  pub all : (p : ℕ) → p < c.index.items * c.index.items → get_or (top_of c.index) p 0 ≡ class
      → Meets (check_graph c) q (p / c.index.items) (p % c.index.items)

module _ (c : CheckCall) (ok : (check c).result ≡ Ok tt) (table : List ℕ) (front : take (c.index.items * c.index.items) table ≡ top_of c.index)
    (q : Query) (formed : WellFormed c.index.labels q) (short : diameter q ≤ c.index.k) where
  same_number : (p : ℕ) → p < c.index.items * c.index.items → get_or (top_of c.index) p 0 ≡ get_or table p 0
  same_number p h = ap (λ (t : List ℕ). get_or t p 0) (sym front) ∙ get_or-take (c.index.items * c.index.items) table p 0 h

  pub class_exact : (class : ℕ) → Memᴰ class (class_answer c.index.items table c.index.entries q) ↔ MeetsWholly c q class
  unfolding check_graph graph_of
  class_exact class = (there, back)
    where
      there : Memᴰ class (class_answer c.index.items table c.index.entries q) → MeetsWholly c q class
      there m =
          let g = check_graph c in
          let n = c.index.items in
          let r = class_from g table c.index.entries (accepted_tables_sound c ok table front) q formed class m in
          let p = r.0 in
          let e : get_or (top_of c.index) p 0 ≡ class = same_number p r.1 ∙ r.2 in
          record {
            some = r.3;
            pair = p;
            inside = r.1;
            numbered = e;
            all = λ a h ea. (all_or_none c ok q formed short class r.3 p a r.1 h e ea).0 (meets_find g q (p / n) (p % n) r.4);
          }

      back : MeetsWholly c q class → Memᴰ class (class_answer c.index.items table c.index.entries q)
      back w =
          let g = check_graph c in
          let n = c.index.items in
          let p = w.pair in
          let e : get_or table p 0 ≡ class = sym (same_number p w.inside) ∙ w.numbered in
          subst (λ (x : ℕ). Memᴰ x (class_answer c.index.items table c.index.entries q)) e
          (class_here g table c.index.entries (accepted_tables_sound c ok table front) q formed p w.inside (subst (λ (x : ℕ). 0 < x) (sym e) w.some)
          (λ a h ea. meets_here g q (a / n) (a % n) (w.all a h (same_number a h ∙ ea ∙ e))))
