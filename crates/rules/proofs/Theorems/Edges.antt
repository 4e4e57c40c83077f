-- Order and repetition of edges change no table, no count and no answer: two edge tables with the same edges give the same outcomes. Only refusal 4's place and the limit of 3 see more.
use Prim.Native.Nat.{ℕ}
use mathlib.Core.Path.{◌≡◌, refl, ap, ◌∙◌, fun_ext}
use mathlib.Core.Logic.{◌↔◌}
use mathlib.Core.List.{List}
use mathlib.Core.Bool.{Bool}
use Rattle.rules.specs.Graph.{Graph, has_edge, graph_of}
use Rattle.rules.specs.Verdict.{Verdict, good, refuse, edge_count, edges_fit}
use Rattle.rules.specs.Accept.{Index}
use Rattle.rules.specs.Outcomes.{BuildCall, build_refusal, build_tables, build_nothing, index_for, build_after, build, CheckCall, check_refusal, check_graph, check_after, check, DirectCall, direct_refusal, direct_list, direct}
use Rattle.rules.specs.Published.{InTable}
use Rattle.rules.proofs.Laws.Tests.{same}
use Rattle.rules.proofs.Laws.Graph.{edge_find, edge_here}

-- the same edges, in any order and as often as may be
pub record SameEdges (es fs : List ℕ) : Type 0 where
  pub edges : (v u l : ℕ) → InTable es v u l ↔ InTable fs v u l

-- past refusals 3 and 4
pub record Valid (items labels : ℕ) (es : List ℕ) : Type 0 where
  pub count : edge_count es ≡ good
  pub fit : edges_fit items labels es ≡ good

pub same_graph : (items labels : ℕ) (es fs : List ℕ) → SameEdges es fs → graph_of items labels es ≡ graph_of items labels fs
unfolding graph_of
same_graph n l es fs s =
    ap {B = Graph} (λ (f : ℕ → ℕ → ℕ → Bool). record { items = n; labels = l; edge = f })
    (fun_ext (λ v. fun_ext (λ u. fun_ext (λ l.
    same (has_edge es v u l) (has_edge fs v u l)
    (λ t. edge_here fs v u l ((s.edges v u l).0 (edge_find es v u l t)))
    (λ t. edge_here es v u l ((s.edges v u l).1 (edge_find fs v u l t)))))))

-- build: result, tables and area
module _ (items labels k : ℕ) (es fs levels starts order entries area : List ℕ) (s : SameEdges es fs) (v : Valid items labels es) (w : Valid items labels fs) where
  abbrev with_edges : List ℕ → BuildCall
  with_edges edges =
      record { items = items; labels = labels; k = k; edges = edges; levels = levels; starts = starts; order = order; entries = entries; area = area }

  build_refused_same : build_refusal (with_edges es) ≡ build_refusal (with_edges fs)
  unfolding build_refusal
  build_refused_same = rw (v.count, v.fit, w.count, w.fit) refl

  build_after_same : (r : Verdict) → build_after (with_edges es) r ≡ build_after (with_edges fs) r
  unfolding build_after build_tables build_nothing index_for
  build_after_same good = rw (same_graph items labels es fs s) refl
  build_after_same (refuse r) = refl

  pub build_same : build (with_edges es) ≡ build (with_edges fs)
  unfolding build
  build_same = build_after_same (build_refusal (with_edges es)) ∙ ap (build_after (with_edges fs)) build_refused_same

-- check
module _ (index : Index) (es fs area : List ℕ) (s : SameEdges es fs) (v : Valid index.items index.labels es) (w : Valid index.items index.labels fs) where
  abbrev against_edges : List ℕ → CheckCall
  against_edges edges = record { edges = edges; index = index; area = area }

  check_refused_same : check_refusal (against_edges es) ≡ check_refusal (against_edges fs)
  unfolding check_refusal
  check_refused_same = rw (v.count, v.fit, w.count, w.fit) refl

  check_after_same : (r : Verdict) → check_after (against_edges es) r ≡ check_after (against_edges fs) r
  unfolding check_after check_graph
  check_after_same good = rw (same_graph index.items index.labels es fs s) refl
  check_after_same (refuse r) = refl

  pub check_same : check (against_edges es) ≡ check (against_edges fs)
  unfolding check
  check_same = check_after_same (check_refusal (against_edges es)) ∙ ap (check_after (against_edges fs)) check_refused_same

-- direct answer
module _ (items labels : ℕ) (es fs tokens answers area : List ℕ) (s : SameEdges es fs) (v : Valid items labels es) (w : Valid items labels fs) where
  abbrev asked_of : List ℕ → DirectCall
  asked_of edges = record { items = items; labels = labels; edges = edges; tokens = tokens; answers = answers; area = area }

  pub direct_same : direct (asked_of es) ≡ direct (asked_of fs)
  unfolding direct direct_refusal direct_list
  direct_same = rw (v.count, v.fit, w.count, w.fit, same_graph items labels es fs s) refl
