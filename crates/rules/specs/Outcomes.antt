-- For each entry: the call, and as functions of it the result and every lent buffer afterwards.
use Rattle.rules.specs.declared.Counts.{Counts}
use Rattle.rules.specs.declared.Part.{Part}
use Rattle.std.specs.Prelude.{Err, Ok, Result, ℕ, suc, pred, ◌*◌, ◌/◌, List, [], ◌++◌, ◌||◌, cond, eqb, leb, ltb, length, get_or, take, drop}
use Rattle.std.proofs.Math.Seq.{slice}
use Rattle.rules.specs.declared.Refusal.{Refusal}
use Rattle.rules.specs.declared.Refusal.TheVariants.{EntryRoom, AnswerRoom, NoClass}
use Rattle.rules.specs.Finite.{table_below}
use Rattle.rules.specs.Graph.{Graph, graph_of}
use Rattle.rules.specs.Query.{answer_of}
use Rattle.rules.specs.Reading.{read_tokens}
use Rattle.rules.specs.Rule.{rule}
use Rattle.rules.specs.Levels.{max_of}
use Rattle.rules.specs.Lists.{code_from}
use Rattle.rules.specs.Stored.{part_from, part_to, stored_answer, class_answer}
use Rattle.rules.specs.Verdict.{Verdict, good, refuse, ◌or_else◌, sizes, level_count, edge_count, edges_fit, room, well_read, query_of, within_diameter, few_symbols, known_symbols}
use Rattle.rules.specs.Accept.{Index, top_of, accepts, built_index}

-- a list written at the front of a lent one; numbers past it never change
unfoldable pub front : List ℕ → List ℕ → List ℕ
front list old = list ++ drop (length list) old

-- what build answers: how many classes, connected pairs and entries there are
abbrev pub counted : ℕ → ℕ → ℕ → Counts
counted classes pairs entries = record { classes = classes; pairs = pairs; entries = entries }

-- a part of the caller's list: from the first index up to but without the second
abbrev pub span : ℕ → ℕ → Part
span from to = record { from = from; to = to }

-- the working area with its first 9·V² bytes zero
unfoldable pub zeroed : ℕ → List ℕ → List ℕ
zeroed items area = front (table_below (9 * (items * items)) (λ _. 0)) area

-- build
pub record BuildCall : Type 0 where
  pub items : ℕ
  pub labels : ℕ
  pub k : ℕ
  pub edges : List ℕ
  pub levels : List ℕ
  pub starts : List ℕ
  pub order : List ℕ
  pub entries : List ℕ
  pub area : List ℕ

pub record BuildEnd : Type 0 where
  pub result : Result Counts Refusal
  pub levels : List ℕ
  pub starts : List ℕ
  pub order : List ℕ
  pub entries : List ℕ
  pub area : List ℕ

-- build's order of refusals before any work: 1 2 3 4 5
unfoldable pub build_refusal : BuildCall → Verdict
build_refusal c =
    sizes c.items c.labels
    or_else level_count c.k
    or_else edge_count c.edges
    or_else edges_fit c.items c.labels c.edges
    or_else room c.area (9 * (c.items * c.items))
    or_else room c.levels (c.k * (c.items * c.items))
    or_else room c.order (c.items * c.items)
    or_else room c.starts (suc (c.items * c.items))

-- nothing is written
unfoldable pub build_nothing : BuildCall → Refusal → BuildEnd
build_nothing c r =
    record {
      result = Err r;
      levels = c.levels;
      starts = c.starts;
      order = c.order;
      entries = c.entries;
      area = c.area;
    }

-- the tables written; 6 leaves the entries, and all else as for 0
unfoldable pub build_tables : BuildCall → Index → BuildEnd
build_tables c x =
    let many = length x.entries / 2 in
    let fits = leb many (length c.entries / 2) in
    record {
      result = cond fits (Ok (counted (max_of (top_of x)) (length x.order) many)) (Err (EntryRoom many));
      levels = front x.levels c.levels;
      starts = front x.starts c.starts;
      order = front x.order c.order;
      entries = cond fits (front x.entries c.entries) c.entries;
      area = zeroed c.items c.area;
    }

-- the index that build writes for a call
unfoldable pub index_for : BuildCall → Index
index_for c = built_index rule (graph_of c.items c.labels c.edges) c.k

unfoldable pub build_after : BuildCall → Verdict → BuildEnd
build_after c good = build_tables c (index_for c)
build_after c (refuse r) = build_nothing c r

unfoldable pub build : BuildCall → BuildEnd
build c = build_after c (build_refusal c)

-- what build wrote, its lists cut to the counts that it returned: so they are handed to the check
unfoldable pub handed_over : BuildCall → ℕ → ℕ → ℕ → Index
handed_over c classes pairs entries =
    record {
      items = c.items;
      labels = c.labels;
      k = c.k;
      levels = (build c).levels;
      starts = take (suc classes) (build c).starts;
      order = take pairs (build c).order;
      entries = take (2 * entries) (build c).entries;
    }

-- check
pub record CheckCall : Type 0 where
  pub edges : List ℕ
  pub index : Index
  pub area : List ℕ

pub record CheckEnd : Type 0 where
  pub result : Result Unit Refusal
  pub area : List ℕ

-- check's order of refusals before any work: 1 2 3 4 5
unfoldable pub check_refusal : CheckCall → Verdict
check_refusal c =
    let x = c.index in
    sizes x.items x.labels
    or_else level_count x.k
    or_else edge_count c.edges
    or_else edges_fit x.items x.labels c.edges
    or_else room c.area (9 * (x.items * x.items))
    or_else room x.levels (x.k * (x.items * x.items))

-- the graph of a check's edge table
unfoldable pub check_graph : CheckCall → Graph
check_graph c = graph_of c.index.items c.index.labels c.edges

-- what a verdict is told as
unfoldable pub told : Verdict → Result Unit Refusal
told good = Ok tt
told (refuse r) = Err r

unfoldable pub check_after : CheckCall → Verdict → CheckEnd
check_after c good = record { result = told (accepts rule (check_graph c) c.index); area = zeroed c.index.items c.area }
check_after c (refuse r) = record { result = Err r; area = c.area }

unfoldable pub check : CheckCall → CheckEnd
check c = check_after c (check_refusal c)

-- the three answers leave a result, the answer list and the area
pub record AnswerEnd : Type 0 where
  pub result : Result ℕ Refusal
  pub answers : List ℕ
  pub area : List ℕ

-- an answer with room is written at the front; 13 leaves the answers; an earlier refusal leaves all
unfoldable pub answer_after : ℕ → List ℕ → List ℕ → List ℕ → Verdict → AnswerEnd
answer_after items list answers area good =
    let fits = leb (length list) (length answers) in
    record {
      result = cond fits (Ok (length list)) (Err (AnswerRoom (length list)));
      answers = cond fits (front list answers) answers;
      area = zeroed items area;
    }
answer_after items list answers area (refuse r) = record { result = Err r; answers = answers; area = area }

-- direct answer
pub record DirectCall : Type 0 where
  pub items : ℕ
  pub labels : ℕ
  pub edges : List ℕ
  pub tokens : List ℕ
  pub answers : List ℕ
  pub area : List ℕ

-- 1 3 4 7, token, 11, 5
unfoldable pub direct_refusal : DirectCall → Verdict
direct_refusal c =
    sizes c.items c.labels
    or_else edge_count c.edges
    or_else edges_fit c.items c.labels c.edges
    or_else well_read (read_tokens c.labels c.tokens)
    or_else room c.area (9 * (c.items * c.items))

unfoldable pub direct_list : DirectCall → List ℕ
direct_list c = answer_of (graph_of c.items c.labels c.edges) (query_of (read_tokens c.labels c.tokens))

unfoldable pub direct : DirectCall → AnswerEnd
direct c = answer_after c.items (direct_list c) c.answers c.area (direct_refusal c)

-- stored answer
pub record StoredCall : Type 0 where
  pub items : ℕ
  pub labels : ℕ
  pub table : List ℕ
  pub entries : List ℕ
  pub tokens : List ℕ
  pub answers : List ℕ
  pub area : List ℕ

-- 1, 7, token, 11, 5
unfoldable pub stored_refusal : StoredCall → Verdict
stored_refusal c =
    sizes c.items c.labels
    or_else well_read (read_tokens c.labels c.tokens)
    or_else room c.area (9 * (c.items * c.items))
    or_else room c.table (c.items * c.items)

unfoldable pub stored_list : StoredCall → List ℕ
stored_list c = stored_answer c.items c.table c.entries (query_of (read_tokens c.labels c.tokens))

unfoldable pub stored : StoredCall → AnswerEnd
stored c = answer_after c.items (stored_list c) c.answers c.area (stored_refusal c)

-- class answer
pub record ClassCall : Type 0 where
  pub items : ℕ
  pub labels : ℕ
  pub k : ℕ
  pub table : List ℕ
  pub entries : List ℕ
  pub tokens : List ℕ
  pub answers : List ℕ
  pub area : List ℕ

-- 1, 2, 7, token, 11, 12, 5
unfoldable pub class_refusal : ClassCall → Verdict
class_refusal c =
    sizes c.items c.labels
    or_else level_count c.k
    or_else well_read (read_tokens c.labels c.tokens)
    or_else within_diameter c.k (query_of (read_tokens c.labels c.tokens))
    or_else room c.area (9 * (c.items * c.items))
    or_else room c.table (c.items * c.items)

unfoldable pub class_list : ClassCall → List ℕ
class_list c = class_answer c.items c.table c.entries (query_of (read_tokens c.labels c.tokens))

unfoldable pub class : ClassCall → AnswerEnd
class c = answer_after c.items (class_list c) c.answers c.area (class_refusal c)

-- the numbers that stand in a part, none on a refusal
unfoldable pub part_of : List ℕ → Result Part Refusal → List ℕ
part_of list (Ok part) = slice part.from part.to list
part_of list (Err r) = []

-- pairs of a class: 14 if c is 0, starts has no place c, or its two bounds are out of order or pass the order list
unfoldable pub class_bounds : ℕ → List ℕ → List ℕ → Result Part Refusal
class_bounds c starts order =
    let from = get_or starts (pred c) 0 in
    let to = get_or starts c 0 in
    cond (eqb c 0 || (leb (length starts) c || (ltb to from || ltb (length order) to))) (Err NoClass) (Ok (span from to))

-- the bounds of the run of a code, in numbers of the entry list; 0 and 0 if there is none
unfoldable pub run_bounds : List ℕ → ℕ → Result Part Refusal
run_bounds entries code =
    cond (ltb (part_from entries code) (length entries / 2)) (Ok (span (2 * part_from entries code) (2 * part_to entries code))) (Ok (span 0 0))

unfoldable pub lookup_after : List ℕ → List ℕ → Verdict → Result Part Refusal
lookup_after symbols entries good = run_bounds entries (code_from 0 symbols)
lookup_after symbols entries (refuse r) = Err r

-- sequence lookup: 12, 8
unfoldable pub lookup_bounds : List ℕ → List ℕ → Result Part Refusal
lookup_bounds symbols entries = lookup_after symbols entries (few_symbols symbols or_else known_symbols symbols)
