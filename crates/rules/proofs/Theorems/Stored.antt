-- Demand 3, third part: once tables are accepted, any query gets from them, with the same room and area, what the edge table gives: result, answers and area, refusals included.
use Rattle.std.proofs.Common.{Ok}
use Prim.Native.Nat.{ℕ, ◌+◌, ◌*◌, ◌≤◌, ◌<◌}
use mathlib.Core.Path.{◌≡◌, refl, sym, ap, ◌∙◌, subst}
use mathlib.Core.List.{List}
use mathlib.Core.Bool.{◌&&◌}
use native.Mathlib.Omega.{arith}
use lib.Dec.{ltb}
use lib.ListN.{length, take, length-take}
use lib.Seq.{get_or-take}
use Rattle.rules.specs.Graph.{Graph, graph_of}
use Rattle.rules.specs.Rule.{rule}
use Rattle.rules.specs.Query.{Query}
use Rattle.rules.specs.Reading.{Reading, asks, fault, read_tokens}
use Rattle.rules.specs.Levels.{number_at, level_of}
use Rattle.rules.specs.Stored.{stands, stored_step}
use Rattle.rules.specs.Verdict.{Verdict, good, refuse, ◌or_else◌, sizes, edge_count, edges_fit, well_read, query_of, room}
use Rattle.rules.specs.Accept.{top_of}
use Rattle.rules.specs.Outcomes.{CheckCall, check_graph, check, answer_after, DirectCall, direct_refusal, direct_list, direct, StoredCall, stored_refusal, stored_list, stored}
use Rattle.rules.proofs.Laws.Places.{place_lt}
use Rattle.rules.proofs.Laws.Verdict.{good_or_else}
use Rattle.rules.proofs.Laws.Links.{fits_room}
use Rattle.rules.proofs.Laws.Calls.{passed, top_length}
use Rattle.rules.proofs.Laws.Reading.{reading_formed}
use Rattle.rules.proofs.Laws.Sound.{Sound, sound_answer, accepted_sound}
use Rattle.rules.proofs.Theorems.Acceptance.{accepted_exactly}
use Rattle.rules.proofs.Laws.Lawful.{rule_laws}

-- a longer table: what stands past V² numbers is not looked at
pub sound_longer : (g : Graph) (table entries : List ℕ) → Sound g (take (g.items * g.items) table) entries → Sound g table entries
sound_longer g table entries s = record { steps = λ z p h v u hv hu. same z v u hv hu ∙ s.steps z p h v u hv hu }
  where
    at : (v u : ℕ) → v < g.items → u < g.items → number_at g.items table v u ≡ number_at g.items (take (g.items * g.items) table) v u
    at v u hv hu = unfold number_at in sym (get_or-take (g.items * g.items) table (v * g.items + u) 0 (place_lt g.items v u hv hu))

    same : (z v u : ℕ) → v < g.items → u < g.items → stored_step g.items table entries z v u ≡ stored_step g.items (take (g.items * g.items) table) entries z v u
    same z v u hv hu = unfold stored_step in ap (λ (c : ℕ). ltb 0 c && stands entries z c) (at v u hv hu)

or_else_end : (v : Verdict) → (v or_else good) ≡ v
unfolding ◌or_else◌
or_else_end good = refl
or_else_end (refuse r) = refl

-- accepted tables are sound, also where the level-k table is lent with more behind it
pub accepted_tables_sound : (c : CheckCall) → (check c).result ≡ Ok tt → (table : List ℕ) → take (c.index.items * c.index.items) table ≡ top_of c.index
    → Sound (check_graph c) table c.index.entries
unfolding check_graph graph_of top_of
accepted_tables_sound c ok table front =
    let x = c.index in
    let g = check_graph c in
    let r = (accepted_exactly c).0 ok in
    let p = passed c r.0 in
    let own = accepted_sound rule rule_laws g x.k (level_of x.items x.levels) r.1.levels p.levels.some_level p.sizes_fit.labels_fit
    (top_length x p.levels.some_level p.tables) in
    sound_longer g table x.entries (subst (λ (t : List ℕ). Sound g t x.entries) (sym front)
    (subst (λ (es : List ℕ). Sound g (level_of x.items x.levels x.k) es) r.1.entries own))

-- two lists that are the same wherever a query is read end the same
answer_same : (items : ℕ) (xs ys answers area : List ℕ) (v : Verdict) (r : Reading) → ((q : Query) → r ≡ asks q → xs ≡ ys)
    → answer_after items xs answers area (well_read r or_else v) ≡ answer_after items ys answers area (well_read r or_else v)
unfolding well_read ◌or_else◌ answer_after
answer_same items xs ys answers area v (asks q) h = ap (λ (l : List ℕ). answer_after items l answers area v) (h q refl)
answer_same items xs ys answers area v (fault r) h = refl

module _ (c : CheckCall) (ok : (check c).result ≡ Ok tt) (table : List ℕ) (front : take (c.index.items * c.index.items) table ≡ top_of c.index)
    (tokens answers area : List ℕ) where
  abbrev from_edges_lem : DirectCall
  from_edges_lem = record { items = c.index.items; labels = c.index.labels; edges = c.edges; tokens = tokens; answers = answers; area = area }

  abbrev from_tables_lem : StoredCall
  from_tables_lem =
      record {
        items = c.index.items;
        labels = c.index.labels;
        table = table;
        entries = c.index.entries;
        tokens = tokens;
        answers = answers;
        area = area;
      }

  abbrev read : Reading
  read = read_tokens c.index.labels tokens

  abbrev area_room : Verdict
  area_room = room area (9 * (c.index.items * c.index.items))

  table_room : c.index.items * c.index.items ≤ length table
  table_room =
      let x = c.index in
      let p = passed c ((accepted_exactly c).0 ok).0 in
      omega (arith, ap length front, length-take (x.items * x.items) table, top_length x p.levels.some_level p.tables)

  direct_refusal_lem : direct_refusal from_edges_lem ≡ (well_read read or_else area_room)
  unfolding direct_refusal
  direct_refusal_lem =
      let p = passed c ((accepted_exactly c).0 ok).0 in
      good_or_else (sizes c.index.items c.index.labels) _ p.sizes_good
      ∙ good_or_else (edge_count c.edges) _ p.count_good
      ∙ good_or_else (edges_fit c.index.items c.index.labels c.edges) _ p.edges_good

  stored_refusal_lem : stored_refusal from_tables_lem ≡ (well_read read or_else area_room)
  unfolding stored_refusal
  stored_refusal_lem =
      let p = passed c ((accepted_exactly c).0 ok).0 in
      good_or_else (sizes c.index.items c.index.labels) _ p.sizes_good
      ∙ ap (λ (v : Verdict). well_read read or_else area_room or_else v) (fits_room table (c.index.items * c.index.items) table_room)
      ∙ ap (λ (v : Verdict). well_read read or_else v) (or_else_end area_room)

  lists_same : (q : Query) → read ≡ asks q → stored_list from_tables_lem ≡ direct_list from_edges_lem
  unfolding stored_list direct_list query_of check_graph graph_of
  lists_same q e =
      rw e (sound_answer (check_graph c) table c.index.entries (accepted_tables_sound c ok table front) q (reading_formed c.index.labels tokens q e))

  -- the stored answer ends as the direct answer does
  pub stored_is_direct : stored from_tables_lem ≡ direct from_edges_lem
  unfolding stored direct
  stored_is_direct =
      ap (answer_after c.index.items (stored_list from_tables_lem) answers area) stored_refusal_lem
      ∙ answer_same c.index.items (stored_list from_tables_lem) (direct_list from_edges_lem) answers area area_room read lists_same
      ∙ ap (answer_after c.index.items (direct_list from_edges_lem) answers area) (sym direct_refusal_lem)
