-- What is known of an answer's call that is refused nothing before the work, and how it ends.
use Rattle.std.proofs.Common.{Err, Result}
use Prim.Native.Nat.{ℕ, ◌*◌, ◌/◌, ◌%◌, ◌≤◌, ◌<◌}
use mathlib.Core.Path.{◌≡◌, refl, sym, ap, ◌∙◌}
use mathlib.Core.Logic.{inr}
use mathlib.Core.List.{List, map}
use mathlib.Core.Bool.{Bool, true, false, false≢true, ◌&&◌}
use native.Mathlib.Omega.{arith}
use lib.ListN.{length, get_or}
use Rattle.rules.specs.declared.Refusal.{Refusal}
use Rattle.rules.specs.Finite.{list_below}
use Rattle.rules.specs.Graph.{graph_of, leads}
use Rattle.rules.specs.Query.{meets_by, answer_by, answer_of}
use Rattle.rules.specs.Reading.{read_tokens}
use Rattle.rules.specs.Stored.{stored_step, stored_answer, leader, class_answer}
use Rattle.rules.specs.Writing.{fill}
use Rattle.rules.specs.Verdict.{good, refuse, ◌or_else◌, sizes, level_count, edge_count, edges_fit, room, well_read, query_of, within_diameter}
use Rattle.rules.specs.Outcomes.{DirectCall, direct_refusal, direct_list, direct, StoredCall, stored_refusal, stored_list, stored, ClassCall, class_refusal, class_list, class}
use Rattle.rules.specs.Promises.{Ends}
use Rattle.rules.proofs.Laws.Verdict.{or_else_good}
use Rattle.rules.proofs.Laws.Links.{SizesFit, sizes_fit, EdgesIn, edges_in, room_fits}
use Rattle.rules.proofs.Laws.Finite.{list_same}
use Rattle.rules.proofs.Laws.Places.{row_lt, column_lt, square_le}
use Rattle.area.specs.Packed.{pair_in, Slot}
use Rattle.area.proofs.Laws.Sets.{list_holds}
use Rattle.area.specs.Written.{EdgesWithin}
use Rattle.query.specs.Sets.{Source}
use Rattle.query.specs.Evaluate.{Evaluable, Evaluated}
use Rattle.area.proofs.Laws.Rows.{slot_short}
use Rattle.rules.specs.Calls.{ended}
use Rattle.telling.specs.Telling.{Told}
use Rattle.classes.specs.Classes.{told_at, LeadReady, Led, classes_in}
use Rattle.telling.proofs.Laws.Telling.{ends_told, ends_refused}

-- what every answer asks before its work
pub record Ready (items labels : ℕ) (tokens area : List ℕ) : Type 0 where
  pub fit : SizesFit items labels
  pub read : well_read (read_tokens labels tokens) ≡ good
  pub wide : 9 * (items * items) ≤ length area

-- the edge table in use, or a stored table
pub from_edges_lem : {n : ℕ} {edges : List ℕ} (labels : ℕ) → n ≤ 128 → EdgesIn n labels edges → Source (EdgesWithin n edges) n
from_edges_lem labels h e = record { few = h; fits = record { source = e.source; target = e.target } }

pub from_table : {n : ℕ} (table : List ℕ) → n ≤ 128 → n * n ≤ length table → Source (n * n ≤ length table) n
from_table table h l = record { few = h; fits = l }

pub evaluable : {has : Type 0} {n labels : ℕ} {tokens area : List ℕ} → Ready n labels tokens area → Source has n → Evaluable has n labels area tokens
evaluable r s = record { source = s; room = r.wide; labels_few = r.fit.labels_fit; read = r.read }

-- slot 0 stands in the area
pub first_slot : {n labels : ℕ} {tokens area : List ℕ} (w : List ℕ) → Ready n labels tokens area → length w ≡ length area → Slot n w 0
first_slot {n} w r e = record { few = r.fit.items_fit; fits = omega (arith, slot_short n, r.wide) }

pub record DirectPassed (c : DirectCall) : Type 0 where
  pub ready : Ready c.items c.labels c.tokens c.area
  pub edges : EdgesIn c.items c.labels c.edges

pub direct_passed : (c : DirectCall) → direct_refusal c ≡ good → DirectPassed c
unfolding direct_refusal
direct_passed c e =
    let read_link = well_read (read_tokens c.labels c.tokens) in
    let area_link = room c.area (9 * (c.items * c.items)) in
    let fit_link = edges_fit c.items c.labels c.edges in
    let s = or_else_good (sizes c.items c.labels) (edge_count c.edges or_else fit_link or_else read_link or_else area_link) e in
    let w = or_else_good (edge_count c.edges) (fit_link or_else read_link or_else area_link) s.1 in
    let f = or_else_good fit_link (read_link or_else area_link) w.1 in
    let r = or_else_good read_link area_link f.1 in
    record {
      ready = record { fit = sizes_fit c.items c.labels s.0; read = r.0; wide = room_fits c.area (9 * (c.items * c.items)) r.1 };
      edges = edges_in c.items c.labels c.edges f.0;
    }

module _ (c : DirectCall) where
  pub direct_refused : (f : Refusal) → direct_refusal c ≡ refuse f → Ends (direct c) (ended (Err f) c.answers c.area)
  unfolding direct
  direct_refused f e = ends_refused c.items (direct_list c) c.answers c.area (direct_refusal c) e

  module _ (w : List ℕ)
      (e : Evaluated c.items (meets_by c.items (leads (graph_of c.items c.labels c.edges)) (query_of (read_tokens c.labels c.tokens))) c.area w) where
    direct_pairs : list_below (c.items * c.items) (pair_in c.items w 0) ≡ direct_list c
    unfolding direct_list answer_of answer_by graph_of
    direct_pairs =
        list_holds c.items w 0 (meets_by c.items (leads (graph_of c.items c.labels c.edges)) (query_of (read_tokens c.labels c.tokens))) e.holds

    pub direct_told : (z written : List ℕ) (r : Result ℕ Refusal) → direct_refusal c ≡ good → Told (list_below (c.items * c.items) (pair_in c.items w 0)) c.answers r written
        → z ≡ fill w 0 (9 * (c.items * c.items)) (λ _. 0) → Ends (direct c) (ended r written z)
    unfolding direct
    direct_told z written r g told cleared =
        ends_told c.items c.area w z (direct_passed c g).ready.wide e.size e.beyond cleared (direct_refusal c) (direct_list c) c.answers written r g
        (rw direct_pairs at told)

pub record StoredPassed (c : StoredCall) : Type 0 where
  pub ready : Ready c.items c.labels c.tokens c.area
  pub table : c.items * c.items ≤ length c.table

pub stored_passed : (c : StoredCall) → stored_refusal c ≡ good → StoredPassed c
unfolding stored_refusal
stored_passed c e =
    let read_link = well_read (read_tokens c.labels c.tokens) in
    let area_link = room c.area (9 * (c.items * c.items)) in
    let table_link = room c.table (c.items * c.items) in
    let s = or_else_good (sizes c.items c.labels) (read_link or_else area_link or_else table_link) e in
    let r = or_else_good read_link (area_link or_else table_link) s.1 in
    let a = or_else_good area_link table_link r.1 in
    record {
      ready = record { fit = sizes_fit c.items c.labels s.0; read = r.0; wide = room_fits c.area (9 * (c.items * c.items)) a.0 };
      table = room_fits c.table (c.items * c.items) a.1;
    }

module _ (c : StoredCall) where
  pub stored_refused : (f : Refusal) → stored_refusal c ≡ refuse f → Ends (stored c) (ended (Err f) c.answers c.area)
  unfolding stored
  stored_refused f e = ends_refused c.items (stored_list c) c.answers c.area (stored_refusal c) e

  module _ (w : List ℕ)
      (e : Evaluated c.items (meets_by c.items (stored_step c.items c.table c.entries) (query_of (read_tokens c.labels c.tokens))) c.area w) where
    stored_pairs : list_below (c.items * c.items) (pair_in c.items w 0) ≡ stored_list c
    unfolding stored_list stored_answer answer_by
    stored_pairs =
        list_holds c.items w 0 (meets_by c.items (stored_step c.items c.table c.entries) (query_of (read_tokens c.labels c.tokens))) e.holds

    pub stored_told : (z written : List ℕ) (r : Result ℕ Refusal) → stored_refusal c ≡ good → Told (list_below (c.items * c.items) (pair_in c.items w 0)) c.answers r written
        → z ≡ fill w 0 (9 * (c.items * c.items)) (λ _. 0) → Ends (stored c) (ended r written z)
    unfolding stored
    stored_told z written r g told cleared =
        ends_told c.items c.area w z (stored_passed c g).ready.wide e.size e.beyond cleared (stored_refusal c) (stored_list c) c.answers written r g
        (rw stored_pairs at told)

pub record ClassPassed (c : ClassCall) : Type 0 where
  pub ready : Ready c.items c.labels c.tokens c.area
  pub table : c.items * c.items ≤ length c.table

pub class_passed : (c : ClassCall) → class_refusal c ≡ good → ClassPassed c
unfolding class_refusal
class_passed c e =
    let read_link = well_read (read_tokens c.labels c.tokens) in
    let long_link = within_diameter c.k (query_of (read_tokens c.labels c.tokens)) in
    let area_link = room c.area (9 * (c.items * c.items)) in
    let table_link = room c.table (c.items * c.items) in
    let s = or_else_good (sizes c.items c.labels) (level_count c.k or_else read_link or_else long_link or_else area_link or_else table_link) e in
    let k = or_else_good (level_count c.k) (read_link or_else long_link or_else area_link or_else table_link) s.1 in
    let r = or_else_good read_link (long_link or_else area_link or_else table_link) k.1 in
    let d = or_else_good long_link (area_link or_else table_link) r.1 in
    let a = or_else_good area_link table_link d.1 in
    record {
      ready = record { fit = sizes_fit c.items c.labels s.0; read = r.0; wide = room_fits c.area (9 * (c.items * c.items)) a.0 };
      table = room_fits c.table (c.items * c.items) a.1;
    }

-- the set that was evaluated, and then led
module _ {n : ℕ} {g : ℕ → ℕ → Bool} {area w : List ℕ} (t : List ℕ) (few : n ≤ 128) (wide : 9 * (n * n) ≤ length area) (e : Evaluated n g area w) where
  pub lead_ready : n * n ≤ length t → LeadReady n w t
  lead_ready fits =
      record {
        few = few;
        notable = record { few = square_le few; wide = omega (arith, e.size); fits = fits };
        holds = record { pairs = λ v u hv hu. refl; padding = e.holds.padding };
      }

  pub led_size : (r : List ℕ) → Led n t w r → length r ≡ length area
  led_size r l = l.only.size ∙ e.size

module _ (c : ClassCall) where
  pub class_refused : (f : Refusal) → class_refusal c ≡ refuse f → Ends (class c) (ended (Err f) c.answers c.area)
  unfolding class
  class_refused f e = ends_refused c.items (class_list c) c.answers c.area (class_refusal c) e

  module _ (w : List ℕ)
      (e : Evaluated c.items (meets_by c.items (stored_step c.items c.table c.entries) (query_of (read_tokens c.labels c.tokens))) c.area w) where
    met : (p : ℕ) → p < c.items * c.items
        → pair_in c.items w 0 p ≡ meets_by c.items (stored_step c.items c.table c.entries) (query_of (read_tokens c.labels c.tokens)) (p / c.items) (p % c.items)
    unfolding pair_in
    met p h = e.holds.pairs (p / c.items) (p % c.items) (row_lt c.items p h) (column_lt c.items p h)

    class_numbers : (x : List ℕ) → Led c.items c.table w x → classes_in c.items x c.table ≡ class_list c
    unfolding classes_in class_list class_answer told_at
    class_numbers x l =
        let n = c.items in
        let q = query_of (read_tokens c.labels c.tokens) in
        ap (map (λ p. get_or c.table p 0))
        (list_same (n * n) (pair_in n x 0) (λ p. leader (n * n) c.table p && meets_by n (stored_step n c.table c.entries) q (p / n) (p % n))
        (λ p h. l.pairs p h ∙ ap (λ (b : Bool). leader (n * n) c.table p && b) (met p h)))

    pub class_told : (x z written : List ℕ) (r : Result ℕ Refusal) → class_refusal c ≡ good → Led c.items c.table w x → Told (classes_in c.items x c.table) c.answers r written
        → z ≡ fill x 0 (9 * (c.items * c.items)) (λ _. 0) → Ends (class c) (ended r written z)
    unfolding class
    class_told x z written r g l told cleared =
        ends_told c.items c.area x z (class_passed c g).ready.wide (l.only.size ∙ e.size) (λ j b. l.only.outside j (inr (omega arith)) ∙ e.beyond j b) cleared (class_refusal c) (class_list c)
        c.answers written r g (rw (class_numbers x l) at told)
