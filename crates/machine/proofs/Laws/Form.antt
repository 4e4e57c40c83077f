-- The scanner of lines takes exactly the inputs of the form, and each stage that it comes to leads on to an end.
use Rattle.std.proofs.Common.{Err, Ok, Result}
use Rattle.rules.specs.declared.Counts.{Counts}
use Rattle.rules.specs.declared.Refusal.{Refusal}
use Prim.Native.Nat.{ℕ, ◌*◌, ◌≤◌, ◌<◌}
use mathlib.Core.Path.{◌≡◌, refl, sym, ap, ◌∙◌}
use mathlib.Core.Logic.{◌⊎◌, inl, inr, ⊎_elim}
use mathlib.Core.Option.{none, some, Option-elim, some-injective}
use mathlib.Core.List.{List, [], ◌∷◌, ◌++◌}
use mathlib.Core.Bool.{true, false, ◌&&◌}
use native.Mathlib.Omega.{arith}
use borrow.Author.Tests.{le-leb, leb-true, lt-ltb, ltb-true}
use lib.Dec.{leb}
use lib.ListN.{length}
use Rattle.rules.specs.Scanner.{Takes, ends, goes, Scans}
use Rattle.rules.proofs.Laws.Tests.{either, and_left, and_right}
use Rattle.format.specs.declared.Frame.{Frame}
use Rattle.format.specs.declared.Frame.TheVariants.{Sizes, Edge, Query, Faulty}
use Rattle.hexa.specs.Digits.{value_of, and_digit, number_at as digits_at}
use Rattle.format.specs.Frames.{three, fields_of, sizes_by, frame_by, frame_of}
use Rattle.rules.specs.Outcomes.{BuildEnd}
use Rattle.machine.specs.Machine.{most_items, most_edges, most_digits, Stage, opening, gathering, answering, stopped, is_stopped, silent, stops, built_by, builds, asked, on_sizes, on_edge, on_query, on_frame, bad_frame, on_line}
use Rattle.machine.specs.Lines.{fits, well_framed, line_turn, line_step, line_end, program}
use Rattle.machine.specs.Form as F

none_some : {C : Type 0} {s : Stage} → none ≡ some s → C
none_some e = let z : ◌≡◌ {A = ℕ} 0 1 = cc in absurd (omega arith)

-- a line that goes on, and how
step_good : (s : Stage) (line : List ℕ) (t : Stage) → is_stopped s ≡ false → line_step s line ≡ some t
    → (length line ≤ most_digits) × (fits s (frame_of line) ≡ true) × ((on_line s 0 line).stage ≡ t)
unfolding line_step line_turn well_framed Option-elim
step_good s line t on e = go (either (leb (length line) most_digits && fits s (frame_of line)))
  where
    go : ((leb (length line) most_digits && fits s (frame_of line)) ≡ true) ⊎ ((leb (length line) most_digits && fits s (frame_of line)) ≡ false)
        → (length line ≤ most_digits) × (fits s (frame_of line) ≡ true) × ((on_line s 0 line).stage ≡ t)
    go (inl w) = (
      leb-true (length line) most_digits (and_left (leb (length line) most_digits) (fits s (frame_of line)) w),
      and_right (leb (length line) most_digits) (fits s (frame_of line)) w,
      some-injective (on_line s 0 line).stage t (rw (on, w) at e),
    )
    go (inr w) = none_some (rw (on, w) at e)

good_step : (s : Stage) (line : List ℕ) (f : Frame) → is_stopped s ≡ false → length line ≤ most_digits → frame_of line ≡ f → fits s f ≡ true
    → line_step s line ≡ some (on_frame (bad_frame 0) line s f).stage
unfolding line_step line_turn well_framed on_line Option-elim
good_step s line f on h e w = rw (on, le-leb (length line) most_digits h, e, w) refl

-- which frames a stage takes
takes_sizes : (f : Frame) → fits opening f ≡ true → (items : ℕ) × (labels : ℕ) × (k : ℕ) × (f ≡ Sizes items labels k) × (items ≤ most_items)
unfolding fits
takes_sizes (Sizes items labels k) e = (items, labels, k, refl, leb-true items most_items e)
takes_sizes (Edge source target label) e = let z : ◌≡◌ {A = ℕ} 0 1 = cc in absurd (omega arith)
takes_sizes Query e = let z : ◌≡◌ {A = ℕ} 0 1 = cc in absurd (omega arith)
takes_sizes Faulty e = let z : ◌≡◌ {A = ℕ} 0 1 = cc in absurd (omega arith)

takes_edge : (items labels k : ℕ) (edges : List ℕ) (f : Frame) → fits (gathering items labels k edges) f ≡ true
    → ((source : ℕ) × (target : ℕ) × (label : ℕ) × (f ≡ Edge source target label) × (length edges < 3 * most_edges)) ⊎ (f ≡ Query)
unfolding fits
takes_edge items labels k edges (Sizes _ _ _) e = let z : ◌≡◌ {A = ℕ} 0 1 = cc in absurd (omega arith)
takes_edge items labels k edges (Edge source target label) e = inl (source, target, label, refl, ltb-true (length edges) (3 * most_edges) e)
takes_edge items labels k edges Query e = inr refl
takes_edge items labels k edges Faulty e = let z : ◌≡◌ {A = ℕ} 0 1 = cc in absurd (omega arith)

takes_query : (items labels : ℕ) (table entries : List ℕ) (f : Frame) → fits (answering items labels table entries) f ≡ true → f ≡ Query
unfolding fits
takes_query items labels table entries (Sizes _ _ _) e = let z : ◌≡◌ {A = ℕ} 0 1 = cc in absurd (omega arith)
takes_query items labels table entries (Edge _ _ _) e = let z : ◌≡◌ {A = ℕ} 0 1 = cc in absurd (omega arith)
takes_query items labels table entries Query e = refl
takes_query items labels table entries Faulty e = let z : ◌≡◌ {A = ℕ} 0 1 = cc in absurd (omega arith)

-- the tables are there, or were refused
data Ready : Stage → Type 0 where
  has_tables : {items labels : ℕ} {table entries : List ℕ} → Ready (answering items labels table entries)
  has_stopped : Ready stopped

built_ready : (items labels k : ℕ) (end : BuildEnd) (r : Result Counts Refusal) → Ready (built_by items labels k end r).stage
unfolding built_by stops
built_ready items labels k end (Ok n) = has_tables
built_ready items labels k end (Err r) = has_stopped

builds_ready : (items labels k : ℕ) (edges : List ℕ) → Ready (builds items labels k edges).stage
unfolding builds
builds_ready items labels k edges = built_ready items labels k _ _

-- after a stop every line is taken
stopped_takes : (lines : List (List ℕ)) → Takes program stopped lines stopped
unfolding program line_end line_step line_turn is_stopped silent Option-elim
stopped_takes [] = ends refl
stopped_takes (line ∷ lines) = goes stopped refl (stopped_takes lines)

stopped_end : (t u : Stage) → t ≡ stopped → line_end t ≡ some u → u ≡ stopped
unfolding line_end
stopped_end t u e f = sym (some-injective stopped u (rw e at f))

stopped_step : (t : Stage) (line : List ℕ) (u : Stage) → t ≡ stopped → line_step t line ≡ some u → u ≡ stopped
unfolding line_step line_turn is_stopped silent Option-elim
stopped_step t line u e f = sym (some-injective stopped u (rw e at f))

takes_stopped : {t s : Stage} {lines : List (List ℕ)} → Takes program t lines s → t ≡ stopped → s ≡ stopped
unfolding program
takes_stopped {t} {s} (ends e) z = stopped_end t s z e
takes_stopped {t} {s} (goes {b = line} u e r) z = takes_stopped r (stopped_step t line u z e)

module _ (items labels : ℕ) (table entries : List ℕ) where
  abbrev ready : Stage
  ready = answering items labels table entries

  query_stage : (line : List ℕ) → (on_frame (bad_frame 0) line ready Query).stage ≡ ready
  unfolding on_frame on_query asked silent
  query_stage line = refl

  queries_end : (t u : Stage) → t ≡ ready → line_end t ≡ some u → F.Queries t [] u
  unfolding line_end
  queries_end t u e f =
      let q : u ≡ ready = sym (some-injective ready u (rw e at f)) in
      rw (e, q) F.over

  queries_step : (t : Stage) (line : List ℕ) (u : Stage) → t ≡ ready → line_step t line ≡ some u
      → (length line ≤ most_digits) × (frame_of line ≡ Query) × (u ≡ ready)
  unfolding on_line
  queries_step t line u z e =
      let g = step_good ready line u (unfold is_stopped in refl) (rw z at e) in
      let f = takes_query items labels table entries (frame_of line) g.1 in
      (g.0, f, sym g.2 ∙ ap (λ (w : Frame). (on_frame (bad_frame 0) line ready w).stage) f ∙ query_stage line)

  queries_more : (t u s : Stage) (line : List ℕ) (lines : List (List ℕ)) → t ≡ ready → line_step t line ≡ some u → (u ≡ ready → F.Queries u lines s) → F.Queries t (line ∷ lines) s
  queries_more t u s line lines z e again =
      let g = queries_step t line u z e in
      let q = again g.2 in
      rw z (F.asks g.0 g.1 (rw g.2 at q))

  queries_found : {t s : Stage} {lines : List (List ℕ)} → Takes program t lines s → t ≡ ready → F.Queries t lines s
  unfolding program
  queries_found {t} {s} (ends e) z = queries_end t s z e
  queries_found {t} {s} (goes {b = line} {text = lines} u e r) z = queries_more t u s line lines z e (queries_found r)

  -- and the other way
  query_step : (line : List ℕ) → length line ≤ most_digits → frame_of line ≡ Query → line_step ready line ≡ some ready
  query_step line h f = good_step ready line Query (unfold is_stopped in refl) h f (unfold fits in refl) ∙ ap some (query_stage line)

ready_found : (t : Stage) → Ready t → (lines : List (List ℕ)) (s : Stage) → Takes program t lines s → F.Queries t lines s
ready_found (answering items labels table entries) has_tables lines s r = queries_found items labels table entries r refl
ready_found stopped has_stopped lines s r = rw (takes_stopped r refl) F.unread
ready_found opening no_stage lines s r = elim no_stage [ ]
ready_found (gathering _ _ _ _) no_stage lines s r = elim no_stage [ ]

queries_taken : {t s : Stage} {lines : List (List ℕ)} → F.Queries t lines s → Takes program t lines s
unfolding program line_end
queries_taken F.over = ends refl
queries_taken (F.asks {items} {labels} {table} {entries} {line} h f q) = goes (answering items labels table entries) (query_step items labels table entries line h f) (queries_taken q)
queries_taken (F.unread {lines}) = stopped_takes lines

module _ (items labels k : ℕ) where
  -- what a line does while edges are gathered
  edge_stage : (edges line : List ℕ) (source target label : ℕ) → length edges < 3 * most_edges
      → (on_frame (bad_frame 0) line (gathering items labels k edges) (Edge source target label)).stage ≡ gathering items labels k (edges ++ (source ∷ target ∷ label ∷ []))
  unfolding on_frame on_edge silent
  edge_stage edges line source target label h = rw (lt-ltb (length edges) (3 * most_edges) h) refl

  first_query : (edges line : List ℕ) → (on_frame (bad_frame 0) line (gathering items labels k edges) Query).stage ≡ (builds items labels k edges).stage
  unfolding on_frame on_query asked
  first_query edges line = refl

  edges_end : (t u : Stage) (edges : List ℕ) → t ≡ gathering items labels k edges → line_end t ≡ some u → F.Edges items labels k edges [] u
  unfolding line_end
  edges_end t u edges e f =
      let q : u ≡ gathering items labels k edges = sym (some-injective (gathering items labels k edges) u (rw e at f)) in
      rw q F.over

  edges_more : (t u s : Stage) (edges line : List ℕ) (lines : List (List ℕ)) → t ≡ gathering items labels k edges → line_step t line ≡ some u → Takes program u lines s
      → ((more : List ℕ) → u ≡ gathering items labels k more → F.Edges items labels k more lines s) → F.Edges items labels k edges (line ∷ lines) s
  unfolding on_line
  edges_more t u s edges line lines z e r again =
      let now = gathering items labels k edges in
      let g = step_good now line u (unfold is_stopped in refl) (rw z at e) in
      ⊎_elim
      (λ (d : (source : ℕ) × (target : ℕ) × (label : ℕ) × (frame_of line ≡ Edge source target label) × (length edges < 3 * most_edges)).
      F.adds d.0 d.1 d.2 g.0 d.3 d.4
      (again (edges ++ (d.0 ∷ d.1 ∷ d.2 ∷ []))
      (sym g.2 ∙ ap (λ (w : Frame). (on_frame (bad_frame 0) line now w).stage) d.3 ∙ edge_stage edges line d.0 d.1 d.2 d.4)))
      (λ (f : frame_of line ≡ Query).
      let q : u ≡ (builds items labels k edges).stage = sym g.2 ∙ ap (λ (w : Frame). (on_frame (bad_frame 0) line now w).stage) f ∙ first_query edges line in
      F.asks g.0 f (ready_found (builds items labels k edges).stage (builds_ready items labels k edges) lines s (rw q at r)))
      (takes_edge items labels k edges (frame_of line) g.1)

  edges_found : {t s : Stage} {lines : List (List ℕ)} → Takes program t lines s → (edges : List ℕ) → t ≡ gathering items labels k edges → F.Edges items labels k edges lines s
  unfolding program
  edges_found {t} {s} (ends e) edges z = edges_end t s edges z e
  edges_found {t} {s} (goes {b = line} {text = lines} u e r) edges z = edges_more t u s edges line lines z e r (edges_found r)

  edge_step : (edges line : List ℕ) (source target label : ℕ) → length line ≤ most_digits → frame_of line ≡ Edge source target label → length edges < 3 * most_edges
      → line_step (gathering items labels k edges) line ≡ some (gathering items labels k (edges ++ (source ∷ target ∷ label ∷ [])))
  edge_step edges line source target label h f l =
      good_step (gathering items labels k edges) line (Edge source target label) (unfold is_stopped in refl) h f
      (unfold fits in lt-ltb (length edges) (3 * most_edges) l)
      ∙ ap some (edge_stage edges line source target label l)

  first_step : (edges line : List ℕ) → length line ≤ most_digits → frame_of line ≡ Query → line_step (gathering items labels k edges) line ≡ some (builds items labels k edges).stage
  first_step edges line h f =
      good_step (gathering items labels k edges) line Query (unfold is_stopped in refl) h f (unfold fits in refl) ∙ ap some (first_query edges line)

  edges_taken : {edges : List ℕ} {lines : List (List ℕ)} {s : Stage} → F.Edges items labels k edges lines s → Takes program (gathering items labels k edges) lines s
  unfolding program line_end
  edges_taken F.over = ends refl
  edges_taken {edges} (F.adds {line = line} source target label h f l q) =
      goes (gathering items labels k (edges ++ (source ∷ target ∷ label ∷ []))) (edge_step edges line source target label h f l) (edges_taken q)
  edges_taken {edges} (F.asks {line = line} h f q) = goes (builds items labels k edges).stage (first_step edges line h f) (queries_taken q)

sizes_stage : (line : List ℕ) (items labels k : ℕ) → items ≤ most_items → (on_frame (bad_frame 0) line opening (Sizes items labels k)).stage ≡ gathering items labels k []
unfolding on_frame on_sizes silent
sizes_stage line items labels k h = rw (le-leb items most_items h) refl

open_step : (line : List ℕ) (items labels k : ℕ) → length line ≤ most_digits → frame_of line ≡ Sizes items labels k → items ≤ most_items
    → line_step opening line ≡ some (gathering items labels k [])
open_step line items labels k h f l =
    good_step opening line (Sizes items labels k) (unfold is_stopped in refl) h f (unfold fits in le-leb items most_items l) ∙ ap some (sizes_stage line items labels k l)

input_found : {lines : List (List ℕ)} {s : Stage} → Takes program opening lines s → F.Input lines s
unfolding program line_end on_line
input_found (ends e) = none_some e
input_found {s = s} (goes {b = line} {text = lines} u e r) =
    let g = step_good opening line u (unfold is_stopped in refl) e in
    let d = takes_sizes (frame_of line) g.1 in
    F.opens d.0 d.1 d.2 g.0 d.3 d.4
    (edges_found d.0 d.1 d.2 r []
    (sym g.2 ∙ ap (λ (w : Frame). (on_frame (bad_frame 0) line opening w).stage) d.3 ∙ sizes_stage line d.0 d.1 d.2 d.4))

input_taken : {lines : List (List ℕ)} {s : Stage} → F.Input lines s → Takes program opening lines s
unfolding program
input_taken (F.opens {line = line} items labels k h f l q) = goes (gathering items labels k []) (open_step line items labels k h f l) (edges_taken items labels k q)

-- a first line: 0100000101
first_line : List ℕ
first_line = 48 ∷ 49 ∷ 48 ∷ 48 ∷ 48 ∷ 48 ∷ 48 ∷ 49 ∷ 48 ∷ 49 ∷ []

first_frame : frame_of first_line ≡ Sizes 0 1 1
unfolding frame_of frame_by fields_of three sizes_by digits_at value_of and_digit first_line
first_frame = refl

-- from each stage the input may go on to an end
goes_on : (s : Stage) → (lines : List (List ℕ)) × (t : Stage) × Takes program s lines t
unfolding program line_end
goes_on opening =
    (first_line ∷ [], gathering 0 1 1 [], goes (gathering 0 1 1 []) (open_step first_line 0 1 1 (unfold first_line in omega arith) first_frame (omega arith)) (ends refl))
goes_on (gathering items labels k edges) = ([], gathering items labels k edges, ends refl)
goes_on (answering items labels table entries) = ([], answering items labels table entries, ends refl)
goes_on stopped = ([], stopped, ends refl)

pub scans_inputs : Scans program F.Input
unfolding program
scans_inputs = record {
  sound = λ lines s r. input_found r;
  complete = λ lines s q. input_taken q;
  Alive = λ s. Unit {0};
  alive_start = tt;
  alive_step = λ s t line a e. tt;
  leads_on = λ s a. goes_on s;
}
