-- What is known of a build's and a check's call that nothing of 1 to 5 refuses.
use Prim.Native.Nat.{ℕ, zero, suc, ◌*◌, ◌≤◌, ◌<◌}
use mathlib.Core.Path.{◌≡◌}
use native.Mathlib.Omega.{arith}
use lib.ListN.{length}
use Rattle.rules.specs.Verdict.{good, ◌or_else◌, sizes, level_count, edge_count, edges_fit, room}
use Rattle.rules.specs.Levels.{level_of}
use Rattle.rules.specs.Accept.{Index, top_of}
use Rattle.rules.specs.Outcomes.{BuildCall, build_refusal, CheckCall, check_refusal}
use Rattle.rules.proofs.Laws.Verdict.{or_else_good}
use Rattle.rules.proofs.Laws.Links.{SizesFit, sizes_fit, LevelsFit, levels_fit, EdgesWhole, edges_whole, EdgesIn, edges_in, room_fits}
use Rattle.rules.proofs.Laws.Levels.{level_size}

pub record Passed (c : CheckCall) : Type 0 where
  pub sizes_good : sizes c.index.items c.index.labels ≡ good
  pub levels_good : level_count c.index.k ≡ good
  pub count_good : edge_count c.edges ≡ good
  pub edges_good : edges_fit c.index.items c.index.labels c.edges ≡ good
  pub sizes_fit : SizesFit c.index.items c.index.labels
  pub levels : LevelsFit c.index.k
  pub whole : EdgesWhole c.edges
  pub edges : EdgesIn c.index.items c.index.labels c.edges
  pub area : 9 * (c.index.items * c.index.items) ≤ length c.area
  pub tables : c.index.k * (c.index.items * c.index.items) ≤ length c.index.levels

pub passed : (c : CheckCall) → check_refusal c ≡ good → Passed c
unfolding check_refusal
passed c e =
    let x = c.index in
    let n = x.items in
    let l = x.labels in
    let area_link = room c.area (9 * (n * n)) in
    let level_link = room x.levels (x.k * (n * n)) in
    let fit_link = edges_fit n l c.edges in
    let s = or_else_good (sizes n l) (level_count x.k or_else edge_count c.edges or_else fit_link or_else area_link or_else level_link) e in
    let k = or_else_good (level_count x.k) (edge_count c.edges or_else fit_link or_else area_link or_else level_link) s.1 in
    let w = or_else_good (edge_count c.edges) (fit_link or_else area_link or_else level_link) k.1 in
    let f = or_else_good fit_link (area_link or_else level_link) w.1 in
    let a = or_else_good area_link level_link f.1 in
    record {
      sizes_good = s.0;
      levels_good = k.0;
      count_good = w.0;
      edges_good = f.0;
      sizes_fit = sizes_fit n l s.0;
      levels = levels_fit x.k k.0;
      whole = edges_whole c.edges w.0;
      edges = edges_in n l c.edges f.0;
      area = room_fits c.area (9 * (n * n)) a.0;
      tables = room_fits x.levels (x.k * (n * n)) a.1;
    }

pub record BuildPassed (c : BuildCall) : Type 0 where
  pub sizes_good : sizes c.items c.labels ≡ good
  pub levels_good : level_count c.k ≡ good
  pub count_good : edge_count c.edges ≡ good
  pub edges_good : edges_fit c.items c.labels c.edges ≡ good
  pub area : 9 * (c.items * c.items) ≤ length c.area
  pub levels : c.k * (c.items * c.items) ≤ length c.levels
  pub order : c.items * c.items ≤ length c.order
  pub starts : suc (c.items * c.items) ≤ length c.starts

pub build_passed : (c : BuildCall) → build_refusal c ≡ good → BuildPassed c
unfolding build_refusal
build_passed c e =
    let sq = c.items * c.items in
    let fit_link = edges_fit c.items c.labels c.edges in
    let area_link = room c.area (9 * sq) in
    let level_link = room c.levels (c.k * sq) in
    let order_link = room c.order sq in
    let start_link = room c.starts (suc sq) in
    let s = or_else_good (sizes c.items c.labels) (level_count c.k or_else edge_count c.edges or_else fit_link or_else area_link or_else level_link or_else order_link or_else start_link) e in
    let k = or_else_good (level_count c.k) (edge_count c.edges or_else fit_link or_else area_link or_else level_link or_else order_link or_else start_link) s.1 in
    let w = or_else_good (edge_count c.edges) (fit_link or_else area_link or_else level_link or_else order_link or_else start_link) k.1 in
    let f = or_else_good fit_link (area_link or_else level_link or_else order_link or_else start_link) w.1 in
    let a = or_else_good area_link (level_link or_else order_link or_else start_link) f.1 in
    let l = or_else_good level_link (order_link or_else start_link) a.1 in
    let o = or_else_good order_link start_link l.1 in
    record {
      sizes_good = s.0;
      levels_good = k.0;
      count_good = w.0;
      edges_good = f.0;
      area = room_fits c.area (9 * sq) a.0;
      levels = room_fits c.levels (c.k * sq) l.0;
      order = room_fits c.order sq o.0;
      starts = room_fits c.starts (suc sq) o.1;
    }

-- the level-k table has V² numbers
pub top_length : (x : Index) → 0 < x.k → x.k * (x.items * x.items) ≤ length x.levels → length (top_of x) ≡ x.items * x.items
unfolding top_of
top_length x h l = go x.k h l
  where
    go : (k : ℕ) → 0 < k → k * (x.items * x.items) ≤ length x.levels → length (level_of x.items x.levels k) ≡ x.items * x.items
    go zero h l = absurd (omega arith)
    go (suc k) h l = level_size x.items x.levels k l
