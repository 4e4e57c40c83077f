use Prim.Native.Nat.{ℕ, ◌+◌, ◌*◌, ◌-◌, ◌%◌, ◌≤◌}
use mathlib.Core.Path.{◌≡◌, refl, ap, ◌∙◌}
use native.Mathlib.Omega.{arith}
use Rattle.relations.proofs.Laws.Areas as areas
use Rattle.rules.proofs.Laws.Listing.{count_le}
use Rattle.rules.proofs.Laws.Places.{row_fits, square_le}
use Rattle.entries.specs.Entries.{is_hit, entries_row}
use Rattle.entries.proofs.Laws.Went as went
use Rattle.entries.proofs.Laws.Hits.{row_counted}
use Rattle.entries.proofs.Laws.Emitting as emitting
use Rattle.entries.proofs.emit.emit_row.Goals as goal

pub overflow_mul-row : goal.overflow_mul-row
overflow_mul-row c =
    let row : c.args.v * c.args.n + c.args.n ≤ c.args.n * c.args.n = row_fits c.args.n c.requires.0 in
    omega (arith, row, square_le c.requires.1.small)

pub overflow_add-from : goal.overflow_add-from
overflow_add-from c =
    let row : c.args.v * c.args.n + c.args.n ≤ c.args.n * c.args.n = row_fits c.args.n c.requires.0 in
    omega (arith, row, c.requires.1.room)

pub overflow_add-n : goal.overflow_add-n
overflow_add-n c =
    let row : c.args.v * c.args.n + c.args.n ≤ c.args.n * c.args.n = row_fits c.args.n c.requires.0 in
    omega (arith, row, c.requires.1.area)

pub count_row-requires : goal.count_row-requires
count_row-requires c =
    let row : c.args.v * c.args.n + c.args.n ≤ c.args.n * c.args.n = row_fits c.args.n c.requires.0 in
    (c.requires.1.label, c.requires.1.small, omega (arith, row, c.requires.1.room), omega (arith, row, c.requires.1.area))

pub overflow_add-list : goal.overflow_add-list
overflow_add-list c =
    let few : c.count_row.result ≤ c.args.n = rw c.count_row.ensures (count_le (is_hit c.args.area.now (c.args.from + c.args.v * c.args.n) (8 * (c.args.n * c.args.n) + c.args.v * c.args.n) c.args.l) c.args.n) in
    omega (arith, few, c.requires.1.few)

pub returns-then-only_counts : goal.returns-then-only_counts
returns-then-only_counts c =
    let few : c.count_row.result ≤ c.args.n = rw c.count_row.ensures (count_le (is_hit c.args.area.now (c.args.from + c.args.v * c.args.n) (8 * (c.args.n * c.args.n) + c.args.v * c.args.n) c.args.l) c.args.n) in (
      omega (arith, few),
      λ J s f. row_counted _ _ J _ _ _ _ _ c.requires.0 s f _ _ _ _ c.count_row.ensures (c.only_counts.ensures c.if-only_counts.true),
      record { stored = refl; out = refl; size = refl },
    )

pub loop-i-init : goal.loop-i-init
loop-i-init c = (omega arith, went.same_refl _, λ J s f. went.went_as _ _ _ _ _ _ _ _ _ (emitting.row_none _ _ J _ _) (went.went_none _ _ _ _))

pub loop-i-preserved-then-lacks : goal.loop-i-preserved-then-lacks
loop-i-preserved-then-lacks c =
    let a = c.args in
    let u = 16 * c.loop-i.i in
    let e : u + 16 ≡ 16 * (c.loop-i.i + 1) = omega arith in
    let none = areas.lacks_in (a.from + (a.v * a.n + u)) 16 a.l a.area.now (omega (arith, row_fits a.n c.requires.0, c.requires.1.room)) (c.lacks.ensures c.if-lacks.true) in (
      omega (arith, c.loop-i.invariant.0),
      c.loop-i.invariant.1,
      λ J s f.
          went.went_as _ _ _ _ _ _ _ _ _
          (emitting.row_past a.n a.table.now J a.code a.v a.area.now a.from a.l u s c.requires.0 (omega arith) none ∙ ap (λ (k : ℕ). entries_row a.n a.table.now J a.code a.v k) e)
          (c.loop-i.invariant.2 J s f),
    )

pub put_places-requires : goal.put_places-requires
put_places-requires c =
    let a = c.requires in (
      a.0,
      omega arith,
      omega arith,
      record {
        small = a.1.small;
        label = a.1.label;
        square = a.1.square;
        few = omega (arith, c.loop-i.invariant.0, a.1.few);
        room = a.1.room;
        area = a.1.area;
      },
    )

pub loop-i-preserved : goal.loop-i-preserved
loop-i-preserved c =
    let a = c.args in
    let e : 16 * c.loop-i.i + 16 ≡ 16 * (c.loop-i.i + 1) = omega arith in
    let p = c.put_places in (
      omega (arith, c.loop-i.invariant.0, p.ensures.0),
      went.same_trans c.loop-i.invariant.1 p.ensures.2,
      λ J s f. went.went_as _ _ _ _ _ _ _ _ _ (ap (λ (k : ℕ). entries_row a.n a.table.now J a.code a.v k) e) (went.went_on c.loop-i.invariant.1 (p.ensures.1 J _ _ _ s f (went.went_back c.loop-i.invariant.1 (c.loop-i.invariant.2 J s f)))),
    )

pub put_places-requires-2 : goal.put_places-requires-2
put_places-requires-2 c =
    let a = c.requires in (
      a.0,
      omega arith,
      omega arith,
      record {
        small = a.1.small;
        label = a.1.label;
        square = a.1.square;
        few = omega (arith, c.loop-i.invariant.0, a.1.few);
        room = a.1.room;
        area = a.1.area;
      },
    )

pub returns : goal.returns
returns c =
    let a = c.args in
    let p = c.put_places-2.ensures in
    let e : 16 * c.loop-i.i ≡ a.n - a.n % 16 = omega arith in (
      omega (arith, c.loop-i.invariant.0, p.0),
      λ J s f. went.went_on c.loop-i.invariant.1 (p.1 J _ _ _ s f (went.went_back c.loop-i.invariant.1 (went.went_as _ _ _ _ _ _ _ _ _ (ap (λ (k : ℕ). entries_row a.n a.table.now J a.code a.v k) e) (c.loop-i.invariant.2 J s f)))),
      went.same_trans c.loop-i.invariant.1 p.2,
    )
