use Rattle.std.proofs.Common.{◌≡◌, ℕ, suc, ◌+◌, ◌-◌, ◌/◌, sym, ap, ◌∙◌, arith}
use lib.ListN.{set, length-set}
use lib.Seq.{sets}
use Rattle.hexa.specs.Digits.{spelling}
use Rattle.hexa.proofs.Laws.Writing.{put_none, sets_turn}
use Rattle.hexa.proofs.put_digits.Goals as goal

pub loop-i-preserved : goal.loop-i-preserved
loop-i-preserved c =
    let e : c.loop-i.i ≡ suc (c.loop-i.i - 1) = omega arith in (
      simp length-set c.loop-i.invariant.0,
      ap (λ (g : ℕ). sets (set c.loop-i.out (c.args.at + (c.loop-i.i - 1)) g) c.args.at (spelling (c.loop-i.i - 1) (c.loop-i.left / 16))) c.last_digit.ensures
          ∙ (sym (sets_turn c.loop-i.out c.args.at (c.loop-i.i - 1) c.loop-i.left)
          ∙ (rw (← e) c.loop-i.invariant.1)),
    )

pub returns : goal.returns
returns c =
    let e : c.loop-i.i ≡ 0 = omega arith in
    rw (e, put_none) at c.loop-i.invariant.1
