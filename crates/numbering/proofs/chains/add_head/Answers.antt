-- The old head is read, then two words are stored: the link of p and the new head. All three places are in the area.
use Prim.Native.Nat.{ℕ, ◌+◌, ◌*◌}
use mathlib.Core.Path.{ap, ◌∙◌}
use mathlib.Core.List.{List}
use native.Mathlib.Omega.{arith}
use Rattle.rules.proofs.Laws.Places.{square_le}
use Rattle.twins.specs.Chains.{set_word}
use Rattle.numbering.proofs.chains.add_head.Goals as goal

pub set_word-requires-2 : goal.set_word-requires-2
set_word-requires-2 c = record { room = omega arith; small = omega (arith, square_le c.requires.0) }

pub returns : goal.returns
returns c =
    let a = c.args in
    let n = a.n in
    c.set_word-2.ensures
    ∙ ap (λ (z : List ℕ). set_word z (4 * (n * n) + 2 * a.b) (a.p + 1))
    (c.set_word.ensures ∙ ap (set_word a.area.now (2 * (n * n) + 2 * a.p)) c.word_at-old.ensures.number)
