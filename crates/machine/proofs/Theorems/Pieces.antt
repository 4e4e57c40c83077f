-- It does not matter in which pieces the bytes arrive.
use Prim.Native.Nat.{ℕ}
use mathlib.Core.Path.{◌≡◌, refl, sym, ap, ◌∙◌}
use mathlib.Core.List.{List, [], ◌∷◌, ◌++◌, append_assoc}
use Rattle.machine.specs.Machine.{Machine, Fed, byte, after, feed, finish, beginning, run}

-- one text before another, before what follows
after_after : (s t : List ℕ) (f : Fed) → after s (after t f) ≡ after (s ++ t) f
unfolding after
after_after s t f = ap (λ (x : List ℕ). record { machine = f.machine; text = x }) (sym (append_assoc s t f.text))

-- the bytes of a piece, then those of the next: the machine goes on where it was, and prints behind what it printed
pub pieces : (m : Machine) (a b : List ℕ) → feed m (a ++ b) ≡ after (feed m a).text (feed (feed m a).machine b)
unfolding feed after
pieces m [] b = refl
pieces m (x ∷ a) b = ap (after (byte m x).text) (pieces (byte m x).machine a b) ∙ after_after (byte m x).text (feed (byte m x).machine a).text _

-- so a run is the text of a first piece, and then the text of the rest
pub run_pieces : (a b : List ℕ) → run (a ++ b) ≡ (feed beginning a).text ++ ((feed (feed beginning a).machine b).text ++ finish (feed (feed beginning a).machine b).machine)
unfolding run after
run_pieces a b =
    ap (λ (f : Fed). f.text ++ finish f.machine) (pieces beginning a b)
    ∙ append_assoc (feed beginning a).text (feed (feed beginning a).machine b).text (finish (feed (feed beginning a).machine b).machine)
