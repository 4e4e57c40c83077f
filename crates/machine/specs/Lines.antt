-- The input as lines, and the lines as a form that is read from the front: refusal 18 names the first line at which nothing of the form continues.
use Rattle.std.specs.Prelude.{ℕ, ◌*◌, List, [], ◌∷◌, ◌++◌, Bool, true, false, ◌&&◌, cond, eqb, leb, ltb, length}
use Rattle.std.proofs.Math.Option.{Option, none, some, Option-elim}
use Rattle.rules.specs.Scanner.{Scanner, Scanned, says, fault_at}
use Rattle.format.specs.declared.Frame.{Frame}
use Rattle.format.specs.declared.Frame.TheVariants.{Sizes, Edge, Query, Faulty}
use Rattle.format.specs.Frames.{frame_of}
use Rattle.format.specs.Texts.{line_feed}
use Rattle.machine.specs.Machine.{most_items, most_edges, most_digits, Stage, opening, gathering, answering, stopped, is_stopped, Turn, silent, bad_frame, on_line, next_line, beginning, ended}

-- the last line may lack its LF; a final LF opens no line
unfoldable pub last_of : List ℕ → List (List ℕ)
last_of [] = []
last_of (b ∷ part) = (b ∷ part) ∷ []

-- the lines of the bytes behind those of the line in hand
unfoldable pub lines_from : List ℕ → List ℕ → List (List ℕ)
lines_from part [] = last_of part
lines_from part (b ∷ bytes) = cond (eqb b line_feed) (part ∷ lines_from [] bytes) (lines_from (part ++ (b ∷ [])) bytes)

-- the lines of the input
unfoldable pub lines_of : List ℕ → List (List ℕ)
lines_of input = lines_from [] input

-- one 01 with V at most 32, then at most 1,024 02s, then 03s
unfoldable pub fits : Stage → Frame → Bool
fits opening (Sizes items labels k) = leb items most_items
fits opening (Edge source target label) = false
fits opening Query = false
fits opening Faulty = false
fits (gathering items labels k edges) (Sizes _ _ _) = false
fits (gathering items labels k edges) (Edge source target label) = ltb (length edges) (3 * most_edges)
fits (gathering items labels k edges) Query = true
fits (gathering items labels k edges) Faulty = false
fits (answering items labels table entries) (Sizes _ _ _) = false
fits (answering items labels table entries) (Edge _ _ _) = false
fits (answering items labels table entries) Query = true
fits (answering items labels table entries) Faulty = false
fits stopped frame = false

-- the line is of at most 512 digits, and its frame comes where it may
unfoldable pub well_framed : Stage → List ℕ → Bool
well_framed s line = leb (length line) most_digits && fits s (frame_of line)

-- what a line comes to, or none where it is a bad frame; after a stop the rest is unread. No good line's turn sees the line's number
unfoldable pub line_turn : Stage → List ℕ → Option Turn
line_turn s line = cond (is_stopped s) (some (silent s)) (cond (well_framed s line) (some (on_line s 0 line)) none)

unfoldable pub line_step : Stage → List ℕ → Option Stage
line_step s line = Option-elim (line_turn s line) none (λ t. some t.stage)

-- the input may end behind any line, but not before the first
unfoldable pub line_end : Stage → Option Stage
line_end opening = none
line_end (gathering items labels k edges) = some (gathering items labels k edges)
line_end (answering items labels table entries) = some (answering items labels table entries)
line_end stopped = some stopped

-- the program's input, read line by line; it says the stage at which it ends
unfoldable pub program : Scanner (List ℕ) Stage Stage
program = record { start = opening; step = line_step; end = line_end }

-- what the lines before the first bad frame print
unfoldable pub spoken : Stage → List (List ℕ) → List ℕ
spoken s [] = []
spoken s (line ∷ lines) = Option-elim (line_turn s line) [] (λ t. t.text ++ spoken t.stage lines)

-- what is printed last: 18 with the line, from 1, or what the end of input asks for
unfoldable pub closing : Scanned Stage → List ℕ
closing (says s) = ended beginning s
closing (fault_at p) = (bad_frame (next_line p)).text
