-- The whole run of the program: the bytes of standard input to the bytes of standard output, as a machine that takes one byte after the other.
use Rattle.std.specs.Prelude.{Err, Ok, Result, ℕ, suc, ◌*◌, min, List, [], ◌∷◌, ◌++◌, Bool, true, false, cond, eqb, leb, ltb, length, take, replicate}
use Rattle.rules.specs.declared.Counts.{Counts}
use Rattle.rules.specs.declared.Refusal.{Refusal}
use Rattle.rules.specs.declared.Refusal.TheVariants.{Frame as FrameFault}
use Rattle.rules.specs.Levels.{level_of}
use Rattle.rules.specs.Outcomes.{BuildCall, BuildEnd, build, StoredCall, stored}
use Rattle.format.specs.declared.Frame.{Frame}
use Rattle.format.specs.declared.Frame.TheVariants.{Sizes, Edge, Query, Faulty}
use Rattle.format.specs.Frames.{frame_of, tokens_of}
use Rattle.format.specs.Texts.{line_feed, refusal_text, built_text, answer_text}

-- the program's limits: items, edges, digits of a line
abbrev pub most_items : ℕ
most_items = 32

abbrev pub most_edges : ℕ
most_edges = 1024

abbrev pub most_digits : ℕ
most_digits = 512

-- how far the run has come
pub data Stage : Type 0 where
  -- no line yet
  opening : Stage
  -- 01 was read: V, L, k, and the edges so far
  gathering : ℕ → ℕ → ℕ → List ℕ → Stage
  -- the tables are built: V, L, the level-k table, and the entries
  answering : ℕ → ℕ → List ℕ → List ℕ → Stage
  -- the rest is unread
  stopped : Stage

unfoldable pub is_stopped : Stage → Bool
is_stopped opening = false
is_stopped (gathering items labels k edges) = false
is_stopped (answering items labels table entries) = false
is_stopped stopped = true

-- what a line comes to: the stage behind it, and what is printed
pub record Turn : Type 0 where
  pub stage : Stage
  pub text : List ℕ

-- nothing is printed
unfoldable pub silent : Stage → Turn
silent s = record { stage = s; text = [] }

-- a refusal that stops the program
unfoldable pub stops : Refusal → Turn
stops r = record { stage = stopped; text = refusal_text r }

-- the program's call of build: entry room 2,048, all lent lists zero
unfoldable pub build_call : ℕ → ℕ → ℕ → List ℕ → BuildCall
build_call items labels k edges =
    record {
      items = items;
      labels = labels;
      k = k;
      edges = edges;
      levels = replicate 4096 0;
      starts = replicate 1025 0;
      order = replicate 1024 0;
      entries = replicate 4096 0;
      area = replicate 9216 0;
    }

-- the tables, and the 81 line; or the refusal, 1 to 6, which stops the program
unfoldable pub built_by : ℕ → ℕ → ℕ → BuildEnd → Result Counts Refusal → Turn
built_by items labels k end (Ok n) =
    record {
      stage = answering items labels (level_of items end.levels k) (take (2 * n.entries) end.entries);
      text = built_text n.classes n.pairs n.entries;
    }
built_by items labels k end (Err r) = stops r

unfoldable pub builds : ℕ → ℕ → ℕ → List ℕ → Turn
builds items labels k edges = let end = build (build_call items labels k edges) in built_by items labels k end end.result

-- the program's call for a stored answer: answer room 1,024
unfoldable pub stored_call : ℕ → ℕ → List ℕ → List ℕ → List ℕ → StoredCall
stored_call items labels table entries tokens =
    record { items = items; labels = labels; table = table; entries = entries; tokens = tokens; answers = replicate 1024 0; area = replicate 9216 0 }

-- a query's answer, or its refusal, which does not stop the program
unfoldable pub answers : Stage → List ℕ → List ℕ
answers opening tokens = []
answers (gathering items labels k edges) tokens = []
answers (answering items labels table entries) tokens = answer_text (stored (stored_call items labels table entries tokens))
answers stopped tokens = []

-- 01 comes first and once; V over 32 is a bad frame
unfoldable pub on_sizes : Turn → ℕ → ℕ → ℕ → Stage → Turn
on_sizes bad items labels k opening = cond (leb items most_items) (silent (gathering items labels k [])) bad
on_sizes bad items labels k (gathering _ _ _ _) = bad
on_sizes bad items labels k (answering _ _ _ _) = bad
on_sizes bad items labels k stopped = bad

-- 02s come next, at most 1,024
unfoldable pub on_edge : Turn → ℕ → ℕ → ℕ → Stage → Turn
on_edge bad source target label opening = bad
on_edge bad source target label (gathering items labels k edges) =
    cond (ltb (length edges) (3 * most_edges)) (silent (gathering items labels k (edges ++ (source ∷ target ∷ label ∷ [])))) bad
on_edge bad source target label (answering _ _ _ _) = bad
on_edge bad source target label stopped = bad

-- the answer to a query behind what is printed already
unfoldable pub asked : Turn → List ℕ → Turn
asked t tokens = record { stage = t.stage; text = t.text ++ answers t.stage tokens }

-- then 03s: the 81 line before the first
unfoldable pub on_query : Turn → List ℕ → Stage → Turn
on_query bad tokens opening = bad
on_query bad tokens (gathering items labels k edges) = asked (builds items labels k edges) tokens
on_query bad tokens (answering items labels table entries) = asked (silent (answering items labels table entries)) tokens
on_query bad tokens stopped = bad

unfoldable pub on_frame : Turn → List ℕ → Stage → Frame → Turn
on_frame bad line s (Sizes items labels k) = on_sizes bad items labels k s
on_frame bad line s (Edge source target label) = on_edge bad source target label s
on_frame bad line s Query = on_query bad (tokens_of line) s
on_frame bad line s Faulty = bad

-- line and stop: 18
unfoldable pub bad_frame : ℕ → Turn
bad_frame number = stops (FrameFault number)

unfoldable pub on_line : Stage → ℕ → List ℕ → Turn
on_line s number line = on_frame (bad_frame number) line s (frame_of line)

-- the run between two bytes: its stage, the number of lines so far, and the bytes of the line in hand
pub record Machine : Type 0 where
  pub stage : Stage
  pub lines : ℕ
  pub part : List ℕ

unfoldable pub beginning : Machine
beginning = record { stage = opening; lines = 0; part = [] }

-- a line's number, from 1; it stays at FFFFFFFF once there
unfoldable pub next_line : ℕ → ℕ
next_line lines = min (suc lines) 4294967295

-- the machine behind a step, and what the step printed
pub record Fed : Type 0 where
  pub machine : Machine
  pub text : List ℕ

-- the line in hand ends as a turn says
unfoldable pub turned : Machine → Turn → Fed
turned m t = record { machine = record { stage = t.stage; lines = next_line m.lines; part = [] }; text = t.text }

unfoldable pub end_line : Machine → Fed
end_line m = turned m (on_line m.stage (next_line m.lines) m.part)

-- one byte more of a line; a line over 512 digits is a bad frame at once
unfoldable pub keep : Machine → ℕ → Fed
keep m b =
    cond (ltb (length m.part) most_digits) (record { machine = record { stage = m.stage; lines = m.lines; part = m.part ++ (b ∷ []) }; text = [] })
    (turned m (bad_frame (next_line m.lines)))

-- one byte; after a stop the rest is unread
unfoldable pub byte : Machine → ℕ → Fed
byte m b = cond (is_stopped m.stage) (record { machine = m; text = [] }) (cond (eqb b line_feed) (end_line m) (keep m b))

-- a text printed before what follows
unfoldable pub after : List ℕ → Fed → Fed
after text f = record { machine = f.machine; text = text ++ f.text }

unfoldable pub feed : Machine → List ℕ → Fed
feed m [] = record { machine = m; text = [] }
feed m (b ∷ bytes) = after (byte m b).text (feed (byte m b).machine bytes)

-- the last line may lack its LF; a final LF opens no line
unfoldable pub last_by : Machine → List ℕ → Fed
last_by m [] = record { machine = m; text = [] }
last_by m (b ∷ part) = end_line m

unfoldable pub last_line : Machine → Fed
last_line m = cond (is_stopped m.stage) (record { machine = m; text = [] }) (last_by m m.part)

-- at the end of input the tables are built if no query asked for them; an input with no line at all is a bad frame
unfoldable pub ended : Machine → Stage → List ℕ
ended m opening = (bad_frame (next_line m.lines)).text
ended m (gathering items labels k edges) = (builds items labels k edges).text
ended m (answering items labels table entries) = []
ended m stopped = []

unfoldable pub finish : Machine → List ℕ
finish m = let last = last_line m in last.text ++ ended last.machine last.machine.stage

-- the whole run
unfoldable pub run : List ℕ → List ℕ
run input = let f = feed beginning input in f.text ++ finish f.machine
