-- The lines of the output: 81 for the tables, 83 for an answer, FF for a refusal, each with its LF.
use Rattle.std.specs.Prelude.{Err, Ok, Result, ℕ, List, [], ◌∷◌, take}
use Rattle.hexa.specs.Digits.{put_digits}
use Rattle.rules.specs.declared.Refusal.{Refusal}
use Rattle.rules.specs.Numbers.{of_refusal}
use Rattle.rules.specs.Outcomes.{AnswerEnd}

-- the byte that ends a line
abbrev pub line_feed : ℕ
line_feed = 10

-- FF, number 2, place or need 8
unfoldable pub refusal_text : Refusal → List ℕ
refusal_text r = put_digits 2 255 (put_digits 2 (of_refusal r).number (put_digits 8 (of_refusal r).a (line_feed ∷ [])))

-- 81, classes, connected pairs, entries, 4 digits each
unfoldable pub built_text : ℕ → ℕ → ℕ → List ℕ
built_text classes pairs entries = put_digits 2 129 (put_digits 4 classes (put_digits 4 pairs (put_digits 4 entries (line_feed ∷ []))))

-- positions, 4 digits each, before a rest
unfoldable pub positions : List ℕ → List ℕ → List ℕ
positions [] rest = rest
positions (p ∷ list) rest = put_digits 4 p (positions list rest)

-- 83, count, positions
unfoldable pub list_text : ℕ → List ℕ → List ℕ
list_text many list = put_digits 2 131 (put_digits 4 many (positions list (line_feed ∷ [])))

-- what a stored answer is told as: its list, or its refusal
unfoldable pub answer_by : List ℕ → Result ℕ Refusal → List ℕ
answer_by answers (Ok many) = list_text many (take many answers)
answer_by answers (Err r) = refusal_text r

unfoldable pub answer_text : AnswerEnd → List ℕ
answer_text e = answer_by e.answers e.result
