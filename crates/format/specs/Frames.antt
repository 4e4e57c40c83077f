-- What a line says: 01 V 4 digits, L 2, k 2; 02 source 4, target 4, label 2; 03 tokens, 2 digits each. Any other line is a bad frame.
use Rattle.std.specs.Prelude.{ℕ, ◌+◌, ◌-◌, ◌*◌, ◌/◌, ◌%◌, List, Bool, ◌&&◌, cond, eqb, length, Option, Some, None, is_some, unwrap_or}
use Rattle.hexa.specs.Digits.{number_at}
use Rattle.rules.specs.Finite.{all_below, table_below}
use Rattle.format.specs.declared.Frame.{Frame}
use Rattle.format.specs.declared.Frame.TheVariants.{Sizes, Edge, Query, Faulty}

-- three numbers, or none if one of them is none
unfoldable pub three : Option ℕ → Option ℕ → Option ℕ → Option (ℕ × ℕ × ℕ)
three (Some a) (Some b) (Some c) = Some (a, b, c)
three (Some a) (Some b) None = None
three (Some a) None r = None
three None q r = None

-- behind the kind: a number of 4 digits, one of so many digits, one of 2, and the line's end
unfoldable pub fields_of : List ℕ → ℕ → Option (ℕ × ℕ × ℕ)
fields_of line digits =
    cond (eqb (8 + digits) (length line)) (three (number_at line 2 4) (number_at line 6 digits) (number_at line (6 + digits) 2)) None

unfoldable pub sizes_by : Option (ℕ × ℕ × ℕ) → Frame
sizes_by (Some (items, labels, k)) = Sizes items labels k
sizes_by None = Faulty

unfoldable pub edge_by : Option (ℕ × ℕ × ℕ) → Frame
edge_by (Some (source, target, label)) = Edge source target label
edge_by None = Faulty

-- the tokens behind 03: how many two digits there are, whether each is a number, and the numbers
unfoldable pub token_count : List ℕ → ℕ
token_count line = length line / 2 - 1

unfoldable pub is_token : List ℕ → ℕ → Bool
is_token line i = is_some (number_at line (2 + 2 * i) 2)

unfoldable pub token_at : List ℕ → ℕ → ℕ
token_at line i = unwrap_or (number_at line (2 + 2 * i) 2) 0

unfoldable pub all_tokens : List ℕ → Bool
all_tokens line = eqb (length line % 2) 0 && all_below (token_count line) (is_token line)

unfoldable pub tokens_of : List ℕ → List ℕ
tokens_of line = table_below (token_count line) (token_at line)

-- by the kind, which is the number of the first two digits
unfoldable pub frame_by : List ℕ → Option ℕ → Frame
frame_by line (Some kind) =
    cond (eqb kind 1) (sizes_by (fields_of line 2))
    (cond (eqb kind 2) (edge_by (fields_of line 4)) (cond (eqb kind 3) (cond (all_tokens line) Query Faulty) Faulty))
frame_by line None = Faulty

unfoldable pub frame_of : List ℕ → Frame
frame_of line = frame_by line (number_at line 0 2)
