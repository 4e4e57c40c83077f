-- This paper's number and values for each case of each answer: document 01's table.
use Rattle.rules.specs.declared.Counts.{Counts}
use Rattle.rules.specs.declared.Part.{Part}
use Rattle.std.specs.Prelude.{Err, Ok, Result, ℕ}
use Rattle.rules.specs.declared.Refusal.{Refusal}
use Rattle.rules.specs.declared.Refusal.TheVariants.{Sizes, LevelCount, EdgeCount, Edge, Room, EntryRoom, QueryLength, Unknown, FewOperands, NinthOperand, OperandsLeft, TooLong, AnswerRoom, NoClass, LevelFault, ListFault, EntryFault, Frame}
use Rattle.rules.specs.declared.ClassList.{ClassList}
use Rattle.rules.specs.declared.ClassList.TheVariants.{Starts, Order}
use Rattle.rules.specs.declared.Report.{Report}

-- a number of the table and up to three values; what the table does not name is 0
abbrev pub report : ℕ → ℕ → ℕ → ℕ → Report
report number a b c = record { number = number; a = a; b = b; c = c }

-- which of the class lists differs: 1 starts, 2 order
unfoldable pub list_number : ClassList → ℕ
list_number Starts = 1
list_number Order = 2

-- a refusal's number and values
unfoldable pub of_refusal : Refusal → Report
of_refusal Sizes = report 1 0 0 0
of_refusal LevelCount = report 2 0 0 0
of_refusal EdgeCount = report 3 0 0 0
of_refusal (Edge e) = report 4 e 0 0
of_refusal Room = report 5 0 0 0
of_refusal (EntryRoom need) = report 6 need 0 0
of_refusal QueryLength = report 7 0 0 0
of_refusal (Unknown place) = report 8 place 0 0
of_refusal (FewOperands place) = report 9 place 0 0
of_refusal (NinthOperand place) = report 10 place 0 0
of_refusal OperandsLeft = report 11 0 0 0
of_refusal TooLong = report 12 0 0 0
of_refusal (AnswerRoom need) = report 13 need 0 0
of_refusal NoClass = report 14 0 0 0
of_refusal (LevelFault level position) = report 15 level position 0
of_refusal (ListFault list index) = report 16 list index 0
of_refusal (EntryFault index) = report 17 index 0 0
of_refusal (Frame line) = report 18 line 0 0

-- 0: the number of classes, of connected pairs and of entries
unfoldable pub of_built : Result Counts Refusal → Report
of_built (Ok counts) = report 0 counts.classes counts.pairs counts.entries
of_built (Err r) = of_refusal r

-- 0 has no value
unfoldable pub of_checked : Result Unit Refusal → Report
of_checked (Ok _) = report 0 0 0 0
of_checked (Err r) = of_refusal r

-- 0: the number of answers
unfoldable pub of_answered : Result ℕ Refusal → Report
of_answered (Ok many) = report 0 many 0 0
of_answered (Err r) = of_refusal r

-- 0: the bounds of the part
unfoldable pub of_bounds : Result Part Refusal → Report
of_bounds (Ok part) = report 0 0 part.from part.to
of_bounds (Err r) = of_refusal r
