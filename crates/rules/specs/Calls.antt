-- The calls of the entries, from what is lent, and how they end.
use Rattle.rules.specs.declared.Counts.{Counts}
use Rattle.rules.specs.declared.Refusal.{Refusal}
use Rattle.std.specs.Prelude.{Result, ℕ, List}
use Rattle.rules.specs.Accept.{Index}
use Rattle.rules.specs.Outcomes.{BuildCall, BuildEnd, CheckCall, CheckEnd, DirectCall, StoredCall, ClassCall, AnswerEnd}

abbrev pub build_call : ℕ → ℕ → ℕ → List ℕ → List ℕ → List ℕ → List ℕ → List ℕ → List ℕ → BuildCall
build_call items labels k edges levels starts order entries area =
    record {
      items = items;
      labels = labels;
      k = k;
      edges = edges;
      levels = levels;
      starts = starts;
      order = order;
      entries = entries;
      area = area;
    }

abbrev pub build_end : Result Counts Refusal → List ℕ → List ℕ → List ℕ → List ℕ → List ℕ → BuildEnd
build_end result levels starts order entries area =
    record { result = result; levels = levels; starts = starts; order = order; entries = entries; area = area }

abbrev pub index_of : ℕ → ℕ → ℕ → List ℕ → List ℕ → List ℕ → List ℕ → Index
index_of items labels k levels starts order entries =
    record { items = items; labels = labels; k = k; levels = levels; starts = starts; order = order; entries = entries }

abbrev pub check_call : ℕ → ℕ → ℕ → List ℕ → List ℕ → List ℕ → List ℕ → List ℕ → List ℕ → CheckCall
check_call items labels k edges levels starts order entries area =
    record { edges = edges; index = index_of items labels k levels starts order entries; area = area }

abbrev pub check_end : Result Unit Refusal → List ℕ → CheckEnd
check_end result area = record { result = result; area = area }

abbrev pub direct_call : ℕ → ℕ → List ℕ → List ℕ → List ℕ → List ℕ → DirectCall
direct_call items labels edges tokens answers area =
    record { items = items; labels = labels; edges = edges; tokens = tokens; answers = answers; area = area }

abbrev pub stored_call : ℕ → ℕ → List ℕ → List ℕ → List ℕ → List ℕ → List ℕ → StoredCall
stored_call items labels table entries tokens answers area =
    record { items = items; labels = labels; table = table; entries = entries; tokens = tokens; answers = answers; area = area }

abbrev pub class_call : ℕ → ℕ → ℕ → List ℕ → List ℕ → List ℕ → List ℕ → List ℕ → ClassCall
class_call items labels k table entries tokens answers area =
    record { items = items; labels = labels; k = k; table = table; entries = entries; tokens = tokens; answers = answers; area = area }

abbrev pub ended : Result ℕ Refusal → List ℕ → List ℕ → AnswerEnd
ended result answers area = record { result = result; answers = answers; area = area }
