-- What each function for C promises: the numbers of the answer, and an equation for every lent list that it may write.
use Rattle.rules.specs.declared.Part.{Part}
use Rattle.rules.specs.declared.Refusal.{Refusal}
use Rattle.rules.specs.Outcomes.{span}
use Rattle.std.specs.Prelude.{Err, Ok, Result, ℕ, ◌%◌, ◌^◌, ◌≡◌, List}
use Rattle.rules.specs.declared.Report.{Report}
use Rattle.rules.specs.Numbers.{of_built, of_checked, of_answered, of_bounds}
use Rattle.rules.specs.Outcomes.{BuildCall, build, CheckCall, check, AnswerEnd, class_bounds, lookup_bounds}
use Rattle.abi.specs.declared.KvResult.{KvResult}

-- an answer's numbers, laid out for C
unfoldable pub handed : Report → KvResult
handed r = record { number = r.number; a = r.a; b = r.b; c = r.c }

-- bounds as 32-bit numbers: of a list longer than 2³² numbers modulo 2³²
unfoldable pub narrowed : Result Part Refusal → Result Part Refusal
narrowed (Ok part) = Ok (span (part.from % 2 ^ 32) (part.to % 2 ^ 32))
narrowed (Err r) = Err r

-- build, called with c
pub record HandsBuilt (c : BuildCall) (r : KvResult) (levels' starts' order' entries' area' : List ℕ) : Type 0 where
  pub result : r ≡ handed (of_built (build c).result)
  pub levels : levels' ≡ (build c).levels
  pub starts : starts' ≡ (build c).starts
  pub order : order' ≡ (build c).order
  pub entries : entries' ≡ (build c).entries
  pub area : area' ≡ (build c).area

-- check; the tables are only read
pub record HandsChecked (c : CheckCall) (r : KvResult) (area' : List ℕ) : Type 0 where
  pub result : r ≡ handed (of_checked (check c).result)
  pub area : area' ≡ (check c).area

-- direct, stored and class answer, that are to end as o
pub record HandsAnswered (o : AnswerEnd) (r : KvResult) (answers' area' : List ℕ) : Type 0 where
  pub result : r ≡ handed (of_answered o.result)
  pub answers : answers' ≡ o.answers
  pub area : area' ≡ o.area

-- pairs of a class: the bounds are 32-bit numbers of the starts list
pub record HandsBounds (c : ℕ) (starts order : List ℕ) (r : KvResult) : Type 0 where
  pub result : r ≡ handed (of_bounds (class_bounds c starts order))

-- sequence lookup
pub record HandsRun (symbols entries : List ℕ) (r : KvResult) : Type 0 where
  pub result : r ≡ handed (of_bounds (narrowed (lookup_bounds symbols entries)))
