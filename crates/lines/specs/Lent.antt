-- What the code's calls of build and of a stored answer leave in the run.
use Rattle.std.specs.Prelude.{ℕ, ◌+◌, ◌≤◌, ◌≡◌, List, Result, length, replicate}
use Rattle.std.proofs.lemmas.List.Edits.{sets}
use Rattle.rules.specs.declared.Counts.{Counts}
use Rattle.rules.specs.declared.Refusal.{Refusal}
use Rattle.rules.specs.Outcomes.{BuildCall, build, StoredCall, stored}
use Rattle.machine.specs.declared.Sizes.{Sizes}
use Rattle.machine.specs.declared.Run.{Run}
use Rattle.machine.specs.Standing.{stage_of, line_of}

-- the code's call of build: what stands in levels and entries, all other lent lists zero
unfoldable pub call_of : Sizes → List ℕ → List ℕ → List ℕ → BuildCall
call_of sizes edges levels entries =
    record {
      items = sizes.items;
      labels = sizes.labels;
      k = sizes.k;
      edges = edges;
      levels = levels;
      starts = replicate 1025 0;
      order = replicate 1024 0;
      entries = entries;
      area = replicate 9216 0;
    }

-- the code's result, levels and entries are what build makes of a call; the lines and the output are as they were
pub record Made (c : BuildCall) (r : Result Counts Refusal) (old new : Run) : Type 0 where
  pub result : r ≡ (build c).result
  pub levels_made : new.levels ≡ (build c).levels
  pub entries_made : new.entries ≡ (build c).entries
  pub out : new.out ≡ old.out
  pub lines : new.lines ≡ old.lines
  pub line : line_of new ≡ line_of old

-- the code's result and answers are what a stored answer makes of a call
pub record Found (c : StoredCall) (r : Result ℕ Refusal) (answers : List ℕ) : Type 0 where
  pub result : r ≡ (stored c).result
  pub answers_made : answers ≡ (stored c).answers

-- so many bytes of the output, from a place on, are the text
pub record Written (text : List ℕ) (many at : ℕ) (old new : List ℕ) : Type 0 where
  pub size : many ≡ length text
  pub bytes : new ≡ sets old at text
  pub inside : at + many ≤ length old

-- what a query is answered from: the level-k table and the entries lie within the lent lists, and the answer in the output
pub record Ready (levels entries : List ℕ) (at : ℕ) (out : List ℕ) : Type 0 where
  pub levels_lent : length levels ≡ 4096
  pub entries_lent : length entries ≡ 4096
  pub room : at + 4103 ≤ length out

-- so many bytes of the output, from a place on, are the text; the stage, the lines and the line in hand are as they were
pub record Adds (text : List ℕ) (many at : ℕ) (old new : Run) : Type 0 where
  pub written : Written text many at old.out new.out
  pub stage : stage_of new ≡ stage_of old
  pub lines : new.lines ≡ old.lines
  pub line : line_of new ≡ line_of old
