-- Refusal 18: a run whose lines are no input of the form ends with it, and it names the first line at which nothing of the form continues. Any other run ends as its stage asks.
use Prim.Native.Nat.{ℕ}
use mathlib.Core.Path.{◌≡◌, refl, ap, ◌∙◌}
use mathlib.Core.Logic.{◌⊎◌, inl, inr}
use mathlib.Core.List.{List, [], ◌++◌}
use native.Mathlib.Omega.{arith}
use Rattle.rules.specs.Scanner.{Scanned, says, fault_at, scan, FirstFault}
use Rattle.rules.proofs.Laws.Scanner.{scan_sound, scan_complete, one_value, scan_first, first_scan, fault_one}
use Rattle.machine.specs.Machine.{Stage, opening, is_stopped, beginning, next_line, bad_frame, ended, run}
use Rattle.machine.specs.Lines.{lines_of, program, spoken, closing}
use Rattle.machine.specs.Form.{Input}
use Rattle.machine.proofs.Laws.Lines.{printed, rest, rest_printed}
use Rattle.machine.proofs.Laws.Form.{scans_inputs}

-- the machine's run over bytes is the scan of the lines
pub run_scans : (input : List ℕ) → run input ≡ spoken opening (lines_of input) ++ closing (scan program (lines_of input))
unfolding run rest printed beginning scan program lines_of
run_scans input = rest_printed input opening 0 0 [] (unfold is_stopped in refl) (omega arith) (omega arith)

-- lines of the form: what they print, and what the end of input asks for
pub well_formed : (input : List ℕ) (s : Stage) → Input (lines_of input) s → run input ≡ spoken opening (lines_of input) ++ ended beginning s
well_formed input s q =
    run_scans input
    ∙ ap (λ (z : Scanned Stage). spoken opening (lines_of input) ++ closing z) (scan_complete program Input scans_inputs (lines_of input) s q)
    ∙ unfold closing in refl

-- else what the lines before print, and 18 with the first line at which nothing continues, from 1
pub bad_frame_lem : (input : List ℕ) (p : ℕ) → FirstFault Input (lines_of input) p → run input ≡ spoken opening (lines_of input) ++ (bad_frame (next_line p)).text
bad_frame_lem input p f =
    run_scans input
    ∙ ap (λ (z : Scanned Stage). spoken opening (lines_of input) ++ closing z) (first_scan program Input scans_inputs (lines_of input) p f)
    ∙ unfold closing in refl

-- one of the two is so
pub one_of_two : (input : List ℕ) → ((s : Stage) × Input (lines_of input) s) ⊎ ((p : ℕ) × FirstFault Input (lines_of input) p)
one_of_two input = go (scan program (lines_of input)) refl
  where
    go : (r : Scanned Stage) → scan program (lines_of input) ≡ r → ((s : Stage) × Input (lines_of input) s) ⊎ ((p : ℕ) × FirstFault Input (lines_of input) p)
    go (says s) e = inl (s, scan_sound program Input scans_inputs (lines_of input) s e)
    go (fault_at p) e = inr (p, scan_first program Input scans_inputs (lines_of input) p e)

-- and each in one way
pub one_end : (input : List ℕ) (s t : Stage) → Input (lines_of input) s → Input (lines_of input) t → s ≡ t
one_end input = one_value program Input scans_inputs (lines_of input)

pub one_line : (input : List ℕ) (p q : ℕ) → FirstFault Input (lines_of input) p → FirstFault Input (lines_of input) q → p ≡ q
one_line input = fault_one Input (lines_of input)
