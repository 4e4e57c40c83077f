-- A form read from the front, one symbol after the other, and the first place at which nothing of the form continues. A symbol is a byte, or a line of bytes: then a place is a line.
use Rattle.std.specs.Prelude.{ℕ, suc, ◌≤◌, ◌<◌, ◌≡◌, List, [], ◌∷◌, ◌++◌, length, take}
use Rattle.std.proofs.Math.Option.{Option, some, Option-elim}

-- a reader of such a form: the state before the first symbol; the state behind one more, or none where nothing continues; what is said if the symbols end here, or none
pub record Scanner (Symbol State Value : Type 0) : Type 0 where
  pub start : State
  pub step : State → Symbol → Option State
  pub end : State → Option Value

-- what a scan gives: what the symbols say, or the place of the fault, from 0; the end counts as a place
pub data Scanned (Value : Type 0) : Type 0 where
  says : Value → Scanned Value
  fault_at : ℕ → Scanned Value

-- the symbols from a place on
unfoldable pub scan_from : {Symbol State Value : Type 0} → Scanner Symbol State Value → State → ℕ → List Symbol → Scanned Value
scan_from x s at [] = Option-elim (x.end s) (fault_at at) says
scan_from x s at (b ∷ text) = Option-elim (x.step s b) (fault_at at) (λ t. scan_from x t (suc at) text)

-- the whole text
unfoldable pub scan : {Symbol State Value : Type 0} → Scanner Symbol State Value → List Symbol → Scanned Value
scan x text = scan_from x x.start 0 text

-- from a state the scanner takes the whole text, and it says v
pub data Takes {Symbol State Value : Type 0} (x : Scanner Symbol State Value) : State → List Symbol → Value → Type 0 where
  ends : {s : State} {v : Value} → x.end s ≡ some v → Takes x s [] v
  goes : {s : State} {b : Symbol} {text : List Symbol} {v : Value} (t : State) → x.step s b ≡ some t → Takes x t text v → Takes x s (b ∷ text) v

-- some text of the form F begins so; F says which texts are of the form, and what each says
unfoldable pub Continues : {Symbol Value : Type 0} → (List Symbol → Value → Type 0) → List Symbol → Type 0
Continues {Symbol} {Value} F begin = (rest : List Symbol) × (v : Value) × F (begin ++ rest) v

-- p is the first place at which nothing of the form continues: what stands before it does, and not with the symbol at p, or, at the end, the text itself is not of the form
pub record FirstFault {Symbol Value : Type 0} (F : List Symbol → Value → Type 0) (text : List Symbol) (p : ℕ) : Type 0 where
  pub within : p ≤ length text
  pub before : Continues F (take p text)
  pub here : p < length text → Continues F (take (suc p) text) → ⊥
  pub unended : p ≡ length text → (v : Value) → F text v → ⊥

-- the scanner is one of the form F: it takes the texts of F, and each state that it comes to leads on to some end
pub record Scans {Symbol State Value : Type 0} (x : Scanner Symbol State Value) (F : List Symbol → Value → Type 0) : Type 1 where
  pub sound : (text : List Symbol) (v : Value) → Takes x x.start text v → F text v
  pub complete : (text : List Symbol) (v : Value) → F text v → Takes x x.start text v
  pub Alive : State → Type 0
  pub alive_start : Alive x.start
  pub alive_step : (s t : State) (b : Symbol) → Alive s → x.step s b ≡ some t → Alive t
  pub leads_on : (s : State) → Alive s → (rest : List Symbol) × (v : Value) × Takes x s rest v
