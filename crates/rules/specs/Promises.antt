-- What each public entry promises: an equation for the result and one for each lent buffer.
use Rattle.rules.specs.declared.Part.{Part}
use Rattle.rules.specs.declared.Refusal.{Refusal}
use Rattle.std.specs.Prelude.{Result, ℕ, ◌≡◌, List}
use Rattle.rules.specs.Outcomes.{BuildCall, BuildEnd, build, CheckCall, CheckEnd, check, AnswerEnd, DirectCall, direct, StoredCall, stored, ClassCall, class, class_bounds, lookup_bounds, part_of}

-- build, called with c, ended with e
pub record Builds (c : BuildCall) (e : BuildEnd) : Type 0 where
  pub result : e.result ≡ (build c).result
  pub levels : e.levels ≡ (build c).levels
  pub starts : e.starts ≡ (build c).starts
  pub order : e.order ≡ (build c).order
  pub entries : e.entries ≡ (build c).entries
  pub area : e.area ≡ (build c).area

-- check; the tables are only read
pub record Checks (c : CheckCall) (e : CheckEnd) : Type 0 where
  pub result : e.result ≡ (check c).result
  pub area : e.area ≡ (check c).area

-- an answer that is to end as o
pub record Ends (o e : AnswerEnd) : Type 0 where
  pub result : e.result ≡ o.result
  pub answers : e.answers ≡ o.answers
  pub area : e.area ≡ o.area

abbrev pub AnswersDirectly : DirectCall → AnswerEnd → Type 0
AnswersDirectly c = Ends (direct c)

abbrev pub AnswersStored : StoredCall → AnswerEnd → Type 0
AnswersStored c = Ends (stored c)

abbrev pub AnswersClasses : ClassCall → AnswerEnd → Type 0
AnswersClasses c = Ends (class c)

-- pairs of a class: the bounds in the order list, and the part itself
pub record GivesPairs (c : ℕ) (starts order : List ℕ) (result : Result Part Refusal) : Type 0 where
  pub bounds : result ≡ class_bounds c starts order

pub record HandsPairs (c : ℕ) (starts order part : List ℕ) : Type 0 where
  pub numbers : part ≡ part_of order (class_bounds c starts order)

-- sequence lookup: the bounds in the entry list, and the part itself
pub record LooksUp (symbols entries : List ℕ) (result : Result Part Refusal) : Type 0 where
  pub bounds : result ≡ lookup_bounds symbols entries

pub record HandsEntries (symbols entries part : List ℕ) : Type 0 where
  pub numbers : part ≡ part_of entries (lookup_bounds symbols entries)
