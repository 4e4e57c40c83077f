-- The turn of a query and of any line, by the tests of the code.
use Prim.Native.Nat.{ℕ, suc, ◌+◌, ◌*◌}
use mathlib.Core.Path.{◌≡◌, refl, sym, ap, ◌∙◌}
use mathlib.Core.List.{List, [], ◌∷◌, ◌++◌, append-nil}
use native.Mathlib.Omega.{arith}
use lib.ListN.{length, set, take, length-append}
use lib.Seq.{sets, length-sets}
use Rattle.rules.specs.Levels.{level_of}
use Rattle.rules.specs.Outcomes.{stored}
use Rattle.format.specs.declared.Frame.TheVariants.{Sizes, Edge, Query, Faulty}
use Rattle.machine.specs.declared.Gathered.{Gathered}
use Rattle.machine.specs.declared.Tables.{Tables}
use Rattle.machine.specs.declared.Progress.{Progress}
use Rattle.machine.specs.declared.Progress.TheVariants.{Opening, Gathering, Answering, Stopped}
use Rattle.machine.specs.declared.Run.{Run}
use Rattle.format.specs.Frames.{frame_of, tokens_of}
use Rattle.format.specs.Texts.{answer_text}
use Rattle.machine.specs.Machine.{Stage, Turn, silent, builds, stored_call, answers, asked, bad_frame, on_sizes, on_edge, on_query, on_frame, on_line}
use Rattle.machine.specs.Standing.{stage_by, stage_of, Comes}
use Rattle.lines.specs.Lent.{Adds}
use Rattle.machine.proofs.Laws.Stages.{comes_as}

-- stores in a row, in two parts
pub sets_append : (a b l : List ℕ) (i next : ℕ) → next ≡ i + length a → sets l i (a ++ b) ≡ sets (sets l i a) next b
sets_append [] b l i next e = ap (λ (k : ℕ). sets l k b) (omega (arith, e))
sets_append (x ∷ a) b l i next e = sets_append a b (set l i x) (suc i) next (omega (arith, e))

-- a query's answer is there when the tables are
pub answers_none : (p : Progress) (edges levels entries tokens : List ℕ) → ((t : Tables) → p ≡ Answering t → ⊥) → answers (stage_by p edges levels entries) tokens ≡ []
unfolding answers stage_by
answers_none Opening edges levels entries tokens h = refl
answers_none (Gathering g) edges levels entries tokens h = refl
answers_none (Answering t) edges levels entries tokens h = absurd (h t refl)
answers_none Stopped edges levels entries tokens h = refl

-- the text of a query's answer
abbrev pub told_of : Tables → Run → List ℕ → List ℕ
told_of t r tokens = answer_text (stored (stored_call t.sizes.items t.sizes.labels (level_of t.sizes.items r.levels t.sizes.k) (take t.entries r.entries) tokens))

answers_there : (t : Tables) (r : Run) (tokens : List ℕ) → r.progress ≡ Answering t → told_of t r tokens ≡ answers (stage_of r) tokens
unfolding answers stage_by
answers_there t r tokens e = rw e

module _ (turn : Turn) (at : ℕ) (old mid : Run) (h : Comes turn at old mid) (tokens : List ℕ) where
  pub unasked : answers (stage_of mid) tokens ≡ [] → Comes (asked turn tokens) at old mid
  unfolding asked
  unasked e =
      let text : turn.text ++ answers turn.stage tokens ≡ turn.text =
      ap (λ (s : Stage). turn.text ++ answers s tokens) (sym h.stage) ∙ (ap (λ (l : List ℕ). turn.text ++ l) e ∙ append-nil turn.text) in
      comes_as (ap (λ (l : List ℕ). record { stage = turn.stage; text = l }) text) h

  pub asked_there : (t : Tables) (more : ℕ) (new : Run) → mid.progress ≡ Answering t → Adds (told_of t mid tokens) more at mid new → Comes (asked turn tokens) (at + more) old new
  unfolding asked
  asked_there t more new e w =
      let text = told_of t mid tokens in
      let is : text ≡ answers turn.stage tokens = answers_there t mid tokens e ∙ ap (λ (s : Stage). answers s tokens) h.stage in
      record {
        stage = w.stage ∙ h.stage;
        many = omega (arith, h.many, w.written.size, ap length is, length-append turn.text (answers turn.stage tokens));
        text =
            w.written.bytes
            ∙ (ap (λ (l : List ℕ). sets l at text) h.text
            ∙ (ap (sets (sets old.out 0 turn.text) at) is
            ∙ sym (sets_append turn.text (answers turn.stage tokens) old.out 0 at (omega (arith, h.many)))));
        inside = omega (arith, w.written.inside, ap length h.text, length-sets old.out 0 turn.text);
        lines = w.lines ∙ h.lines;
        line = w.line ∙ h.line;
      }

-- 03, by the progress
pub silent_comes : (r : Run) → Comes (silent (stage_of r)) 0 r r
unfolding silent
silent_comes r = record { stage = refl; many = refl; text = refl; inside = omega arith; lines = refl; line = refl }

module _ (bad : Turn) (edges levels entries tokens : List ℕ) where
  pub query_bad : (p : Progress) → ((g : Gathered) → p ≡ Gathering g → ⊥) → ((t : Tables) → p ≡ Answering t → ⊥) → on_query bad tokens (stage_by p edges levels entries) ≡ bad
  unfolding on_query stage_by
  query_bad Opening f h = refl
  query_bad (Gathering g) f h = absurd (f g refl)
  query_bad (Answering t) f h = absurd (h t refl)
  query_bad Stopped f h = refl

  pub query_gathering : (p : Progress) (g : Gathered) → p ≡ Gathering g
      → on_query bad tokens (stage_by p edges levels entries) ≡ asked (builds g.sizes.items g.sizes.labels g.sizes.k (take (3 * g.edges) edges)) tokens
  unfolding on_query stage_by
  query_gathering p g e = rw e

  pub query_answering : (p : Progress) (t : Tables) → p ≡ Answering t
      → on_query bad tokens (stage_by p edges levels entries) ≡ asked (silent (stage_by p edges levels entries)) tokens
  unfolding on_query stage_by
  query_answering p t e = rw e

-- any line, by what it says
module _ (s : Stage) (number : ℕ) (line : List ℕ) where
  pub line_sizes : (a b c : ℕ) → frame_of line ≡ Sizes a b c → on_line s number line ≡ on_sizes (bad_frame number) a b c s
  unfolding on_line on_frame
  line_sizes a b c e = rw e

  pub line_edge : (a b c : ℕ) → frame_of line ≡ Edge a b c → on_line s number line ≡ on_edge (bad_frame number) a b c s
  unfolding on_line on_frame
  line_edge a b c e = rw e

  pub line_query : frame_of line ≡ Query → on_line s number line ≡ on_query (bad_frame number) (tokens_of line) s
  unfolding on_line on_frame
  line_query e = rw e

  pub line_faulty : frame_of line ≡ Faulty → on_line s number line ≡ bad_frame number
  unfolding on_line on_frame
  line_faulty e = rw e
