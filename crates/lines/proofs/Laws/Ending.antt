-- At the end of the input at most one text is printed: that of the last line, or that of the end.
use Rattle.std.proofs.Common.{Err, Ok, Result}
use Rattle.rules.specs.declared.Counts.{Counts}
use Rattle.rules.specs.declared.Refusal.{Refusal}
use Prim.Native.Nat.{ℕ, ◌+◌}
use mathlib.Core.Path.{◌≡◌, refl, sym, ap, ◌∙◌}
use mathlib.Core.List.{List, [], ◌∷◌, ◌++◌, append-nil}
use mathlib.Core.Logic.{◌⊎◌, inl, inr}
use mathlib.Core.Bool.{Bool, true, false, cond}
use native.Mathlib.Omega.{arith}
use lib.Dec.{leb, ltb}
use lib.ListN.{length}
use lib.Seq.{sets}
use Rattle.rules.specs.Outcomes.{BuildEnd, build}
use Rattle.format.specs.declared.Frame.{Frame}
use Rattle.format.specs.declared.Frame.TheVariants.{Sizes, Edge, Query, Faulty}
use Rattle.machine.specs.declared.Run.{Run}
use Rattle.format.specs.Frames.{frame_of, tokens_of}
use Rattle.machine.specs.Machine.{Stage, opening, gathering, answering, stopped, is_stopped, Turn, silent, stops, build_call, built_by, builds, on_sizes, on_edge, asked, on_query, on_frame, bad_frame, on_line, Machine, next_line, Fed, turned, end_line, last_by, last_line, ended, finish}
use Rattle.machine.specs.Standing.{stage_of, machine_of, Steps}
use Rattle.lines.specs.Lent.{Written}

-- a turn prints nothing, or leaves nothing to print at the end
abbrev Quiet : Turn → Type 0
Quiet t = (t.text ≡ []) ⊎ ((m : Machine) → ended m t.stage ≡ [])

chosen : (b : Bool) (s : Stage) (bad : Turn) → Quiet bad → Quiet (cond b (silent s) bad)
unfolding silent
chosen true s bad q = inl refl
chosen false s bad q = q

built_quiet : (items labels k : ℕ) (end : BuildEnd) (b : Result Counts Refusal) (m : Machine) → ended m (built_by items labels k end b).stage ≡ []
unfolding built_by stops ended
built_quiet items labels k end (Ok n) m = refl
built_quiet items labels k end (Err r) m = refl

sizes_quiet : (bad : Turn) → Quiet bad → (items labels k : ℕ) (s : Stage) → Quiet (on_sizes bad items labels k s)
unfolding on_sizes
sizes_quiet bad q items labels k opening = chosen (leb items 32) (gathering items labels k []) bad q
sizes_quiet bad q items labels k (gathering _ _ _ _) = q
sizes_quiet bad q items labels k (answering _ _ _ _) = q
sizes_quiet bad q items labels k stopped = q

edge_quiet : (bad : Turn) → Quiet bad → (source target label : ℕ) (s : Stage) → Quiet (on_edge bad source target label s)
unfolding on_edge
edge_quiet bad q source target label opening = q
edge_quiet bad q source target label (gathering items labels k edges) = chosen (ltb (length edges) 3072) (gathering items labels k (edges ++ (source ∷ target ∷ label ∷ []))) bad q
edge_quiet bad q source target label (answering _ _ _ _) = q
edge_quiet bad q source target label stopped = q

query_quiet : (bad : Turn) → Quiet bad → (tokens : List ℕ) (s : Stage) → Quiet (on_query bad tokens s)
unfolding on_query asked silent builds ended
query_quiet bad q tokens opening = q
query_quiet bad q tokens (gathering items labels k edges) = inr (λ m. built_quiet items labels k (build (build_call items labels k edges)) (build (build_call items labels k edges)).result m)
query_quiet bad q tokens (answering items labels table entries) = inr (λ m. refl)
query_quiet bad q tokens stopped = q

frame_quiet : (bad : Turn) → Quiet bad → (line : List ℕ) (s : Stage) (f : Frame) → Quiet (on_frame bad line s f)
unfolding on_frame
frame_quiet bad q line s (Sizes items labels k) = sizes_quiet bad q items labels k s
frame_quiet bad q line s (Edge source target label) = edge_quiet bad q source target label s
frame_quiet bad q line s Query = query_quiet bad q (tokens_of line) s
frame_quiet bad q line s Faulty = q

line_quiet : (s : Stage) (number : ℕ) (line : List ℕ) → Quiet (on_line s number line)
unfolding on_line bad_frame stops ended
line_quiet s number line = frame_quiet (bad_frame number) (inr (λ m. refl)) line s (frame_of line)

-- so for the last line
abbrev Calm : Fed → Type 0
Calm f = (f.text ≡ []) ⊎ (ended f.machine f.machine.stage ≡ [])

calm : (m : Machine) (t : Turn) → Quiet t → Calm (turned m t)
unfolding turned
calm m t (inl e) = inl e
calm m t (inr q) = inr (q _)

last_calm : (m : Machine) (l : List ℕ) → Calm (last_by m l)
unfolding last_by end_line
last_calm m [] = inl refl
last_calm m (b ∷ l) = calm m (on_line m.stage (next_line m.lines) m.part) (line_quiet m.stage (next_line m.lines) m.part)

stop_calm : (b : Bool) (m : Machine) (f : Fed) → Calm f → Calm (cond b (record { machine = m; text = [] }) f)
stop_calm true m f q = inl refl
stop_calm false m f q = q

line_calm : (m : Machine) → Calm (last_line m)
unfolding last_line
line_calm m = stop_calm (is_stopped m.stage) m (last_by m m.part) (last_calm m m.part)

module _ (m : Machine) (told : ℕ) (old mid : Run) (s : Steps (last_line m) told old mid) where
  abbrev end : List ℕ
  end = ended (machine_of mid) (stage_of mid)

  -- the same end, by the machine behind the last line
  end_same : end ≡ ended (last_line m).machine (last_line m).machine.stage
  end_same = ap (λ (n : Machine). ended n n.stage) s.machine

  -- the last line is silent, or the end is
  one_text : Calm (last_line m) → (rest : ℕ) (last : List ℕ) → Written end rest 0 mid.out last → Written (finish m) (told + rest) 0 old.out last
  unfolding finish
  one_text (inl e) rest last w =
      let f : finish m ≡ end = ap (λ (l : List ℕ). l ++ ended (last_line m).machine (last_line m).machine.stage) e ∙ sym end_same in
      let same : mid.out ≡ old.out = s.text ∙ ap (sets old.out 0) e in
      record {
        size = omega (arith, s.many, ap length e, w.size, ap length f);
        bytes = w.bytes ∙ (ap (λ (l : List ℕ). sets l 0 end) same ∙ ap (sets old.out 0) (sym f));
        inside = omega (arith, s.many, ap length e, w.inside, ap length same);
      }
  one_text (inr e) rest last w =
      let z : end ≡ [] = end_same ∙ e in
      let f : finish m ≡ (last_line m).text = ap (λ (l : List ℕ). (last_line m).text ++ l) e ∙ append-nil (last_line m).text in
      record {
        size = omega (arith, s.many, w.size, ap length z, ap length f);
        bytes = w.bytes ∙ (ap (sets mid.out 0) z ∙ (s.text ∙ ap (sets old.out 0) (sym f)));
        inside = omega (arith, s.inside, w.size, ap length z);
      }

  pub finish_told : (rest : ℕ) (last : List ℕ) → Written end rest 0 mid.out last → Written (finish m) (told + rest) 0 old.out last
  finish_told rest last w = one_text (line_calm m) rest last w
