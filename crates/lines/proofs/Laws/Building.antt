-- What build says of the program's call depends on how much is lent, not on what stands there.
use Rattle.std.proofs.Common.{Err, Ok, Result}
use Prim.Native.Nat.{ℕ, ◌*◌, ◌/◌, ◌≤◌}
use mathlib.Core.Path.{◌≡◌, refl, sym, ap, ◌∙◌, subst}
use mathlib.Core.List.{List}
use mathlib.Core.Bool.{true}
use native.Mathlib.Omega.{arith}
use borrow.Author.Tests.{leb-true}
use lib.Dec.{leb}
use lib.ListN.{length, take, replicate, length-replicate}
use lib.Seq.{sets}
use Rattle.rules.specs.declared.Refusal.{Refusal}
use Rattle.rules.specs.declared.Counts.{Counts}
use Rattle.rules.specs.Levels.{level_of}
use Rattle.rules.specs.Verdict.{Verdict, good, refuse, room}
use Rattle.rules.specs.Outcomes.{counted, BuildCall, build_refusal, build_nothing, build_tables, index_for, build_after, build}
use Rattle.rules.proofs.Laws.Links.{LevelsFit, levels_fit}
use Rattle.rules.proofs.Laws.Calls.{build_passed}
use Rattle.rules.proofs.Theorems.Builder.{unrefused, counts, level_is_built, entries_cut}
use Rattle.machine.specs.declared.Sizes.{Sizes}
use Rattle.machine.specs.declared.Run.{Run}
use Rattle.format.specs.Texts.{built_text}
use Rattle.machine.specs.Machine.{answering, Turn, stops, build_call, built_by, builds}
use Rattle.machine.specs.Standing.{Comes}
use Rattle.lines.specs.Lent.{call_of, Made}
use Rattle.format.proofs.Laws.Texts.{refusal_length}

-- a build that returned tables: the entries had room, and k is one that build takes
module _ (c : BuildCall) (a p m : ℕ) (done : (build c).result ≡ Ok (counted a p m)) where
  pub many_built : m ≤ length c.entries / 2
  many_built =
      let r = counts c a p m done in
      leb-true m (length c.entries / 2) (subst (λ (n : ℕ). leb n (length c.entries / 2) ≡ true) r.3 r.0)

  pub levels_built : LevelsFit c.k
  levels_built = levels_fit c.k (build_passed c (unrefused c a p m done)).levels_good

result_by : (c d : BuildCall) (v : Verdict) → index_for c ≡ index_for d → length c.entries ≡ length d.entries → (build_after c v).result ≡ (build_after d v).result
unfolding build_after build_tables build_nothing
result_by c d good e h = rw (e, h)
result_by c d (refuse r) e h = refl

-- the turn that the machine makes of it
builds_tables : (items labels k : ℕ) (edges : List ℕ) (a p m : ℕ) → (build (build_call items labels k edges)).result ≡ Ok (counted a p m)
    → builds items labels k edges
    ≡ record {
      stage = answering items labels (level_of items (build (build_call items labels k edges)).levels k) (take (2 * m) (build (build_call items labels k edges)).entries);
      text = built_text a p m;
    }
unfolding builds built_by
builds_tables items labels k edges a p m e = rw e

builds_refused : (items labels k : ℕ) (edges : List ℕ) (r : Refusal) → (build (build_call items labels k edges)).result ≡ Err r → builds items labels k edges ≡ stops r
unfolding builds built_by
builds_refused items labels k edges r e = rw e

-- a refusal prints fewer bytes than the 81 line
pub stop_few : (r : Refusal) {many : ℕ} {old new : Run} → Comes (stops r) many old new → many ≤ 15
unfolding stops
stop_few r h = omega (arith, h.many, refusal_length r)

-- what prints behind build prints from where build began
pub made_comes : {c : BuildCall} {r : Result Counts Refusal} {t : Turn} {told : ℕ} {old mid new : Run} → Made c r old mid → Comes t told mid new → Comes t told old new
made_comes {t = t} m h =
    record {
      stage = h.stage;
      many = h.many;
      text = h.text ∙ ap (λ (w : List ℕ). sets w 0 t.text) m.out;
      inside = omega (arith, h.inside, ap length m.out);
      lines = h.lines ∙ m.lines;
      line = h.line ∙ m.line;
    }

room_same : (a b : List ℕ) (n : ℕ) → length a ≡ length b → room a n ≡ room b n
unfolding room
room_same a b n e = rw e

module _ (sizes : Sizes) (edges levels entries : List ℕ) where
  abbrev call : BuildCall
  call = call_of sizes edges levels entries

  abbrev own : BuildCall
  own = build_call sizes.items sizes.labels sizes.k edges

  module _ (ll : length levels ≡ 4096) (le : length entries ≡ 4096) where
    same_refusal : build_refusal call ≡ build_refusal own
    unfolding build_refusal build_call call_of
    same_refusal = rw (room_same levels (replicate 4096 0) (sizes.k * (sizes.items * sizes.items)) (ll ∙ sym (length-replicate {A = ℕ} 4096 0)))

    same_index : index_for call ≡ index_for own
    unfolding index_for build_call call_of
    same_index = refl

    same_entries : length call.entries ≡ length own.entries
    unfolding build_call call_of
    same_entries = le ∙ sym (length-replicate {A = ℕ} 4096 0)

    same_result : (build call).result ≡ (build own).result
    unfolding build
    same_result = ap (λ (v : Verdict). (build_after call v).result) same_refusal ∙ result_by call own (build_refusal own) same_index same_entries

    module _ (result : Result Counts Refusal) (old new : Run) (made : Made call result old new) where
      pub refused_turn : (refusal : Refusal) → result ≡ Err refusal → builds sizes.items sizes.labels sizes.k edges ≡ stops refusal
      refused_turn refusal e = builds_refused sizes.items sizes.labels sizes.k edges refusal (sym same_result ∙ (sym made.result ∙ e))

      module _ (a b m : ℕ) (e : result ≡ Ok (counted a b m)) where
        here : (build call).result ≡ Ok (counted a b m)
        here = sym made.result ∙ e

        there : (build own).result ≡ Ok (counted a b m)
        there = sym same_result ∙ here

        level_same : level_of sizes.items (build call).levels sizes.k ≡ level_of sizes.items (build own).levels sizes.k
        unfolding build_call call_of
        level_same = sym (level_is_built call a b m here sizes.k (omega arith)) ∙ level_is_built own a b m there sizes.k (omega arith)

        entries_same : take (2 * m) (build call).entries ≡ take (2 * m) (build own).entries
        unfolding build_call call_of
        entries_same = entries_cut call a b m here ∙ sym (entries_cut own a b m there)

        pub entries_few : 2 * m ≤ 4096
        unfolding call_of
        entries_few = omega (arith, many_built call a b m here, le)

        pub levels_some : LevelsFit sizes.k
        unfolding call_of
        levels_some = levels_built call a b m here

        pub tables_turn : builds sizes.items sizes.labels sizes.k edges
            ≡ record { stage = answering sizes.items sizes.labels (level_of sizes.items new.levels sizes.k) (take (2 * m) new.entries); text = built_text a b m }
        tables_turn = rw (builds_tables sizes.items sizes.labels sizes.k edges a b m there, made.levels_made, level_same, made.entries_made, entries_same) refl
