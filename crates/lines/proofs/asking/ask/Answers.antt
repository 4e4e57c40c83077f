-- `lines::asking::ask` meets its contract.
use Prim.Native.Nat.{ℕ, ◌≤◌}
use mathlib.Core.Path.{◌≡◌, sym, ap, ◌∙◌}
use mathlib.Core.List.{List}
use native.Mathlib.Omega.{arith}
use lib.ListN.{length, take, replicate}
use lib.Seq.{sets, length-take-le}
use Rattle.rules.specs.Writing.{fill}
use Rattle.format.specs.Frames.{token_count, token_at, tokens_of}
use Rattle.format.proofs.Laws.Frames.{count_small}
use Rattle.format.proofs.Laws.Texts.{refusal_length, list_length}
use Rattle.lines.proofs.Laws.Asking.{tokens_of_lem, text_answers, text_refused, many_fits}
use Rattle.lines.proofs.asking.ask.Goals as goal

pub put_tokens-requires : goal.put_tokens-requires
put_tokens-requires c = (c.requires.0, count_small c.args.line.now c.requires.0)

pub slice_bounds-tokens-end : goal.slice_bounds-tokens-end
slice_bounds-tokens-end c = omega (arith, c.token_count-many.ensures, count_small c.args.line.now c.requires.0, c.put_tokens.auto.tokens)

pub slice_bounds-ask_tokens-end : goal.slice_bounds-ask_tokens-end
slice_bounds-ask_tokens-end c = sym (length-take-le c.token_count-many.result c.put_tokens.new.tokens (omega (arith, c.token_count-many.ensures, count_small c.args.line.now c.requires.0, c.put_tokens.auto.tokens)))

pub put_list-requires : goal.put_list-requires
put_list-requires c =
    let few : c.in-Ok.many ≤ 1024 = many_fits _ _ _ _ _ _ _ _ c.ask_tokens.ensures c.in-Ok.is in
    (omega (arith, few, c.requires.1.room), omega (arith, few, c.ask_tokens.array_long))

-- the tokens of the line
cut : (line tokens : List ℕ) (many : ℕ) → length line ≤ 512 → many ≡ token_count line → tokens ≡ fill (replicate 255 0) 0 (token_count line) (token_at line)
    → take many tokens ≡ tokens_of line
cut line tokens many h e f = rw (e, f) (tokens_of_lem line h)

pub returns-in-Ok : goal.returns-in-Ok
returns-in-Ok c =
    let a = c.args in
    let m = c.in-Ok.many in
    let after = c.ask_tokens.new.answers in
    let few : m ≤ 1024 = many_fits _ _ _ _ _ _ _ _ c.ask_tokens.ensures c.in-Ok.is in
    let text = text_answers _ _ after (rw (cut a.line.now _ _ c.requires.0 c.token_count-many.ensures c.put_tokens.ensures) at c.ask_tokens.ensures) m c.in-Ok.is in
    record {
      size = sym (list_length a.out.now after a.at m (omega (arith, few, c.ask_tokens.array_long))) ∙ ap length text;
      bytes = c.put_list.ensures ∙ ap (sets a.out.now a.at) text;
      inside = omega (arith, few, c.requires.1.room);
    }

pub returns-in-Err : goal.returns-in-Err
returns-in-Err c =
    let a = c.args in
    let text = text_refused _ _ c.ask_tokens.new.answers (rw (cut a.line.now _ _ c.requires.0 c.token_count-many.ensures c.put_tokens.ensures) at c.ask_tokens.ensures) c.in-Err.refusal c.in-Err.is in
    record { size = sym (refusal_length c.in-Err.refusal) ∙ ap length text; bytes = c.put_refusal.ensures ∙ ap (sets a.out.now a.at) text; inside = omega (arith, c.requires.1.room) }
