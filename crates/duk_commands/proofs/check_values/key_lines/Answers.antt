use Rattle.std.proofs.Common.{◌≡◌, ◌<◌, ◌++◌, ◌∷◌, [], List, ℕ, Some, None, map, get_or, length, ap, sym, ◌∙◌, arith}
use Rattle.std.proofs.lemmas.List.{get_or-map, length-map}
use Rattle.duk_tdes.specs.KeyText.{tdes_key_of_text}
use Rattle.duk_commands.specs.CheckValues.{key_values}
use Rattle.duk_commands.proofs.KeysAreRead.{lines_more, none_written, whole_written, write_more}
use Rattle.duk_commands.proofs.check_values.key_lines.Goals as goal

pub returns-in_err-key : goal.returns-in_err-key
returns-in_err-key c =
    let texts : List (List ℕ) = map (λ text. text.now) c.args.texts.now in
    let i = c.loop-text.text-index in
    let inside : i < length texts = omega (arith, length-map c.args.texts.now (λ text. text.now)) in
    let none : tdes_key_of_text (get_or texts i []) ≡ None =
    ap tdes_key_of_text (get_or-map (λ text. text.now) c.args.texts.now i _ [] (omega arith)) ∙ sym c.parse.ensures ∙ c.in_err-key.was in
    rw c.from_residual.ensures (λ accepted. none_written texts i inside none accepted.0 accepted.1)

pub loop-text-preserved : goal.loop-text-preserved
loop-text-preserved c =
    let texts : List (List ℕ) = map (λ text. text.now) c.args.texts.now in
    let i = c.loop-text.text-index in
    let now = c.loop-text.invariant in
    let key = c.in_ok-key.key in
    let inside : i < length texts = omega (arith, length-map c.args.texts.now (λ text. text.now)) in
    let read : tdes_key_of_text (get_or texts i []) ≡ Some key =
    ap tdes_key_of_text (get_or-map (λ text. text.now) c.args.texts.now i _ [] (omega arith)) ∙ sym c.parse.ensures ∙ c.in_ok-key.was in
    record {
      keys = now.keys ++ key ∷ [];
      written = write_more texts now.keys i key inside now.written read;
      lines = lines_more key_values now.keys key c.loop-text.lines.items _ now.lines c.push_key.ensures.lines;
      length = omega (arith, now.length, c.push_key.ensures.len);
    }

pub returns : goal.returns
returns c =
    let texts : List (List ℕ) = map (λ text. text.now) c.args.texts.now in
    let now = c.loop-text.invariant in
    record {
      keys = now.keys;
      read = whole_written texts now.keys c.loop-text.text-index (omega (arith, length-map c.args.texts.now (λ text. text.now))) now.written;
      text_is = now.lines;
    }
