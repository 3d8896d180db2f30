use Rattle.std.proofs.Common.{◌≡◌, ◌<◌, ◌++◌, ◌∷◌, [], List, ℕ, Some, None, map, get_or, length, ap, sym, ◌∙◌, arith}
use Rattle.std.proofs.lemmas.List.{get_or-map, length-map}
use Rattle.duk_tdes.specs.KeyBytes.{bytes_of}
use Rattle.duk_tdes.specs.KeyText.{tdes_key_of_text}
use Rattle.duk_commands.specs.CheckValues.{component_values, key_values, lines_of, shown_line}
use Rattle.duk_commands.proofs.KeysAreRead.{lines_more, none_written, one_length, other_sum, whole_written, write_more}
use Rattle.duk_commands.proofs.check_values.component_lines.Goals as goal

pub returns-in_err-component : goal.returns-in_err-component
returns-in_err-component c =
    let texts : List (List ℕ) = map (λ text. text.now) c.args.texts.now in
    let i = c.loop-text.text-index in
    let inside : i < length texts = omega (arith, length-map c.args.texts.now (λ text. text.now)) in
    let none : tdes_key_of_text (get_or texts i []) ≡ None =
    ap tdes_key_of_text (get_or-map (λ text. text.now) c.args.texts.now i _ [] (omega arith)) ∙ sym c.parse.ensures ∙ c.in_err-component.was in
    rw c.from_residual.ensures (λ accepted. none_written texts i inside none accepted.0 accepted.1)

pub returns-in_err-add_component : goal.returns-in_err-add_component
returns-in_err-add_component c =
    let texts : List (List ℕ) = map (λ text. text.now) c.args.texts.now in
    let i = c.loop-text.text-index in
    let now = c.loop-text.invariant in
    let component = c.in_ok-component.component in
    let inside : i < length texts = omega (arith, length-map c.args.texts.now (λ text. text.now)) in
    let read : tdes_key_of_text (get_or texts i []) ≡ Some component =
    ap tdes_key_of_text (get_or-map (λ text. text.now) c.args.texts.now i _ [] (omega arith)) ∙ sym c.parse.ensures ∙ c.in_ok-component.was in
    rw c.from_residual-in_err-add_component.ensures (λ accepted.
    other_sum texts now.keys i c.loop-text.sum component inside now.written now.sum read c.in_err-add_component.ensures.none accepted.0 accepted.1 accepted.2)

pub loop-text-preserved : goal.loop-text-preserved
loop-text-preserved c =
    let texts : List (List ℕ) = map (λ text. text.now) c.args.texts.now in
    let i = c.loop-text.text-index in
    let now = c.loop-text.invariant in
    let component = c.in_ok-component.component in
    let inside : i < length texts = omega (arith, length-map c.args.texts.now (λ text. text.now)) in
    let read : tdes_key_of_text (get_or texts i []) ≡ Some component =
    ap tdes_key_of_text (get_or-map (λ text. text.now) c.args.texts.now i _ [] (omega arith)) ∙ sym c.parse.ensures ∙ c.in_ok-component.was in
    record {
      keys = now.keys ++ component ∷ [];
      written = write_more texts now.keys i component inside now.written read;
      sum = c.in_ok-add_component.ensures.added now.keys now.sum;
      lines = lines_more component_values now.keys component c.loop-text.lines.items _ now.lines c.push_component.ensures.lines;
      length = omega (arith, now.length, c.push_component.ensures.len);
    }

pub returns : goal.returns
returns c =
    let texts : List (List ℕ) = map (λ text. text.now) c.args.texts.now in
    let now = c.loop-text.invariant in
    let sum = c.in_ok-sum.sum in
    let is_sum = rw c.in_ok-sum.was at now.sum in
    let shown = shown_line c.args.show (bytes_of sum) in
    let values = key_values (bytes_of sum) in
    record {
      keys = now.keys;
      read = whole_written texts now.keys c.loop-text.text-index (omega (arith, length-map c.args.texts.now (λ text. text.now))) now.written;
      one_length = one_length now.keys sum is_sum;
      text_is = c.push_key.ensures.lines ∙ ap (λ t. t ++ values) (c.push_shown.ensures.line ∙ ap (λ t. t ++ shown) now.lines)
          ∙ ap (λ (k : List ℕ). (lines_of component_values now.keys ++ shown_line c.args.show k) ++ key_values k) is_sum.1;
    }
