use Rattle.std.proofs.Common.{◌≡◌, ◌∙◌, List, [], None, Option, Some, ap, false, is_some, option_map, sym, true, ℕ}
use Rattle.std.specs.Borrow.{Bor}
use Rattle.std.specs.Prelude.{codes, unwrap_or}
use Rattle.duk_arguments.specs.Request.{flag_in, text_in, value_in}
use Rattle.duk_program.specs.Commands.{request_or_reversal}
use Rattle.duk_program.proofs.CommandLines.{lines, refused}
use Rattle.duk_program.proofs.commands.request.lines.Goals as goal

pub returns-in-Some : goal.returns-in-Some
returns-in-Some c =
    let asked = c.args.request.now in
    let given : value_in (codes "reverse") asked ≡ Some c.in-Some.number.now =
    sym c.value.ensures ∙ ap (option_map (λ (text : Bor (List ℕ)). text.now)) c.in-Some.is in
    let reverses : flag_in (codes "reverse") asked ≡ true = ap is_some given in
    let number : text_in (codes "reverse") asked ≡ c.in-Some.number.now = ap (λ (value : Option (List ℕ)). unwrap_or value []) given in
    record {
      lines = lines _ _ (request_or_reversal asked) c.key_of.result c.key_of.ensures (λ it. it.items) c.reversal_lines.result
          (rw (reverses, number, ← c.text.ensures) c.reversal_lines.ensures.lines);
      refused = refused _ _ (request_or_reversal asked) c.key_of.result c.key_of.ensures c.reversal_lines.result
          (rw (reverses, number, ← c.text.ensures) c.reversal_lines.ensures.refused);
    }

pub returns-in-None : goal.returns-in-None
returns-in-None c =
    let asked = c.args.request.now in
    let given : value_in (codes "reverse") asked ≡ None =
    sym c.value.ensures ∙ ap (option_map (λ (text : Bor (List ℕ)). text.now)) c.in-None.is in
    let pays : flag_in (codes "reverse") asked ≡ false = ap is_some given in
    record {
      lines = lines _ _ (request_or_reversal asked) c.key_of-in-None.result c.key_of-in-None.ensures (λ it. it.items) c.request_lines.result
          (rw (pays, ← c.text-in-None.ensures, ← c.text-in-None-2.ensures, ← c.text-in-None-3.ensures, ← c.text-in-None-4.ensures) c.request_lines.ensures.lines);
      refused = refused _ _ (request_or_reversal asked) c.key_of-in-None.result c.key_of-in-None.ensures c.request_lines.result
          (rw (pays, ← c.text-in-None.ensures, ← c.text-in-None-2.ensures, ← c.text-in-None-3.ensures, ← c.text-in-None-4.ensures) c.request_lines.ensures.refused);
    }
