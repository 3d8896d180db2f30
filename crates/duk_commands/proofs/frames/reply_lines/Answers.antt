use Rattle.std.proofs.Common.{ap, ◌∙◌, rules, sym}
use Rattle.std.specs.Prelude.{IsSome}
use Rattle.duk_commands.specs.KeyArgument.{initial_from, key_in}
use Rattle.duk_commands.specs.declared.start.Start.{Start}
use Rattle.duk_commands.proofs.ReplyOrder.{HasRead, OneReading, answered, refused, request_refused}
use Rattle.duk_commands.proofs.frames.reply_lines.Goals as goal

pub returns-in_err-asked-clause-refused : goal.returns-in_err-asked-clause-refused
returns-in_err-asked-clause-refused c =
    let key : IsSome (key_in c.args.given) = search rules in
    let refused = request_refused c.args.given c.args.request.now c.args.answer.now c.asked_in.result key c.asked_in.ensures.refused in
    search (rules, refused)

pub returns-clause-reply : goal.returns-clause-reply
returns-clause-reply c =
    let start : Start = record { initial = c.initial_key-initial.result; ksn = c.ksn-ksn.result } in
    let has : HasRead c.args.given c.args.request.now c.args.answer.now start c.in_ok-asked.asked c.as_slice.result.now = record {
      base = c.in_ok-key.key;
      key_read = search rules;
      initial_is = c.initial_key-initial.ensures ∙ ap (λ i. initial_from c.args.given c.in_ok-key.key i) c.iksn.ensures.value;
      asked_read = c.in_ok-asked.ensures.read;
      ksn_is = sym c.ksn-ksn.ensures;
      bytes_read = search rules;
    } in
    answered c.args.given c.args.request.now c.args.answer.now start c.in_ok-asked.asked c.as_slice.result.now c.line_of_told.result has c.line_of_told.ensures.reply

pub returns-clause-refused : goal.returns-clause-refused
returns-clause-refused c =
    let start : Start = record { initial = c.initial_key-initial.result; ksn = c.ksn-ksn.result } in
    let readings : OneReading = record { asked = c.one_reading.ensures.asked; told = c.one_reading.ensures.told } in
    let has : HasRead c.args.given c.args.request.now c.args.answer.now start c.in_ok-asked.asked c.as_slice.result.now = record {
      base = c.in_ok-key.key;
      key_read = search rules;
      initial_is = c.initial_key-initial.ensures ∙ ap (λ i. initial_from c.args.given c.in_ok-key.key i) c.iksn.ensures.value;
      asked_read = c.in_ok-asked.ensures.read;
      ksn_is = sym c.ksn-ksn.ensures;
      bytes_read = search rules;
    } in
    refused c.args.given c.args.request.now c.args.answer.now start c.in_ok-asked.asked c.as_slice.result.now c.line_of_told.result readings has c.line_of_told.ensures.refused
