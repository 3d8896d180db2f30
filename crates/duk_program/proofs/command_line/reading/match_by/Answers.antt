use Rattle.std.proofs.Common.{[], IfErr, IfOk, List, Option, ◌≡◌, ◌∙◌, ap, subst, sym}
use Rattle.std.proofs.lemmas.Result.{IfErr-weaker, IfOk-weaker}
use Rattle.clap.specs.Kinds.{HasKind}
use Rattle.clap.specs.Values.{kind_of}
use Rattle.clap.specs.Words.{App, Row, Text, fault_of, is_simple_and_free, subcommand_of, subcommand_rows_of}
use Rattle.duk_program.specs.Asked.{AsksAfter, IsNoRequestOf, texts_of}
use Rattle.duk_program.specs.CommandLine.{command_line}
use Rattle.duk_program.specs.inner.Asked.{IsNoRequestAfter}
use Rattle.duk_program.proofs.Failures.{command_found, is_instead, is_no_request, is_reported_of}
use Rattle.duk_program.proofs.command_line.reading.match_by.Goals as goal

pub returns-in-Ok-clause-asks : goal.returns-in-Ok-clause-asks
returns-in-Ok-clause-asks c =
    let arguments = texts_of c.args.arguments.now in
    let found : subcommand_rows_of c.in-Ok.matches ≡ subcommand_of command_line arguments =
    command_found _ _ c.in-Ok.matches c.requires c.in-Ok.ensures.ok.2 in
    subst (λ (used : Option (Text × List Row)). IfOk c.request_in.result (AsksAfter used)) found c.request_in.ensures.asks

pub returns-in-Ok-clause-taken : goal.returns-in-Ok-clause-taken
returns-in-Ok-clause-taken c =
    let none : fault_of command_line (texts_of c.args.arguments.now) ≡ [] =
    sym (ap (λ (app : App). fault_of app (texts_of c.args.arguments.now)) c.requires)
    ∙ c.in-Ok.ensures.kinds (ap is_simple_and_free c.requires ∙ is_reported_of) in
    IfOk-weaker c.request_in.result (AsksAfter (subcommand_rows_of c.in-Ok.matches)) _ (λ request asked. none)
    c.request_in.ensures.asks

pub returns-in-Ok-clause-instead : goal.returns-in-Ok-clause-instead
returns-in-Ok-clause-instead c =
    let arguments = texts_of c.args.arguments.now in
    let none : fault_of command_line arguments ≡ [] =
    sym (ap (λ (app : App). fault_of app arguments) c.requires)
    ∙ c.in-Ok.ensures.kinds (ap is_simple_and_free c.requires ∙ is_reported_of) in
    let found : subcommand_rows_of c.in-Ok.matches ≡ subcommand_of command_line arguments =
    command_found _ _ c.in-Ok.matches c.requires c.in-Ok.ensures.ok.2 in
    IfErr-weaker c.request_in.result (IsNoRequestAfter (subcommand_of command_line arguments)) (IsNoRequestOf arguments)
    (λ reported. is_instead arguments reported none)
    (subst (λ (used : Option (Text × List Row)). IfErr c.request_in.result (IsNoRequestAfter used)) found
    c.request_in.ensures.instead)

pub returns-in-Err-clause-instead : goal.returns-in-Err-clause-instead
returns-in-Err-clause-instead c =
    let reported : HasKind (fault_of command_line (texts_of c.args.arguments.now)) c.in-Err.error =
    subst (λ (app : App). HasKind (fault_of app (texts_of c.args.arguments.now)) c.in-Err.error) c.requires
    (c.in-Err.ensures.kinds (ap is_simple_and_free c.requires ∙ is_reported_of)) in
    is_no_request (texts_of c.args.arguments.now) (kind_of c.in-Err.error) c.no_request.result
    reported c.no_request.ensures
