use Rattle.std.proofs.Common.{List, Option, Some, ap, option_map, sym, ◌∙◌, ◌≡◌}
use Rattle.std.specs.Borrow.{Bor}
use Rattle.std.specs.Box.{box_value}
use Rattle.clap.specs.Words.{Row, Text, found_of, rows_of, subcommand_name_of, subcommand_rows_of}
use Rattle.clap.specs.declared.parser.matches.ArgMatches.{ArgMatches}
use Rattle.clap.specs.declared.parser.matches.ArgMatches.TheViews.{out-ArgMatches, out-SubCommand}
use Rattle.duk_program.specs.Asked.{AsksAfter}
use Rattle.duk_arguments.specs.Request.{Written}
use Rattle.duk_program.proofs.Failures.{both_of, unnamed}
use Rattle.duk_program.proofs.Named.{name_found}
use Rattle.duk_program.proofs.command_line.reading.used_command.Goals as goal

used_by : (matches : ArgMatches) (result : Option (Bor Text × Bor ArgMatches)) (name : Bor Text) (found : Bor ArgMatches)
    → result ≡ Some (name, found)
    → option_map (λ (p : Bor Text × Bor ArgMatches). p.0.now) result ≡ subcommand_name_of matches
    → option_map (λ (p : Bor Text × Bor ArgMatches). rows_of (found_of p.1.now)) result
    ≡ option_map (λ (p : Text × List Row). p.1) (subcommand_rows_of matches)
    → subcommand_rows_of matches ≡ Some (name.now, rows_of (found_of found.now))
used_by matches result name found is named rows =
    both_of (λ b. (out-SubCommand (box_value b)).name.now) (λ b. rows_of (found_of (out-SubCommand (box_value b)).matches))
    (out-ArgMatches matches).subcommand name.now (rows_of (found_of found.now))
    (sym named ∙ ap (option_map (λ (p : Bor Text × Bor ArgMatches). p.0.now)) is)
    (sym rows ∙ ap (option_map (λ (p : Bor Text × Bor ArgMatches). rows_of (found_of p.1.now))) is)

pub returns-in_err-command_named-clause-none : goal.returns-in_err-command_named-clause-none
returns-in_err-command_named-clause-none c =
    let used = used_by c.args.matches.now c.subcommand.result c.in_ok-name.name c.in_ok-name.found c.in_ok-name.was
    c.subcommand.ensures.name c.subcommand.ensures.rows in
    let nothing : (request : Written) → ¬ AsksAfter (subcommand_rows_of c.args.matches.now) request =
    unnamed (subcommand_rows_of c.args.matches.now) c.in_ok-name.name.now
    (rows_of (found_of c.in_ok-name.found.now)) used (sym c.command_named.ensures ∙ c.in_err-command_named.was) in
    rw c.from_residual-in_err-command_named.ensures nothing

pub returns-clause-used : goal.returns-clause-used
returns-clause-used c =
    let used = used_by c.args.matches.now c.subcommand.result c.in_ok-name.name c.in_ok-name.found c.in_ok-name.was
    c.subcommand.ensures.name c.subcommand.ensures.rows in
    used ∙ ap (λ (name : Text). Some (name, rows_of (found_of c.in_ok-name.found.now)))
    (sym (name_found c.in_ok-name.name.now c.in_ok-command_named.field-0
    (sym c.command_named.ensures ∙ c.in_ok-command_named.was)))
