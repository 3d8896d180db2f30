use Rattle.std.proofs.Common.{◌∙◌, sym}
use Rattle.clap.specs.Words.{found_of, rows_of, subcommand_rows_of}
use Rattle.duk_program.proofs.Failures.{is_conflict, not_fitting}
use Rattle.duk_program.proofs.command_line.reading.request_in.Goals as goal

pub returns-clause-instead : goal.returns-clause-instead
returns-clause-instead c =
    is_conflict (subcommand_rows_of c.args.matches.now) c.conflict_answer-else-fits.result
    c.conflict_answer-else-fits.ensures
    (not_fitting (subcommand_rows_of c.args.matches.now) c.in-Some.command (rows_of (found_of c.in-Some.found.now))
    c.in-Ok.request (c.in-Some.ensures.used) c.in-Ok.ensures (sym c.fits.ensures ∙ c.if-fits.false))
