-- What only private functions and proofs say beside `Asked.antt`: this project's own.
use Rattle.std.specs.Prelude.{◌≡◌, ◌≢◌, ⊤, List, Option, false, true}
use Rattle.clap.specs.Words.{Row, Text}
use Rattle.clap.specs.declared.error.kind.ErrorKind.{ErrorKind}
use Rattle.clap.specs.declared.error.kind.ErrorKind.TheVariants.{OutOfMemory}
use Rattle.duk_program.specs.Asked.{AsksAfter, is_shown}
use Rattle.duk_arguments.specs.Request.{Written}
use Rattle.duk_program.specs.declared.command_line.reading.NoRequest.{NoRequest}
use Rattle.duk_program.specs.declared.command_line.reading.NoRequest.TheVariants as answer

-- what an error of this kind is reported as
abbrev pub IsReportedAs : ErrorKind → NoRequest → Type 0
IsReportedAs kind (answer.Help text) = is_shown kind ≡ true
IsReportedAs kind (answer.Refused text) = (is_shown kind ≡ false) × (kind ≢ OutOfMemory)
IsReportedAs kind answer.NoMemory = ⊤

-- why this stands in place of a request, where a command was used without a fault
abbrev pub IsNoRequestAfter : Option (Text × List Row) → NoRequest → Type 0
IsNoRequestAfter used (answer.Help text) = ⊥
IsNoRequestAfter used (answer.Refused text) = (request : Written) → ¬ AsksAfter used request
IsNoRequestAfter used answer.NoMemory = ⊤
