-- What only private functions and proofs say beside `CommandLine.antt`: this project's own.
use Rattle.std.specs.Prelude.{◌≡◌, Bool, false, map, true}
use Rattle.std.specs.Borrow.{Bor}
use Rattle.clap.specs.Words.{Rule, Shape, Text, rule_of, shape_of}
use Rattle.clap.specs.declared.builder.arg.Arg.{Arg}
use Rattle.clap.specs.declared.builder.command.Command.{Command}
use Rattle.clap.specs.declared.builder.command.Command.TheViews.{out-Command as fields_of}
use Rattle.duk_program.specs.CommandLine.{CommandRow, Kind, Parameter, flag, named, needed, optional, plain, several, valued}
use Rattle.duk_program.specs.declared.command_line.arguments.Argument.{Argument}
use Rattle.duk_program.specs.declared.command_line.arguments.Argument.TheVariants as argument
use Rattle.duk_program.specs.declared.command_line.arguments.Form.{Form}
use Rattle.duk_program.specs.declared.command_line.arguments.Form.TheVariants as form
use Rattle.duk_program.specs.declared.command_line.arguments.Usage.{Usage}

abbrev pub is_reference : Form → Bool
is_reference form.Plain = false
is_reference form.Reference = true

abbrev pub parameter_in : Form → Kind → Bor Text → Bor Text → Parameter
parameter_in written kind name shown = record {
  name = name.now;
  kind = kind;
  may_refer = is_reference written;
  shown = shown.now;
}

-- an argument of the code
abbrev pub parameter_of : Argument → Parameter
parameter_of (argument.Needed written name help) = parameter_in written needed name name
parameter_of (argument.Optional written name help) = parameter_in written optional name name
parameter_of (argument.Several written name help) = parameter_in written several name name
parameter_of (argument.Valued written name value help) =
    parameter_in written valued name value
parameter_of (argument.Named written name value help) =
    parameter_in written named name value
parameter_of (argument.Flag name help) = plain flag name.now

-- the command that is used so
abbrev pub row_of_usage : Usage → CommandRow
row_of_usage usage = record {
  name = usage.name.now;
  way = usage.way;
  parameters = map parameter_of usage.arguments.now;
}

-- an argument that has this rule, of its own command alone
abbrev pub IsArgument : Rule → Arg → Type 0
IsArgument rule clap_argument = (rule_of clap_argument ≡ rule) × (clap_argument.global ≡ false)

-- a command of this shape, each of whose arguments is its own alone
abbrev pub IsCommand : Shape → Command → Type 0
IsCommand shape made = (shape_of made ≡ shape) × ((fields_of made).has_globals ≡ false)
