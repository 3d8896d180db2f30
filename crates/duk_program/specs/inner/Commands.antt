-- What only private functions and proofs say beside `Commands.antt`: this project's own.
use Rattle.std.specs.Prelude.{⊤}
use Rattle.duk_arguments.specs.declared.name.CommandName.{CommandName}
use Rattle.duk_program.specs.CommandLine.{row_of}
use Rattle.duk_program.specs.declared.command_line.arguments.Way.{Way}
use Rattle.duk_program.specs.declared.command_line.arguments.Way.TheVariants as way

-- a command over its arguments alone
abbrev pub NeedsArgumentsAlone : Way → Type 0
NeedsArgumentsAlone way.Files = ⊥
NeedsArgumentsAlone way.Told = ⊥
NeedsArgumentsAlone _ = ⊤

abbrev pub IsOverArguments : CommandName → Type 0
IsOverArguments command = NeedsArgumentsAlone (row_of command).way

-- a command over the bytes of a TEXT
abbrev pub NeedsMessage : Way → Type 0
NeedsMessage way.Message = ⊤
NeedsMessage _ = ⊥

abbrev pub IsOverMessage : CommandName → Type 0
IsOverMessage command = NeedsMessage (row_of command).way

-- another one
abbrev pub NeedsNoMessage : Way → Type 0
NeedsNoMessage way.Message = ⊥
NeedsNoMessage _ = ⊤

abbrev pub HasNoMessage : CommandName → Type 0
HasNoMessage command = NeedsNoMessage (row_of command).way

-- a command that makes all its lines before it writes any
abbrev pub MakesAllLines : Way → Type 0
MakesAllLines way.LineByLine = ⊥
MakesAllLines other = NeedsArgumentsAlone other

abbrev pub MakesLines : CommandName → Type 0
MakesLines command = MakesAllLines (row_of command).way

-- a command that tells nothing beside its answer
abbrev pub IsUntoldWay : Way → Type 0
IsUntoldWay way.Told = ⊥
IsUntoldWay _ = Unit {0}

abbrev pub TellsNothing : CommandName → Type 0
TellsNothing command = IsUntoldWay (row_of command).way
