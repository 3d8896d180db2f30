use Rattle.std.proofs.Common.{map, take}
use Rattle.duk_program.specs.CommandLine.{row, shape_of_row}
use Rattle.duk_program.specs.inner.CommandLine.{IsCommand, parameter_of}
use Rattle.duk_program.proofs.command_line.arguments.command_of.Given as goal

-- the command has the arguments so far
abbrev pub invariant-loop-argument : goal.invariant-loop-argument
invariant-loop-argument l = IsCommand (shape_of_row (row l.usage.name.now l.usage.way
    (map parameter_of (take l.argument-index l.usage.arguments.now)))) l.command
