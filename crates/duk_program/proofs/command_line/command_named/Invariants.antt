use Rattle.std.proofs.Common.{◌≡◌, None, bytes_eq, find, take}
use Rattle.duk_program.specs.CommandLine.{row_of}
use Rattle.duk_arguments.specs.declared.name.CommandName.{CommandName}
use Rattle.duk_program.proofs.command_line.command_named.Given as goal

-- no command so far is written so
abbrev pub invariant-loop-command : goal.invariant-loop-command
invariant-loop-command l =
    find (λ (command : CommandName). bytes_eq (row_of command).name l.name)
    (take l.command-index l.command-items) ≡ None
