use Rattle.std.proofs.Common.{◌≡◌, [], fold, map, take}
use Rattle.clap.specs.Words.{app_of, with_subcommand}
use Rattle.duk_program.specs.CommandLine.{program_shape, row_of, shape_of_row}
use Rattle.duk_program.proofs.command_line.program.Given as goal

-- the program has the commands so far
abbrev pub invariant-loop-command : goal.invariant-loop-command
invariant-loop-command l = app_of l.program
    ≡ fold with_subcommand (record { top = program_shape; subs = [] })
    (map (λ command. shape_of_row (row_of command)) (take l.command-index l.command-items))
