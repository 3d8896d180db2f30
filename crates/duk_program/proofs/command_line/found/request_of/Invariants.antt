use Rattle.std.proofs.Common.{◌≡◌, flat_map, map, take}
use Rattle.clap.specs.Words.{found_of, rows_of}
use Rattle.duk_program.specs.Asked.{entries_found}
use Rattle.duk_arguments.specs.Request.{pair_of}
use Rattle.duk_program.specs.inner.CommandLine.{parameter_of}
use Rattle.duk_program.proofs.command_line.found.request_of.Given as goal

-- what was found of the arguments so far is added
abbrev pub invariant-loop-argument : goal.invariant-loop-argument
invariant-loop-argument l = map pair_of l.entries.items
    ≡ flat_map (entries_found (rows_of (found_of l.found)))
    (map parameter_of (take l.argument-index l.argument-items))
