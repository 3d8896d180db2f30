use Rattle.std.proofs.Common.{◌≡◌, [], bytes_eq, filter, map, take}
use Rattle.duk_program.specs.CommandLine.{Parameter}
use Rattle.duk_program.specs.inner.CommandLine.{parameter_of}
use Rattle.duk_program.proofs.command_line.help_name.Given as goal

-- none of the arguments so far has this name
abbrev pub invariant-loop-argument : goal.invariant-loop-argument
invariant-loop-argument l =
    filter (λ (p : Parameter). bytes_eq p.name l.name)
    (map parameter_of (take l.argument-index l.argument-items)) ≡ []
