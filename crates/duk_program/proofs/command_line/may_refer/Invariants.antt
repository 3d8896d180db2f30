use Rattle.std.proofs.Common.{◌≡◌, ◌&&◌, bytes_eq, false, map, take}
use Rattle.std.specs.List.{list_any}
use Rattle.duk_program.specs.CommandLine.{Parameter}
use Rattle.duk_program.specs.inner.CommandLine.{parameter_of}
use Rattle.duk_program.proofs.command_line.may_refer.Given as goal

-- none of the arguments so far has this name and may be a reference
abbrev pub invariant-loop-argument : goal.invariant-loop-argument
invariant-loop-argument l =
    list_any (λ (p : Parameter). p.may_refer && bytes_eq p.name l.name)
    (map parameter_of (take l.argument-index l.argument-items)) ≡ false
