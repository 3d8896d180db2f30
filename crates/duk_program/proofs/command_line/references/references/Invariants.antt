use Rattle.std.proofs.Common.{◌≡◌, filter, map, take}
use Rattle.duk_program.specs.CommandLine.{row_of}
use Rattle.duk_arguments.specs.Request.{pair_of}
use Rattle.duk_program.specs.References.{may_refer}
use Rattle.duk_program.proofs.command_line.references.references.Given as goal

-- the references so far
abbrev pub invariant-loop-entry : goal.invariant-loop-entry
invariant-loop-entry l = map pair_of l.references.items
    ≡ filter (λ entry. may_refer entry.0 (row_of l.request.command))
    (map pair_of (take l.entry-index l.entry-items))
