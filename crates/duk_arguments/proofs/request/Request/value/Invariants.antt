use Rattle.std.proofs.Common.{◌≡◌, [], bytes_eq, filter, map, take}
use Rattle.duk_arguments.specs.Request.{pair_of}
use Rattle.duk_arguments.proofs.request.Request.value.Given as goal

-- no text so far
abbrev pub invariant-loop-entry : goal.invariant-loop-entry
invariant-loop-entry l = filter (λ entry. bytes_eq entry.0 l.name)
    (map pair_of (take l.entry-index l.entry-items)) ≡ []
