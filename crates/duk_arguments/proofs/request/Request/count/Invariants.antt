use Rattle.std.proofs.Common.{◌≡◌, ◌≤◌, bytes_eq, filter, length, map, take}
use Rattle.duk_arguments.specs.Request.{pair_of}
use Rattle.duk_arguments.proofs.request.Request.count.Given as goal

-- as many so far, and no more than entries
abbrev pub invariant-loop-entry : goal.invariant-loop-entry
invariant-loop-entry l = record {
  counted : l.count ≡ length (map (λ entry. entry.1) (filter (λ entry. bytes_eq entry.0 l.name)
      (map pair_of (take l.entry-index l.entry-items))));
  fits : l.count ≤ l.entry-index;
}
