use Rattle.std.proofs.Common.{◌≡◌, false, is_some, map, take}
use Rattle.std.specs.List.{list_any}
use Rattle.duk_program.specs.Secrets.{reference_in}
use Rattle.duk_program.proofs.references.has_reference_among.Given as goal

-- no reference so far
abbrev pub invariant-loop-entry : goal.invariant-loop-entry
invariant-loop-entry l = list_any (λ text. is_some (reference_in text))
    (map (λ entry. entry.text.now) (take l.entry-index l.entries)) ≡ false
