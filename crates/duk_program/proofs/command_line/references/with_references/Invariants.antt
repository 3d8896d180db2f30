use Rattle.std.proofs.Common.{◌≡◌, ◌+◌, drop, filter, length, map, string_bytes, take}
use Rattle.duk_program.specs.CommandLine.{row_of}
use Rattle.duk_arguments.specs.Request.{pair_of}
use Rattle.duk_program.specs.References.{may_refer, without_text}
use Rattle.duk_program.proofs.command_line.references.with_references.Given as goal

-- there is a text for each reference that is left; the references so far have their texts, and the
-- entries so far are otherwise the same
abbrev pub invariant-loop-entry : goal.invariant-loop-entry
invariant-loop-entry l =
    let row = row_of l.request.command in
    record {
      left : l.next + length (filter (λ entry. may_refer entry.0 row) (map pair_of (drop l.entry-index l.entry-items)))
          ≡ length l.texts;
      texts : map (λ entry. entry.1) (filter (λ entry. may_refer entry.0 row) (map pair_of l.entries.items))
          ≡ map string_bytes (take l.next l.texts);
      rest : map (without_text row) (map pair_of l.entries.items)
          ≡ map (without_text row) (map pair_of (take l.entry-index l.entry-items));
    }
