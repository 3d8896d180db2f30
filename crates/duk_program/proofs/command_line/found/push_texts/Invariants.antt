use Rattle.std.proofs.Common.{◌≡◌, ◌++◌, map, take}
use Rattle.duk_arguments.specs.Request.{pair_of}
use Rattle.duk_program.proofs.command_line.found.push_texts.Given as goal

-- the texts so far are added
abbrev pub invariant-loop-text : goal.invariant-loop-text
invariant-loop-text l = map pair_of l.entries.items ≡ map pair_of l.initial.entries.items
    ++ map (λ text. (l.name, text.now)) (take l.text-index l.texts)
