use Rattle.std.proofs.Common.{◌≡◌, ◌++◌, ◌∷◌, [], map, string_bytes, take}
use Rattle.json.specs.Token.{begin_array, string}
use Rattle.dukpt.proofs.as_json.object.write_array.Given as goal

abbrev pub invariant-loop-text : goal.invariant-loop-text
invariant-loop-text l =
    (l.writer.before ≡ l.fn.writer.before)
    × (l.writer.tokens ≡ l.fn.writer.tokens ++ begin_array ∷ map string (map string_bytes (take l.text-index l.texts)))
