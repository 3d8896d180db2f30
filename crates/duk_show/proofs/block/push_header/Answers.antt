use Rattle.std.proofs.Common.{◌∷◌, ◌++◌, [], ℕ, List, codes}
use Rattle.duk_commands.specs.Lines.{text_line}
use Rattle.duk_show.specs.Block.{worded_line}
use Rattle.duk_show.specs.KeyNames.{algorithm_name, exportability_name, mode_name, usage_name}
use Rattle.duk_show.proofs.LinesAppended.{appended, in_words}
use Rattle.duk_show.proofs.block.push_header.Goals as goal

pub returns-clause-lines : goal.returns-clause-lines
returns-clause-lines c =
    let h = c.args.header.now in
    let start : List ℕ = c.args.lines.now.items in
    let one : List ℕ = c.push_worded.new.lines.items in
    let two : List ℕ = c.push_worded-2.new.lines.items in
    let three : List ℕ = c.push_worded-3.new.lines.items in
    let four : List ℕ = c.push_text_line.new.lines.items in
    let five : List ℕ = c.push_worded-4.new.lines.items in
    let usage : List ℕ = worded_line (codes "usage") h.usage (usage_name h.usage) in
    let algorithm : List ℕ = worded_line (codes "algorithm") (h.algorithm ∷ []) (algorithm_name h.algorithm) in
    let mode : List ℕ = worded_line (codes "mode") (h.mode ∷ []) (mode_name h.mode) in
    let version : List ℕ = text_line (codes "key-version") h.version in
    let exportability : List ℕ = worded_line (codes "exportability") (h.exportability ∷ []) (exportability_name h.exportability) in
    let to_usage = in_words start one (codes "usage") h.usage _ _ c.push_worded.ensures.line c.usage_name.ensures.name in
    let to_algorithm = appended start one two usage algorithm to_usage
    (in_words one two (codes "algorithm") (h.algorithm ∷ []) _ _ c.push_worded-2.ensures.line c.algorithm_name.ensures.name) in
    let to_mode = appended start two three (usage ++ algorithm) mode to_algorithm
    (in_words two three (codes "mode") (h.mode ∷ []) _ _ c.push_worded-3.ensures.line c.mode_name.ensures.name) in
    let to_version = appended start three four (usage ++ algorithm ++ mode) version to_mode c.push_text_line.ensures.line in
    appended start four five (usage ++ algorithm ++ mode ++ version) exportability to_version
    (in_words four five (codes "exportability") (h.exportability ∷ []) _ _ c.push_worded-4.ensures.line c.exportability_name-words.ensures.name)
