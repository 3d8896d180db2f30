use Rattle.std.proofs.Common.{◌++◌, ℕ, List, codes, decimal, drop, length, take, ap, ◌∙◌}
use Rattle.duk_commands.specs.Lines.{text_line}
use Rattle.duk_show.specs.Block.{header_lines}
use Rattle.duk_show.specs.ShownText.{shown_text}
use Rattle.duk_show.proofs.LinesAppended.{appended}
use Rattle.duk_show.proofs.block.push_front.Goals as goal

pub returns-clause-lines : goal.returns-clause-lines
returns-clause-lines c =
    let text : List ℕ = c.args.text.now in
    let start : List ℕ = c.args.lines.now.items in
    let one : List ℕ = c.push_text_line.new.lines.items in
    let two : List ℕ = c.push_number_line.new.lines.items in
    let three : List ℕ = c.push_header.new.lines.items in
    let four : List ℕ = c.push_number_line-2.new.lines.items in
    let five : List ℕ = c.push_shown_line.new.lines.items in
    let version : List ℕ = text_line (codes "version") (codes "B") in
    let size : List ℕ = text_line (codes "length") (decimal (length text)) in
    let header : List ℕ = header_lines c.args.header.now in
    let count : List ℕ = text_line (codes "optional-blocks") (decimal c.args.count) in
    let reserved : List ℕ = text_line (codes "reserved") (shown_text (take 2 (drop 14 text))) in
    let counted = c.push_number_line-2.ensures.line ∙ ap (λ (n : ℕ). three ++ text_line (codes "optional-blocks") (decimal n)) c.from.ensures in
    let to_size = appended start one two version size c.push_text_line.ensures.line c.push_number_line.ensures.line in
    let to_header = appended start two three (version ++ size) header to_size c.push_header.ensures.lines in
    let to_count = appended start three four (version ++ size ++ header) count to_header counted in
    appended start four five (version ++ size ++ header ++ count) reserved to_count c.push_shown_line.ensures.line
