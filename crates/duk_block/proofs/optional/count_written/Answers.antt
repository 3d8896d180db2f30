use Rattle.std.proofs.Common.{arith, rules}
use Rattle.std.specs.List.{All}
use Rattle.duk_block.specs.HeaderText.{IsPrintable}
use Rattle.duk_block.proofs.WholeBlocks.{written_of}
use Rattle.duk_block.proofs.optional.count_written.Goals as goal

pub returns-then-are_printable : goal.returns-then-are_printable
returns-then-are_printable c =
    let text = c.args.text.now in
    let printable : All IsPrintable text = search rules in
    written_of text c.count_whole.result (omega arith) printable c.count_whole.ensures
