use Rattle.std.proofs.Common.{◌≤◌, length, arith}
use Rattle.duk_block.specs.Faults.{HasLength, HasVersion}
use Rattle.duk_show.proofs.BlockOrder.{met_header, take_one}
use Rattle.duk_show.proofs.HeaderCharacters.{fields_right, first_wrong}
use Rattle.duk_show.proofs.block.read_header.Goals as goal

pub returns-in-None-clause-met : goal.returns-in-None-clause-met
returns-in-None-clause-met c =
    let text = c.args.text.now in
    let has_length : HasLength text = c.if-not-has_length.ensures in
    let size : 16 ≤ length text = omega (arith, has_length.limits.least) in
    met_header text has_length (take_one text 66 (omega arith) c.if-text-ne66.false) (fields_right text size c.in-None.ensures) c.optional_count.result c.optional_count.ensures

pub returns-in-Some-clause-refused : goal.returns-in-Some-clause-refused
returns-in-Some-clause-refused c =
    let text = c.args.text.now in
    let has_length : HasLength text = c.if-not-has_length.ensures in
    let size : 16 ≤ length text = omega (arith, has_length.limits.least) in
    let has_version : HasVersion text = take_one text 66 (omega arith) c.if-text-ne66.false in
    (first_wrong text c.in-Some.place has_length has_version c.in-Some.ensures, c.in-Some.ensures)
