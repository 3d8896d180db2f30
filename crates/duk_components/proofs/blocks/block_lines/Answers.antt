use Rattle.std.proofs.Common.{map}
use Rattle.duk_components.specs.Blocks.{wrapped}
use Rattle.duk_components.proofs.BlockFaults.{refused_under}
use Rattle.duk_components.proofs.blocks.block_lines.Goals as goal

pub returns-in-Err-block_under-clause-refused : goal.returns-in-Err-block_under-clause-refused
returns-in-Err-block_under-clause-refused c =
    let made = c.in-Ok.ensures.made in
    refused_under (map (λ text. text.now) c.args.texts.now) (wrapped c.args.key.now c.args.fields.now c.args.pad.now)
    c.in-Ok.lmk made.0 c.in-Err-block_under.why made.1 made.2 c.in-Err-block_under.ensures.refused
