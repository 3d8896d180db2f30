use Rattle.std.proofs.Common.{arith}
use Rattle.duk_frame.proofs.Streams.{ends_frame, part_is_short}
use Rattle.duk_frame.proofs.feeder.front_of.Goals as goal

pub returns : goal.returns
returns c =
    let rest = c.args.rest.now in
    let piece = c.args.piece.now in
    let short = part_is_short rest piece c.requires in
    ends_frame rest piece c.in-Some.contents c.in-Some.ensures.said (omega arith) (omega (arith, short, c.in-Some.ensures.said)) (omega arith)
