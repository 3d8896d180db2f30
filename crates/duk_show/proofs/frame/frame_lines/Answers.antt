use Rattle.std.proofs.Common.{refl, rules}
use Rattle.duk_block.specs.Hexadecimal.{IsHexadecimal}
use Rattle.duk_show.specs.FrameFault.{frame_place}
use Rattle.duk_show.proofs.FrameStops.{no_frame, stops_at}
use Rattle.duk_show.proofs.frame.frame_lines.Goals as goal

pub returns-clause-refused : goal.returns-clause-refused
returns-clause-refused c =
    let read : IsHexadecimal c.args.text.now c.as_slice.result.now = search rules in
    rw c.refused_by.ensures (
      stops_at c.args.text.now c.as_slice.result.now (frame_place c.in-Err.why) c.in-Err.why c.in-Err.ensures.not_hex read c.in-Err.ensures.wrong refl,
      no_frame c.args.text.now c.as_slice.result.now read c.in-Err.ensures.no_frame,
    )
