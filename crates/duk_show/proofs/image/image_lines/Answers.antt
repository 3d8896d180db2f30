use Rattle.std.proofs.Common.{rules}
use Rattle.duk_block.specs.Hexadecimal.{IsHexadecimal}
use Rattle.duk_show.proofs.ImageStops.{no_image, stops_at}
use Rattle.duk_show.proofs.image.image_lines.Goals as goal

pub returns-clause-refused : goal.returns-clause-refused
returns-clause-refused c =
    let bytes = c.as_slice-image.result.now in
    let read : IsHexadecimal c.args.text.now bytes = search rules in (
      stops_at c.args.text.now bytes c.place_of-place.result c.in-Err.why c.in-Err.ensures.not_hex read c.in-Err.ensures.wrong c.place_of-place.ensures,
      no_image c.args.text.now bytes read c.in-Err.ensures.no_image,
    )
