use Rattle.std.proofs.Common.{rules}
use Rattle.duk_regs.specs.Image.{IsImage}
use Rattle.duk_show.proofs.ImageParts.{known}
use Rattle.duk_show.proofs.image.lines_of_bytes.Goals as goal

pub lines_of_image-requires-clause-image : goal.lines_of_image-requires-clause-image
lines_of_image-requires-clause-image c =
    let is : IsImage c.args.bytes.now = search rules in
    known c.images.ensures.length_as_version_1 c.images.ensures.length_as_version_2 c.images.ensures.read c.args.bytes.now is
