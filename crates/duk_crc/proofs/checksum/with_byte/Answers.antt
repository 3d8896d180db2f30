use Rattle.std.proofs.Common.{◌/◌, bit_xor, ap, ◌∙◌}
use Rattle.duk_crc.proofs.ByteTable.{by_table}
use Rattle.duk_crc.proofs.checksum.with_byte.Goals as goal

pub returns : goal.returns
returns c = ap (bit_xor (bit_xor c.args.remainder c.args.byte / 256)) c.left_by.ensures ∙ by_table c.args.remainder c.args.byte
