use Rattle.std.proofs.Common.{[]}
use Rattle.duk_crc.proofs.checksum.crc32.Goals as goal

pub returns : goal.returns
returns c = c.check_sum.ensures c.args.bytes.now (c.with.ensures [] c.new.ensures)
