use Rattle.std.proofs.Common.{◌≡◌, fold, take}
use Rattle.duk_crc.specs.Crc32.{with_byte}
use Rattle.duk_crc.proofs.checksum.with_rest.Given as goal

-- the bytes so far are divided
abbrev pub invariant-loop-byte : goal.invariant-loop-byte
invariant-loop-byte l = l.remainder ≡ fold with_byte l.fn.remainder (take l.byte-index l.bytes)
