use Rattle.std.proofs.Common.{◌≡◌, ◌*◌, fold, take}
use Rattle.duk_crc.specs.Crc32.{with_byte}
use Rattle.duk_crc.proofs.checksum.with_steps.Given as goal

-- the bytes so far are divided
abbrev pub invariant-loop-step : goal.invariant-loop-step
invariant-loop-step l = l.remainder ≡ fold with_byte l.fn.remainder (take (8 * l.step) l.bytes)
