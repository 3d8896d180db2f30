-- A note of so many numbers that were passed over.
use Rattle.std.proofs.Common.{ℕ, zero, suc, ◌<◌, arith}
use Rattle.duk_commands.specs.IssuedLines.{passed_over_line}
use Rattle.duk_io.specs.Known.{Known}
use Rattle.duk_io.specs.Sink.{IsTried}
use Rattle.duk_program.specs.IssueFiles.{IsNoted}

pub noted : (count : ℕ) (old new : Known) → 0 < count → IsTried old new (passed_over_line count)
    → IsNoted count old new
noted zero old new some tried = absurd (omega (arith, some))
noted (suc more) old new some tried = tried
