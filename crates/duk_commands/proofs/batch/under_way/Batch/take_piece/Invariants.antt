use Rattle.std.proofs.Common.{◌++◌, ℕ, List, take}
use Rattle.duk_io.specs.Known.{Known}
use Rattle.duk_commands.specs.inner.Batch.{IsUnderWay}
use Rattle.duk_commands.proofs.batch.under_way.Batch.take_piece.Given as goal

-- the batch has taken the bytes so far
abbrev pub invariant-loop-i : goal.invariant-loop-i
invariant-loop-i g l =
    (bytes : List ℕ) (before : Known)
    → IsUnderWay (g.I.Items.command l.fn.items) bytes l.fn.self.line.items l.fn.self.done l.fn.self.answers.items before (g.W.Sink.known l.fn.output)
    → IsUnderWay (g.I.Items.command l.fn.items) (bytes ++ take l.i l.fn.piece) l.self.line.items l.self.done l.self.answers.items before (g.W.Sink.known l.output)
