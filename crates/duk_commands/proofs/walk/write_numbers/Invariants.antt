use Rattle.std.proofs.Common.{◌≡◌, ◌+◌, ◌++◌, ℕ, List}
use Rattle.duk_io.specs.Sink.{IsWritten}
use Rattle.duk_commands.specs.Walk.{IsPrinted}
use Rattle.duk_commands.specs.inner.Walk.{line_of}
use Rattle.duk_commands.proofs.walk.write_numbers.Given as goal

-- what was written and what is held are the lines so far, and the lines go on
abbrev pub invariant-loop-printed : goal.invariant-loop-printed
invariant-loop-printed g l = record {
  same_initial : l.keys.initial ≡ l.fn.keys.initial;
  same_iksn : l.keys.iksn ≡ l.fn.keys.iksn;
  written : List ℕ;
  was_written : IsWritten (g.W.Sink.known l.fn.output) (g.W.Sink.known l.output) written;
  lines : (more : ℕ) (rest : List ℕ) → IsPrinted (line_of l.fn.keys l.alone) l.keys.counter more rest
      → IsPrinted (line_of l.fn.keys l.alone) l.fn.keys.counter (l._printed + more) (written ++ l.lines.items ++ rest);
}
