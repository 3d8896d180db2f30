use Rattle.duk_host.specs.Serve.{supply}
use Rattle.duk_program.proofs.InputRead.{IsLineUnderWay}
use Rattle.duk_program.proofs.references.read_input_line.Given as goal

-- the bytes so far are read, and none is the end of a line
abbrev pub invariant-loop : goal.invariant-loop
invariant-loop g l = IsLineUnderWay (supply (g.R.Source.known l.fn.input) (g.R.Source.reads l.fn.input))
    (supply (g.R.Source.known l.input) (g.R.Source.reads l.input)) l.counter l.line.items
