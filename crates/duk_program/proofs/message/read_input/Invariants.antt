use Rattle.duk_program.proofs.Messages.{IsReadSoFar}
use Rattle.duk_program.proofs.message.read_input.Given as goal

-- the bytes so far are read
abbrev pub invariant-loop : goal.invariant-loop
invariant-loop g l = IsReadSoFar (g.R.Source.known l.fn.input) (g.R.Source.known l.input) l.counter l.bytes.items
