use Rattle.std.proofs.Common.{Some, sym, subst, ap, ◌∙◌, arith}
use Rattle.duk_host.specs.Serve.{supply}
use Rattle.duk_program.proofs.InputRead.{ReadLaws, line_ends}
use Rattle.duk_program.specs.InputLine.{HasLineTaken}
use Rattle.duk_program.specs.inner.Secrets.{IsNextByte}
use Rattle.duk_program.proofs.references.read_input_line.Goals as goal

pub returns-then-byte-eq10-clause-read : goal.returns-then-byte-eq10-clause-read
returns-then-byte-eq10-clause-read g c =
    let reads : ReadLaws = record { none = c.reads.ensures.none; next = c.reads.ensures.then; broken = c.reads.ensures.broken_later; no_reads = c.reads.ensures.no_reads; more_reads = c.reads.ensures.more_reads } in
    let known = g.R.Source.known in
    let count = g.R.Source.reads in
    let before = supply (known c.args.input.now) (count c.args.input.now) in
    let after = supply (known c.read_input_byte.new.input) (count c.read_input_byte.new.input) in
    let byte = subst (IsNextByte (known c.loop.input) (known c.read_input_byte.new.input)) (c.in-Some.is ∙ ap (λ b. Some b) c.if-byte-eq10.true) c.in-Ok.ensures.byte in
    subst (HasLineTaken before after) (sym c.strip_return.ensures)
    (line_ends reads before (supply (known c.loop.input) (count c.loop.input)) after c.loop.counter c.loop.line.items c.loop.invariant byte c.read_input_byte.ensures.one_read (omega arith))
