use Rattle.std.proofs.Common.{◌∙◌, inl, subst}
use Rattle.duk_io.specs.Sink.{IsTried}
use Rattle.duk_program.proofs.shown.show.Goals as goal

pub returns-in-NoMemory-clause-not_shown : goal.returns-in-NoMemory-clause-not_shown
returns-in-NoMemory-clause-not_shown g c arguments is one = inl (record {
  no_output = c.writes.ensures.untouched _;
  line = subst (λ text. IsTried (g.F.Sink.known c.args.fault.now) (g.F.Sink.known c.tell.new.fault) text) (c.as_slice.ensures.value ∙ c.line.ensures) c.tell.ensures;
})
