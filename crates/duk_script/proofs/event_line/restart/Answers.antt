use Rattle.duk_net.specs.declared.event.End.TheVariants.{Host, Term}
use Rattle.duk_script.proofs.event_line.restart.Goals as goal

pub returns-in_err-read_end-clause-host : goal.returns-in_err-read_end-clause-host
returns-in_err-read_end-clause-host c = λ named. cc (c.in_err-read_end.ensures.every Host tt named)

pub returns-in_err-read_end-clause-terminal : goal.returns-in_err-read_end-clause-terminal
returns-in_err-read_end-clause-terminal c = λ t is named. cc (c.in_err-read_end.ensures.every (Term t) is named)

pub returns-in-Term-clause-terminal : goal.returns-in-Term-clause-terminal
returns-in-Term-clause-terminal c = λ t is named. cc (c.in_ok-read_end.ensures.every (Term t) is named, c.in-Term.is)
