use Rattle.duk_books.proofs.agreement.Agreement.{reached_agrees, reached_keeps}
use Rattle.duk_books.proofs.agreement.ToldIsSold.{call_told}
use Rattle.duk_books.proofs.agreement.Totals.{reached_totals}
use Rattle.duk_books.proofs.laws.agreement.Goals as goal

pub returns : goal.returns
returns g c = record {
  agree = λ books reached. reached_agrees _ c.known.ensures books reached;
  totals = λ books reached. reached_totals _ c.known.ensures (record { stands = c.totals.ensures.stands; nothing_else = c.totals.ensures.nothing_else }) books reached;
  sent = λ books reached. reached_keeps _ c.known.ensures books reached;
  told = λ old new outcomes reached leads. call_told _ c.known.ensures old new outcomes reached leads;
}
