use Rattle.duk_journal_host.specs.Host.{host_meaning_of}
use Rattle.duk_journal_host.proofs.ComesUp.{not_damaged, usable_once_checked}
use Rattle.duk_journal_host.proofs.UsableAgain.{usable_again}
use Rattle.duk_journal_host.proofs.laws.comes_up.Goals as goal

pub returns-clause-host : goal.returns-clause-host
returns-clause-host g c old new journal refused = not_damaged g.J.Journal.meaning old.journal new.journal journal refused.cause

pub returns-clause-check : goal.returns-clause-check
returns-clause-check g c old new journal refused = not_damaged g.J.Journal.meaning old new journal refused

pub returns-clause-checked : goal.returns-clause-checked
returns-clause-checked g c old made new found checked honest refused =
    let meaning = g.J.Journal.meaning in
    not_damaged meaning made.journal new.journal (usable_once_checked meaning old made.journal found checked honest) refused.cause

pub returns-clause-served : goal.returns-clause-served
returns-clause-served g c made last answers usable run =
    usable_again (host_meaning_of g.J.Journal.meaning g.I.Issuer.decides) c.new_numbers.ensures made last answers usable run
