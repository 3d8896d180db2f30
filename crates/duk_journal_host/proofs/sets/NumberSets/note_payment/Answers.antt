use Rattle.std.proofs.Common.{◌≡◌, refl}
use Rattle.duk_frame.specs.declared.code.Code.TheVariants.{Approved}
use Rattle.duk_journal_host.proofs.NumbersTaken.{none_more_where, one_more_where}
use Rattle.duk_journal_host.proofs.sets.NumberSets.note_payment.Goals as goal

pub returns-in-Approved-clause-noted : goal.returns-in-Approved-clause-noted
returns-in-Approved-clause-noted c = record {
  used = refl;
  others = none_more_where (¬ (c.args.code ≡ Approved)) c.args.self.now.others c.args.number (λ not. not c.in-Approved.is);
  reversed = refl;
}

pub returns-clause-noted : goal.returns-clause-noted
returns-clause-noted c = record {
  used = refl;
  others = one_more_where (¬ (c.args.code ≡ Approved)) c.args.self.now.others c.insert.new.self c.args.number c.in_default.not-Approved c.in_ok-insert.ensures.added;
  reversed = refl;
}
