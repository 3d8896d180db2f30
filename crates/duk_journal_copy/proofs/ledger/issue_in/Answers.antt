use Rattle.std.proofs.Common.{◌∙◌, ℕ, List, arith, subst, sym}
use Rattle.std.proofs.lemmas.List.{take_all}
use Rattle.std.proofs.lemmas.Option.{none-some}
use Rattle.duk_store.specs.LogFormat.{SaysNumber}
use Rattle.duk_store.specs.Records.{after_gate}
use Rattle.duk_journal_copy.proofs.LedgerRecords.{always_none}
use Rattle.duk_journal_copy.proofs.ledger.issue_in.Goals as goal

pub returns-in_err-_followers-clause-none : goal.returns-in_err-_followers-clause-none
returns-in_err-_followers-clause-none c =
    always_none _ c.from_residual.result (λ number has zero.
    none-some (has.0, number) (sym c.in_err-_followers.was
    ∙ c.read.ensures.every has.0 number
    (subst (λ (l : List ℕ). SaysNumber 0 0 has.0 number l) (sym (take_all 15 (after_gate c.args.record.now) (omega (arith, has.1.whole)))) has.1)))
