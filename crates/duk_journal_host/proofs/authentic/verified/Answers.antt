use Rattle.std.proofs.Common.{◌∙◌, IfOk, subst}
use Rattle.std.proofs.lemmas.Bool.{false≢true}
use Rattle.duk_hsm.specs.Commands.{IsOtherMac}
use Rattle.duk_hsm.specs.TransactionKeys.{AreTransactionKeys}
use Rattle.duk_journal_host.proofs.NumbersOpened.{other_mac}
use Rattle.duk_journal_host.proofs.authentic.verified.Goals as goal

pub returns-in-Err-verify-clause-refused : goal.returns-in-Err-verify-clause-refused
returns-in-Err-verify-clause-refused c = λ keys is.
    let reversal = c.args.reversal.now in
    let ksn = reversal.numbers.ksn in
    let are : AreTransactionKeys keys ksn c.in-Ok.transaction = subst (λ opened. IfOk opened (AreTransactionKeys keys ksn)) c.in-Ok.is is.given in
    subst (λ text. IsOtherMac keys ksn text reversal.mac) (c.as_slice.ensures.value ∙ c.text-text.ensures.text)
    (other_mac keys ksn c.in-Ok.transaction.key c.as_slice.result.now reversal.mac are.key_is (λ mac. false≢true ((c.in-Err-verify.ensures.verified keys ksn are).1 mac)))
