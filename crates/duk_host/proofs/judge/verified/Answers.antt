use Rattle.std.proofs.Common.{IfOk, subst}
use Rattle.std.proofs.lemmas.Bool.{false≢true}
use Rattle.duk_hsm.specs.Commands.{IsOtherMac}
use Rattle.duk_hsm.specs.TransactionKeys.{AreTransactionKeys}
use Rattle.duk_host.proofs.Opened.{other_mac}
use Rattle.duk_host.proofs.judge.verified.Goals as goal

pub returns-in-Err-verify-clause-refused : goal.returns-in-Err-verify-clause-refused
returns-in-Err-verify-clause-refused c = λ keys is.
    let request = c.args.request.now in
    let are : AreTransactionKeys keys request.ksn c.in-Ok.transaction = subst (λ opened. IfOk opened (AreTransactionKeys keys request.ksn)) c.in-Ok.is is.given in
    subst (λ text. IsOtherMac keys request.ksn text request.mac) c.requires.text
    (other_mac keys request.ksn c.in-Ok.transaction.key c.args.text.now request.mac are.key_is (λ mac. false≢true ((c.in-Err-verify.ensures.verified keys request.ksn are).1 mac)))
