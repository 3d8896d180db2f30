use Rattle.std.proofs.Common.{◌≡◌, ◌∙◌, ◌<◌, ◌+◌, ◌++◌, ◌∷◌, List, ℕ, [], IfErr, IfOk, ap, arith, get_or, length, map, subst, sym, take}
use Rattle.std.proofs.lemmas.List.{get_or-map, get_or-take, length-map, length-take-le, length_push, take-map, take_more}
use Rattle.std.specs.Borrow.{Bor}
use Rattle.duk_group.specs.Numbers.{bytes_at, message_at, number_at}
use Rattle.duk_hsm.specs.Commands.{HasTransactionKey, IsReplyMac, NoTransactionKey}
use Rattle.duk_hsm.specs.Group.{AreOpened}
use Rattle.duk_hsm.specs.TransactionKeys.{AreTransactionKeys}
use Rattle.duk_tree.specs.Serial.{Serial}
use Rattle.duk_journal_host.specs.Candidate.{ArePaired, IsAnswered}
use Rattle.duk_journal_host.specs.Steps.{number_in}
use Rattle.duk_journal_host.specs.inner.Draft.{IsDraftOf, text_in}
use Rattle.duk_journal_host.proofs.Drafts.{answered_by}
use Rattle.duk_journal_host.proofs.Paired.{as_many_paired, item_there, paired_at, paired_more}
use Rattle.duk_journal_host.proofs.answer.answer_together.Goals as goal

pub bounds-deref-place : goal.bounds-deref-place
bounds-deref-place g c =
    omega (arith, ap length c.deref.ensures.0, as_many_paired IsDraftOf c.args.settled.now c.drafts_of-drafts.result.items c.drafts_of-drafts.ensures, c.loop-place-test.true)

pub loop-place-preserved : goal.loop-place-preserved
loop-place-preserved g c =
    let keys = c.args.hsm.now in
    let settled = c.args.settled.now in
    let place = c.loop-place.place in
    let there = item_there settled place c.loop-place-test.true in
    let one = there.0 in
    let drafts = c.drafts_of-drafts.result.items in
    let draft = c.index-deref-place.result in
    let mac = bytes_at c.reply_macs-macs.result place in
    let answers = c.loop-place.answers.items in
    let answer = c.completed.result in
    let numbers = map number_in settled in
    let opened : AreOpened keys numbers c.open_group-opened.result = subst (λ (numbers : List Serial). AreOpened keys numbers c.open_group-opened.result) c.asked_for.ensures c.open_group-opened.ensures.opened in
    let within : place < length numbers = omega (arith, c.loop-place-test.true, length-map settled number_in) in
    let number : number_at numbers place ≡ number_in one = get_or-map number_in settled place one (record { iksn = 0; counter = 0 }) c.loop-place-test.true ∙ ap number_in there.1 in
    let many : length drafts ≡ length settled = as_many_paired IsDraftOf settled drafts c.drafts_of-drafts.ensures in
    let draft_there : get_or drafts place draft ≡ draft = ap (λ drafts. get_or drafts place draft) (sym c.deref.ensures.0) ∙ sym c.index-deref-place.is in
    let is = paired_at IsDraftOf settled drafts place one draft c.drafts_of-drafts.ensures c.loop-place-test.true there.1 draft_there in
    let texts = c.texts_of.result in
    let inside : place < length c.as_slice.result.now = omega (arith, ap length c.as_slice.ensures.value, many, c.loop-place-test.true) in
    let text : message_at texts place ≡ text_in draft =
    c.texts_of.ensures place inside ∙ get_or-map text_in c.as_slice.result.now place draft [] inside ∙ ap text_in (ap (λ drafts. get_or drafts place draft) c.as_slice.ensures.value ∙ draft_there) in
    let first : message_at (take (length settled) texts) place ≡ text_in draft =
    ap (λ (all : List (List ℕ)). get_or all place []) (sym (take-map (λ (message : Bor (List ℕ)). message.now) (length settled) texts))
    ∙ get_or-take (length settled) (map (λ (message : Bor (List ℕ)). message.now) texts) place [] c.loop-place-test.true
    ∙ text in
    let made : HasTransactionKey keys (number_in one) → 0 < length (text_in draft) → IsReplyMac keys (number_in one) (text_in draft) mac = λ has some.
    subst (λ ksn. IsReplyMac keys ksn (text_in draft) mac) number (subst (λ text. IsReplyMac keys (number_at numbers place) text mac) first
    (c.reply_macs-macs.ensures.made keys numbers place opened within (omega (arith, c.loop-place-test.true, c.requires.few, length-take-le (length settled) texts (omega arith)))
    (subst (λ ksn. HasTransactionKey keys ksn) (sym number) has) (subst (λ text. 0 < length text) (sym first) some))) in
    let here = answered_by keys one draft mac c.transaction-transaction.result answer is
    (subst (λ ksn. IfOk c.transaction-transaction.result (AreTransactionKeys keys ksn)) number (c.transaction-transaction.ensures.opened keys numbers within opened))
    (subst (λ ksn. IfErr c.transaction-transaction.result (NoTransactionKey keys ksn)) number (c.transaction-transaction.ensures.refused keys numbers within opened))
    made c.completed.ensures.opened c.completed.ensures.refused in
    let more : take place settled ++ one ∷ [] ≡ take (place + 1) settled = sym (take_more settled place one c.loop-place-test.true ∙ ap (λ one. take place settled ++ one ∷ []) there.1) in
    record {
      counted = omega (arith, ap length c.push.ensures.items, length_push answers answer, c.loop-place.invariant.counted);
      are = subst (λ answers. ArePaired (IsAnswered keys) (take (place + 1) settled) answers) (sym c.push.ensures.items)
          (subst (λ settled. ArePaired (IsAnswered keys) settled (answers ++ answer ∷ [])) more
          (paired_more (IsAnswered keys) (take place settled) answers one answer c.loop-place.invariant.are here));
    }
