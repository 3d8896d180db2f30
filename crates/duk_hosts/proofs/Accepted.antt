-- An accepted reply to a number that a host gives is the answer to a payment of that number, which was
-- settled with an outcome.
use Rattle.std.proofs.Common.{◌≡◌, ℕ, List, [], ◌∷◌, ◌++◌, Contains, length, refl, sym, ap, subst, ◌∙◌, arith}
use Rattle.std.proofs.lemmas.List.{append-nil}
use Rattle.duk_frame.specs.declared.code.Code.{Code}
use Rattle.duk_host.specs.Judgement.{Decision, IsReplyWith}
use Rattle.duk_host.specs.Lifetime.{AcceptsNumber}
use Rattle.duk_hsm.specs.Keys.{HsmKeys}
use Rattle.duk_journal.specs.Groups.{Entries}
use Rattle.duk_journal.specs.Standing.{payment_entry}
use Rattle.duk_journal.specs.declared.entry.Decided.TheVariants.{Payment, Reversal}
use Rattle.duk_journal.specs.declared.entry.Entry.{Entry}
use Rattle.duk_reversal.specs.declared.reversal.Reversal as reversal_frame
use Rattle.duk_reversal.specs.declared.state.ReversalState.{ReversalState}
use Rattle.duk_reversal.specs.declared.state.ReversalState.TheVariants.{NoneStands}
use Rattle.duk_tree.specs.Serial.{Serial}
use Rattle.duk_journal_host.specs.Judged.{IsReplyOf}
use Rattle.duk_journal_host.specs.Judgement.{line_basis, reversal_entry}
use Rattle.duk_journal_host.specs.Steps.{IsAnswerOf, IsAsked, IsCodeFor, IsDismissed, IsPurchase, IsReversalAsked, IsSettledBy, added_by}
use Rattle.duk_journal_host.specs.declared.authentic.Purchase.{Purchase}
use Rattle.duk_journal_host.specs.declared.settlement.Settled.{Settled}
use Rattle.duk_journal_host.specs.declared.settlement.Settled.TheVariants as settled
use Rattle.duk_journal_host.specs.declared.settlement.Settlement.TheVariants.{Full, Kept, KnownAgain, Used}
use Rattle.duk_hosts.specs.Told.{AcceptsPayment}
use Rattle.duk_hosts.proofs.Again.{own_used}
use Rattle.duk_hosts.proofs.Members.{none_in, the_one, the_only}
use Rattle.duk_hosts.proofs.Standing.{KeepsReplies}
use Rattle.duk_hosts.proofs.Turns.{StepLaws, alone}

kinds_differ : (amount : ℕ) (code : Code) (counter : ℕ) (state : ReversalState) → Payment amount code ≡ Reversal counter state → ⊥
kinds_differ amount code counter state same = cc

no_longer : (bytes : List ℕ) → bytes ≡ 0 ∷ bytes → ⊥
no_longer bytes same = omega (arith, ap length same)

-- an entry of a reversal with this number
abbrev mark : Serial → List ℕ → Entry
mark number mac = record { number = number; decided = Reversal 0 NoneStands; mac = mac }

-- it is none of a payment
no_payment_in : (number other : Serial) (amount : ℕ) (code : Code) (mac also : List ℕ) → ¬ Contains (mark number mac ∷ []) (payment_entry other amount code also)
no_payment_in number other amount code mac also is_in =
    kinds_differ amount code 0 NoneStands (ap (λ (entry : Entry). entry.decided) (the_only (mark number mac) (payment_entry other amount code also) is_in))

module _ (laws : StepLaws) (replies : KeepsReplies) (keys : HsmKeys) (decides : Decision) (frame answer : List ℕ) (number : Serial) (accepts : AcceptsNumber number answer) where
  -- what is known again, used or full by any list of entries has an accepted reply to one of them alone
  reply_by : (entries : Entries) (done : Settled) → added_by done ≡ [] → IsAsked keys frame done → IsSettledBy entries 0 0 (IsCodeFor keys decides frame) done → IsAnswerOf keys done answer → IsReplyOf keys entries number answer
  reply_by entries done none asked settles answers =
      let basis = line_basis keys entries 0 0 decides in
      let judged = laws.settled keys entries 0 0 decides frame answer done asked settles answers in
      let both = replies basis (frame ∷ []) (answer ∷ []) (added_by done) (alone basis frame answer (added_by done) judged) in
      subst (λ entries. IsReplyOf keys entries number answer) (ap (λ added. entries ++ added) none ∙ append-nil entries) (both.0 answer number (the_one answer) accepts)

  of_payment : (purchase : Purchase) (code : Code) → IsPurchase keys frame purchase → IsReplyWith keys purchase.number code answer → purchase.number ≡ number
  of_payment purchase code asked answers =
      let entry = payment_entry purchase.number purchase.amount code purchase.mac in
      let reply = reply_by (entry ∷ []) (settled.Payment purchase (KnownAgain code)) refl asked (record { amount = purchase.amount; kept = the_one entry; not_undone = none_in purchase.number }) answers in
      sym (ap (λ (entry : Entry). entry.number) (the_only entry (payment_entry number reply.amount reply.code reply.mac) reply.kept))

  of_reversal : (reversal : reversal_frame.Reversal) (state : ReversalState) → IsReversalAsked keys frame reversal → ¬ IsAnswerOf keys (settled.Reversal reversal (KnownAgain state)) answer
  of_reversal reversal state asked answers =
      let entry = reversal_entry reversal state in
      let reply = reply_by (entry ∷ []) (settled.Reversal reversal (KnownAgain state)) refl asked (the_one entry) answers in
      kinds_differ reply.amount reply.code reversal.numbers.reversed.counter state (ap (λ (entry : Entry). entry.decided) (the_only entry (payment_entry number reply.amount reply.code reply.mac) reply.kept))

  pub accepted_payment : (done : Settled) → IsAsked keys frame done → IsAnswerOf keys done answer → AcceptsPayment number done
  accepted_payment (settled.Payment purchase (Kept code)) asked answers = (of_payment purchase code asked answers, tt)
  accepted_payment (settled.Payment purchase (KnownAgain code)) asked answers = (of_payment purchase code asked answers, tt)
  accepted_payment (settled.Payment purchase Used) asked answers =
      let own = mark purchase.number [] in
      let reply = reply_by (own ∷ []) (settled.Payment purchase Used) refl asked
      (λ code knows. no_payment_in purchase.number purchase.number knows.amount code [] purchase.mac knows.kept, own_used (own ∷ []) own (the_one own)) answers in
      absurd (no_payment_in purchase.number number reply.amount reply.code [] reply.mac reply.kept)
  accepted_payment (settled.Payment purchase Full) asked answers =
      let reply = reply_by [] (settled.Payment purchase Full) refl asked
      (λ code knows. none_in (payment_entry purchase.number knows.amount code purchase.mac) knows.kept, none_in purchase.number, refl) answers in
      absurd (none_in (payment_entry number reply.amount reply.code reply.mac) reply.kept)
  accepted_payment (settled.Reversal reversal (Kept state)) asked answers = absurd (of_reversal reversal state asked answers)
  accepted_payment (settled.Reversal reversal (KnownAgain state)) asked answers = absurd (of_reversal reversal state asked answers)
  accepted_payment (settled.Reversal reversal Used) asked answers =
      let own = mark reversal.numbers.ksn (0 ∷ reversal.mac) in
      let reply = reply_by (own ∷ []) (settled.Reversal reversal Used) refl asked
      (λ state knows. no_longer reversal.mac (ap (λ (entry : Entry). entry.mac) (the_only own (reversal_entry reversal state) knows)), own_used (own ∷ []) own (the_one own)) answers in
      absurd (no_payment_in reversal.numbers.ksn number reply.amount reply.code (0 ∷ reversal.mac) reply.mac reply.kept)
  accepted_payment (settled.Reversal reversal Full) asked answers =
      let reply = reply_by [] (settled.Reversal reversal Full) refl asked
      (λ state knows. none_in (reversal_entry reversal state) knows, none_in reversal.numbers.ksn, refl) answers in
      absurd (none_in (payment_entry number reply.amount reply.code reply.mac) reply.kept)

  pub not_dismissed : ¬ IsDismissed keys frame answer
  not_dismissed is =
      let basis = line_basis keys [] 0 0 decides in
      let both = replies basis (frame ∷ []) (answer ∷ []) [] (alone basis frame answer [] (laws.dismissed keys [] 0 0 decides frame answer is)) in
      let reply = both.0 answer number (the_one answer) accepts in
      none_in (payment_entry number reply.amount reply.code reply.mac) reply.kept
