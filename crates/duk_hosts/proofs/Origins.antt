-- Where the entries of a book come from: a till sent them; and what of its answers the book keeps.
use Rattle.std.proofs.Common.{◌≡◌, ◌++◌, ◌∷◌, [], ℕ, List, Contains, inl, inr, refl, sym, ap, subst, ◌∙◌, append_assoc}
use Rattle.std.proofs.lemmas.List.{append-nil}
use Rattle.std.proofs.lemmas.List.Elements.{Contains-append_cases, Contains-append_left}
use Rattle.duk_frame.specs.Answer.{IsAnswer, IsReply}
use Rattle.duk_frame.specs.Payment.{payment_reply, reply_mac}
use Rattle.duk_frame.specs.Request.{IsRequest}
use Rattle.duk_frame.specs.declared.answer.AnswerFrame.{AnswerFrame}
use Rattle.duk_frame.specs.declared.answer.AnswerFrame.TheVariants.{Reply}
use Rattle.duk_frame.specs.declared.code.Code.{Code}
use Rattle.duk_frame.specs.declared.request.Request.{Request}
use Rattle.duk_hsm.specs.Keys.{HsmKeys}
use Rattle.duk_journal.specs.Entry.{reversed_by}
use Rattle.duk_journal.specs.Groups.{Entries}
use Rattle.duk_journal.specs.Standing.{UseNewNumbers, payment_entry, reversed_in, reversed_numbers}
use Rattle.duk_journal.specs.declared.entry.Decided.{Decided}
use Rattle.duk_journal.specs.declared.entry.Decided.TheVariants.{Payment, Reversal}
use Rattle.duk_journal.specs.declared.entry.Entry.{Entry}
use Rattle.duk_journal_host.specs.Candidate.{IsOfCandidate}
use Rattle.duk_journal_host.specs.Judged.{AreRepliesOf, AreReversalRepliesOf, IsReplyOf}
use Rattle.duk_journal_host.specs.Judgement.{reversal_entry}
use Rattle.duk_journal_host.specs.Steps.{added_by}
use Rattle.duk_journal_host.specs.declared.authentic.Purchase.{Purchase}
use Rattle.duk_journal_host.specs.declared.candidate.Candidate.{Candidate}
use Rattle.duk_journal_host.specs.declared.candidate.Candidate.TheVariants as candidate
use Rattle.duk_journal_host.specs.declared.settlement.Settled.{Settled}
use Rattle.duk_journal_host.specs.declared.settlement.Settled.TheVariants as settled
use Rattle.duk_journal_host.specs.declared.settlement.Settlement.TheVariants.{Full, Kept, KnownAgain, Used}
use Rattle.duk_reversal.specs.Numbers.{AreNumbers, Numbers}
use Rattle.duk_reversal.specs.Reversal.{IsReversal}
use Rattle.duk_reversal.specs.declared.reversal.Reversal as reversal_frame
use Rattle.duk_till.specs.Lifetime.{Call}
use Rattle.duk_tree.specs.Serial.{IsSerial, Serial}
use Rattle.duk_hosts.specs.Book.{Book, Bound}
use Rattle.duk_hosts.specs.Events.{Answers, AreSettledIn, Ask, Event, Hosts, IsCandidateOf, IsHistory, IsHistoryFrom, Judges, MayHappen, Outcome, Refuses, Settles, all_answers, all_outcomes, entries_of, kept_after, outcomes_of}
use Rattle.duk_hosts.specs.Tills.{PaysAt, all_sent, all_taken, number_of_candidate}
use Rattle.duk_hosts.proofs.Again.{settled_in}
use Rattle.duk_hosts.proofs.Members.{flat_from, flat_in, front_or, none_in, the_one, the_only}
use Rattle.duk_hosts.proofs.Sent.{IsAsked, IsCalledBack, IsReplied, IsUndoneBy}
use Rattle.duk_hosts.proofs.Standing.{founded_run}
use Rattle.duk_hosts.proofs.Turns.{StepLaws}

-- ---- what was settled was judged

judged_then : (hosts : Hosts) (book : Book) (before : List Event) (event : Event) (outcome : Outcome) → MayHappen hosts book before event → Contains (outcomes_of event) outcome → Contains before (Judges outcome.judged)
judged_then hosts book before (Refuses ask answer) outcome may is_in = absurd (none_in outcome is_in)
judged_then hosts book before (Judges judged) outcome may is_in = absurd (none_in outcome is_in)
judged_then hosts book before (Settles group) outcome may is_in = may.0 outcome is_in
judged_then hosts book before (Answers other answer) outcome may is_in = absurd (none_in outcome is_in)

judged_from : (hosts : Hosts) (book : Book) (before events : List Event) (outcome : Outcome) → IsHistoryFrom hosts book before events → Contains (all_outcomes events) outcome → Contains (before ++ events) (Judges outcome.judged)
judged_from hosts book before [] outcome history is_in = absurd (none_in outcome is_in)
judged_from hosts book before (event ∷ events) outcome history is_in = elim (Contains-append_cases (outcomes_of event) (all_outcomes events) outcome is_in) [
  | inl here ↦ Contains-append_left before (event ∷ events) (Judges outcome.judged) (judged_then hosts book before event outcome history.0 here)
  | inr later ↦ subst (λ (all : List Event). Contains all (Judges outcome.judged)) (append_assoc before (event ∷ []) events) (judged_from hosts book (before ++ event ∷ []) events outcome history.1 later)
]

of_candidate : (bound : Bound) (entries : Entries) (outcomes : List Outcome) (outcome : Outcome) → AreSettledIn bound entries outcomes → Contains outcomes outcome → IsOfCandidate outcome.judged.candidate outcome.settled
of_candidate bound entries [] outcome settles is_in = absurd (none_in outcome is_in)
of_candidate bound entries (first ∷ others) outcome settles is_in = elim (front_or first others outcome is_in) [
  | inl same ↦ subst (λ (it : Outcome). IsOfCandidate it.judged.candidate it.settled) (sym same) settles.0.0
  | inr later ↦ of_candidate bound (entries ++ added_by first.settled) others outcome settles.1 later
]

-- ---- of which frame an entry is

-- what was decided of a number is of this frame
abbrev IsDecidedOf : List ℕ → Serial → Decided → Type 0
IsDecidedOf bytes number (Payment amount code) = (request : Request) × IsRequest bytes request × (request.ksn ≡ number) × (request.amount ≡ amount)
IsDecidedOf bytes number (Reversal counter state) = (reversal : reversal_frame.Reversal) × IsReversal bytes reversal × (reversal.numbers.ksn ≡ number) × (reversal.numbers.reversed ≡ reversed_by number counter)

reversed_is : (numbers : Numbers) → AreNumbers numbers → numbers.reversed ≡ reversed_by numbers.ksn numbers.reversed.counter
reversed_is numbers are = ap (λ iksn. record { iksn = iksn; counter = numbers.reversed.counter }) are.reverses.same_iksn

-- an entry is of the frame that was judged, and has the number of the candidate
abbrev IsOfFrame : List ℕ → Candidate → Entry → Type 0
IsOfFrame bytes it entry = IsDecidedOf bytes entry.number entry.decided × (entry.number ≡ number_of_candidate it)

entry_of : (hosts : Hosts) (ask : Ask) (it : Candidate) (done : Settled) (entry : Entry) → IsCandidateOf hosts ask it → IsOfCandidate it done → Contains (added_by done) entry → IsOfFrame ask.frame it entry
entry_of hosts ask (candidate.Payment purchase code) (settled.Payment same (Kept given)) entry is of is_in =
    let number : same.number ≡ is.0.request.ksn = ap (λ (it : Purchase). it.number) (of ∙ is.0.purchase_is) in
    let amount : same.amount ≡ is.0.request.amount = ap (λ (it : Purchase). it.amount) (of ∙ is.0.purchase_is) in
    subst (IsOfFrame ask.frame (candidate.Payment purchase code)) (sym (the_only (payment_entry same.number same.amount given same.mac) entry is_in))
    ((is.0.request, is.0.is_request, sym number, sym amount), ap (λ (it : Purchase). it.number) of)
entry_of hosts ask (candidate.Payment purchase code) (settled.Payment same (KnownAgain given)) entry is of is_in = absurd (none_in entry is_in)
entry_of hosts ask (candidate.Payment purchase code) (settled.Payment same Used) entry is of is_in = absurd (none_in entry is_in)
entry_of hosts ask (candidate.Payment purchase code) (settled.Payment same Full) entry is of is_in = absurd (none_in entry is_in)
entry_of hosts ask (candidate.Payment purchase code) (settled.Reversal same settlement) entry is of is_in = absurd of
entry_of hosts ask (candidate.Reversal reversal) (settled.Payment same settlement) entry is of is_in = absurd of
entry_of hosts ask (candidate.Reversal reversal) (settled.Reversal same (Kept state)) entry is of is_in =
    let own : IsOfFrame ask.frame (candidate.Reversal reversal) (reversal_entry reversal state) =
    ((reversal, is.is_reversal, refl, reversed_is reversal.numbers is.is_reversal.fields.numbers_are), refl) in
    subst (IsOfFrame ask.frame (candidate.Reversal reversal)) (ap (λ it. reversal_entry it state) (sym of) ∙ sym (the_only (reversal_entry same state) entry is_in)) own
entry_of hosts ask (candidate.Reversal reversal) (settled.Reversal same (KnownAgain state)) entry is of is_in = absurd (none_in entry is_in)
entry_of hosts ask (candidate.Reversal reversal) (settled.Reversal same Used) entry is of is_in = absurd (none_in entry is_in)
entry_of hosts ask (candidate.Reversal reversal) (settled.Reversal same Full) entry is of is_in = absurd (none_in entry is_in)

-- ---- a till sent it

-- what was decided of a number was asked for by one of these frames
abbrev IsAskedFor : List (List ℕ) → Serial → Decided → Type 0
IsAskedFor frames number (Payment amount code) = IsAsked frames number amount
IsAskedFor frames number (Reversal counter state) = IsCalledBack frames (reversed_by number counter)

asked_for : (frames : List (List ℕ)) (frame : List ℕ) (number : Serial) (decided : Decided) → Contains frames frame → IsDecidedOf frame number decided → IsAskedFor frames number decided
asked_for frames frame number (Payment amount code) sent is = record { frame = frame; request = is.0; sent = sent; is_request = is.1; ksn_is = is.2; amount_is = is.3 }
asked_for frames frame number (Reversal counter state) sent is = record { frame = frame; reversal = is.0; sent = sent; is_reversal = is.1; reversed_is = is.3 }

-- what is kept is what the till asked for, and what it took is kept
pub record KeepsOf (calls : List Call) (iksn : ℕ) (entries : Entries) : Type 0 where
  pub numbers : UseNewNumbers entries
  pub payments : (ksn : Serial) (amount : ℕ) (code : Code) (mac : List ℕ) → ksn.iksn ≡ iksn → Contains entries (payment_entry ksn amount code mac) → IsAsked (all_sent calls) ksn amount
  pub reversals : (ksn : Serial) → ksn.iksn ≡ iksn → Contains (reversed_numbers entries) ksn → IsCalledBack (all_sent calls) ksn
  pub replied : (ksn : Serial) (code : Code) → IsReplied (all_taken calls) ksn code → (amount : ℕ) × (mac : List ℕ) × Contains entries (payment_entry ksn amount code mac)
  pub undone : (ksn : Serial) → IsUndoneBy (all_taken calls) ksn → Contains (reversed_numbers entries) ksn

-- what is known of answers
pub record AnswerLaws : Type 0 where
  pub steps : StepLaws
  pub at_most_once : (hosts : Hosts) (book : Book) (events : List Event) → IsHistory hosts book events → UseNewNumbers book.first → UseNewNumbers (kept_after book events)
  pub kept : (hosts : Hosts) (book : Book) (events later : List Event) → IsHistory hosts book (events ++ later)
      → AreRepliesOf hosts.keys (kept_after book (events ++ later)) (all_answers events) × AreReversalRepliesOf hosts.keys (kept_after book (events ++ later)) (all_answers events)
  pub one_answer : (bytes : List ℕ) (one other : AnswerFrame) → IsAnswer bytes one → IsAnswer bytes other → one ≡ other
  pub reply : (key : List ℕ) (ksn : Serial) (code : Code) → IsSerial ksn → IsReply (payment_reply key ksn code) ksn code (reply_mac key ksn code)

same_reply : (ksn : Serial) (code other : Code) (mac also : List ℕ) → Reply ksn code mac ≡ Reply ksn other also → code ≡ other
same_reply ksn code other mac also same = cc

-- the code of a reply is that of the payment that is kept
code_kept : (laws : AnswerLaws) (keys : HsmKeys) (entries : Entries) (bytes : List ℕ) (ksn : Serial) (code : Code) (mac : List ℕ) → IsReply bytes ksn code mac → (is : IsReplyOf keys entries ksn bytes) → is.code ≡ code
code_kept laws keys entries bytes ksn code mac reply is =
    let own = reply_mac is.reply.key ksn is.code in
    let made : IsAnswer bytes (Reply ksn is.code own) = subst (λ bytes. IsAnswer bytes (Reply ksn is.code own)) (sym is.reply.frame_is) (laws.reply is.reply.key ksn is.code reply.fields.0) in
    same_reply ksn is.code code own mac (laws.one_answer bytes (Reply ksn is.code own) (Reply ksn code mac) made reply)

reverses : (entries : Entries) (entry : Entry) (ksn : Serial) → Contains entries entry → Contains (reversed_in entry.number entry.decided) ksn → Contains (reversed_numbers entries) ksn
reverses entries entry ksn is_in has = flat_in (λ (entry : Entry). reversed_in entry.number entry.decided) entries entry ksn is_in has

-- a number that is reversed is so by an entry under the same initial key serial number
reversed_by_own : (number ksn : Serial) (decided : Decided) → Contains (reversed_in number decided) ksn → number.iksn ≡ ksn.iksn
reversed_by_own number ksn (Payment amount code) has = absurd (none_in ksn has)
reversed_by_own number ksn (Reversal counter state) has = sym (ap (λ (it : Serial). it.iksn) (the_only (reversed_by number counter) ksn has))

back_by : (frames : List (List ℕ)) (number ksn : Serial) (decided : Decided) → IsAskedFor frames number decided → Contains (reversed_in number decided) ksn → IsCalledBack frames ksn
back_by frames number ksn (Payment amount code) asked has = absurd (none_in ksn has)
back_by frames number ksn (Reversal counter state) asked has = subst (IsCalledBack frames) (sym (the_only (reversed_by number counter) ksn has)) asked

module _ (laws : AnswerLaws) (hosts : Hosts) (book : Book) (events : List Event) (iksn : ℕ) (calls : List Call) (pays : PaysAt hosts book events iksn calls) where
  abbrev Entries_now : Entries
  Entries_now = kept_after book events

  -- each entry under the initial key serial number was asked for by the till
  sent_for : (entry : Entry) → Contains Entries_now entry → entry.number.iksn ≡ iksn → IsAskedFor (all_sent calls) entry.number entry.decided
  sent_for entry is_in own = elim (Contains-append_cases book.first (entries_of (all_outcomes events)) entry is_in) [
    | inl first ↦ absurd (pays.new_book entry first own)
    | inr since ↦
        let from = flat_from (λ (outcome : Outcome). added_by outcome.settled) (all_outcomes events) entry since in
        let judged = judged_from hosts book [] events from.0 pays.happened from.1 in
        let is = (founded_run laws.steps hosts book events pays.happened).candidates from.0.judged judged in
        let of = of_candidate book.bound book.first (all_outcomes events) from.0 (settled_in hosts book events pays.happened) from.1 in
        let it = entry_of hosts from.0.judged.ask from.0.judged.candidate from.0.settled entry is of from.2 in
        asked_for (all_sent calls) from.0.judged.ask.frame entry.number entry.decided
        (pays.sent from.0.judged judged (sym (ap (λ (number : Serial). number.iksn) it.1) ∙ own)) it.0
  ]

  each_reply : AreRepliesOf hosts.keys Entries_now (all_answers events) × AreReversalRepliesOf hosts.keys Entries_now (all_answers events)
  each_reply = subst (λ (all : List Event). AreRepliesOf hosts.keys (kept_after book all) (all_answers events) × AreReversalRepliesOf hosts.keys (kept_after book all) (all_answers events)) (append-nil events)
      (laws.kept hosts book events [] (subst (λ (all : List Event). IsHistory hosts book all) (sym (append-nil events)) pays.happened))

  pub keeps_of : KeepsOf calls iksn (kept_after book events)
  keeps_of = record {
    numbers = laws.at_most_once hosts book events pays.happened pays.numbers;
    payments = λ ksn amount code mac own kept. sent_for (payment_entry ksn amount code mac) kept own;
    reversals = λ ksn own has.
        let from = flat_from (λ (entry : Entry). reversed_in entry.number entry.decided) Entries_now ksn has in
        back_by (all_sent calls) from.0.number ksn from.0.decided (sent_for from.0 from.1 (reversed_by_own from.0.number ksn from.0.decided from.2 ∙ own)) from.2;
    replied = λ ksn code is.
        let reply = each_reply.0 is.frame ksn (pays.given is.frame is.taken) (code, (is.mac, is.reply)) in
        (reply.amount, reply.mac, subst (λ (it : Code). Contains Entries_now (payment_entry ksn reply.amount it reply.mac)) (code_kept laws hosts.keys Entries_now is.frame ksn code is.mac is.reply reply) reply.kept);
    undone = λ ksn is.
        let numbers = is.reply.numbers in
        let reply = each_reply.1 is.frame numbers is.reply.state (pays.given is.frame is.taken) (is.reply.mac, is.is_reply) in
        subst (λ (number : Serial). Contains (reversed_numbers Entries_now) number) is.reversed_is
        (reverses Entries_now (reversal_entry (record { numbers = numbers; mac = reply.mac }) is.reply.state) numbers.reversed reply.kept
        (subst (λ (number : Serial). Contains (number ∷ []) numbers.reversed) (reversed_is numbers reply.are_numbers) (the_one numbers.reversed)));
  }
