-- The replies among the answers to frames in turn: each is to an entry of its number, and all to one
-- number are equal.
use Rattle.std.proofs.Common.{◌≡◌, ◌≤◌, ◌-◌, ◌⊎◌, ℕ, List, [], ◌∷◌, ◌++◌, Contains, Option, Some, length, drop, take, inl, inr, refl, sym, ap, subst, ◌∙◌, append_assoc, arith}
use Rattle.std.proofs.lemmas.List.{take-append-drop}
use Rattle.std.proofs.lemmas.List.Elements.{Contains-append_left, Contains-append_right}
use Rattle.duk_frame.specs.Answer.{IsAnswer, IsRefusal, IsReply}
use Rattle.duk_frame.specs.Payment.{payment_reply, reply_mac}
use Rattle.duk_frame.specs.declared.answer.AnswerFrame.{AnswerFrame}
use Rattle.duk_frame.specs.declared.answer.AnswerFrame.TheVariants.{Refusal, Reply}
use Rattle.duk_frame.specs.declared.code.Code.{Code}
use Rattle.duk_host.specs.Judgement.{IsMalformed, IsRefusalFor, IsRefusedRequest, IsReplyWith, JudgementBasis, reason_number}
use Rattle.duk_host.specs.Lifetime.{AcceptsNumber}
use Rattle.duk_host.specs.declared.reason.Reason.{Reason}
use Rattle.duk_host.specs.declared.reason.Reason.TheVariants as reason
use Rattle.duk_hsm.specs.Commands.{IsTransactionKey}
use Rattle.duk_hsm.specs.Keys.{HsmKeys, key_set_of}
use Rattle.duk_journal.specs.Entry.{reversed_by}
use Rattle.duk_journal.specs.Groups.{Entries}
use Rattle.duk_journal.specs.Standing.{UseNewNumbers, payment_entry}
use Rattle.duk_journal.specs.declared.entry.Decided.TheVariants.{Payment, Reversal}
use Rattle.duk_journal.specs.declared.entry.Entry.{Entry}
use Rattle.duk_reversal.specs.Authentic.{reversal_reply_of, reversal_reply_under}
use Rattle.duk_reversal.specs.Numbers.{AreNumbers, Numbers}
use Rattle.duk_reversal.specs.Reply.{IsReversalReply}
use Rattle.duk_reversal.specs.declared.reply.ReversalReply.{ReversalReply}
use Rattle.duk_reversal.specs.declared.state.ReversalState.{ReversalState}
use Rattle.duk_tree.specs.Derivation.{derived_key_of, response_key_of}
use Rattle.duk_tree.specs.Serial.{IsSerial, Serial, prefix_of}
use Rattle.duk_journal_host.specs.Judged.{AreJudged, AreRepliesOf, AreReversalRepliesOf, IsReplyOf, IsReversalReplyOf, TellsReversal}
use Rattle.duk_journal_host.specs.Judgement.{IsJudged, IsReversalReplyWith, LineBasis, entry_of, reversal_entry, with_entries, without_repeats}
use Rattle.duk_journal_host.specs.Latest.{latest_entries, most_latest}
use Rattle.duk_journal_host.proofs.Members.{front_or, none_in, the_one}
use Rattle.duk_journal_host.proofs.NewNumbers.{one_entry, reversed_is}

-- ---- one reply to one entry

one_value : {A : Type 0} (found : Option A) (one other : A) → found ≡ Some one → found ≡ Some other → one ≡ other
one_value found one other is same = cc

pub one_key : (keys : HsmKeys) (ksn : Serial) (key other : List ℕ) → IsTransactionKey keys ksn key → IsTransactionKey keys ksn other → key ≡ other
one_key keys ksn key other one two =
    one.key_is ∙ ap (λ bdk. derived_key_of bdk ksn) (one_value (key_set_of keys (prefix_of ksn)) one.bdk two.bdk one.held two.held) ∙ sym two.key_is

pub same_reply : (keys : HsmKeys) (ksn : Serial) (code : Code) (one other : List ℕ) → IsReplyWith keys ksn code one → IsReplyWith keys ksn code other → one ≡ other
same_reply keys ksn code one other is also =
    is.frame_is ∙ ap (λ key. payment_reply key ksn code) (one_key keys ksn is.key also.key is.key_is also.key_is) ∙ sym also.frame_is

pub same_reversal_reply : (keys : HsmKeys) (numbers : Numbers) (state : ReversalState) (one other : List ℕ)
    → IsReversalReplyWith keys numbers state one → IsReversalReplyWith keys numbers state other → one ≡ other
same_reversal_reply keys numbers state one other is also =
    is.frame_is ∙ ap (λ key. reversal_reply_under (response_key_of key) numbers state) (one_key keys numbers.ksn is.key also.key is.key_is also.key_is) ∙ sym also.frame_is

pub same_code : (ksn number : Serial) (amount more : ℕ) (code other : Code) (mac also : List ℕ) → payment_entry ksn amount code mac ≡ payment_entry number more other also → code ≡ other
same_code ksn number amount more code other mac also same =
    let decided : Payment amount code ≡ Payment more other = ap (λ (entry : Entry). entry.decided) same in cc

no_reversal : (amount : ℕ) (code : Code) (counter : ℕ) (state : ReversalState) → Payment amount code ≡ Reversal counter state → ⊥
no_reversal amount code counter state same = cc

-- a reversal's entry is none of a payment
pub no_payment : (number : Serial) (amount : ℕ) (code : Code) (mac also : List ℕ) (numbers : Numbers) (state : ReversalState)
    → payment_entry number amount code mac ≡ reversal_entry (record { numbers = numbers; mac = also }) state → ⊥
no_payment number amount code mac also numbers state same = no_reversal amount code numbers.reversed.counter state (ap (λ (entry : Entry). entry.decided) same)

same_counter : (one other : Numbers) (mac also : List ℕ) (state told : ReversalState)
    → reversal_entry (record { numbers = one; mac = mac }) state ≡ reversal_entry (record { numbers = other; mac = also }) told → one.reversed.counter ≡ other.reversed.counter
same_counter one other mac also state told same =
    let decided : Reversal one.reversed.counter state ≡ Reversal other.reversed.counter told = ap (λ (entry : Entry). entry.decided) same in cc

pub same_state : (one other : Numbers) (mac also : List ℕ) (state told : ReversalState)
    → reversal_entry (record { numbers = one; mac = mac }) state ≡ reversal_entry (record { numbers = other; mac = also }) told → state ≡ told
same_state one other mac also state told same =
    let decided : Reversal one.reversed.counter state ≡ Reversal other.reversed.counter told = ap (λ (entry : Entry). entry.decided) same in cc

-- the numbers of a reversal are those of its entry
pub same_numbers : (one other : Numbers) (mac also : List ℕ) (state told : ReversalState) → AreNumbers one → AreNumbers other
    → reversal_entry (record { numbers = one; mac = mac }) state ≡ reversal_entry (record { numbers = other; mac = also }) told → one ≡ other
same_numbers one other mac also state told are too same =
    let ksn : one.ksn ≡ other.ksn = ap (λ (entry : Entry). entry.number) same in
    let counter = same_counter one other mac also state told same in
    let reversed : one.reversed ≡ other.reversed =
    reversed_is one are ∙ ap (λ ksn. reversed_by ksn one.reversed.counter) ksn ∙ ap (λ counter. reversed_by other.ksn counter) counter ∙ sym (reversed_is other too) in
    ap (λ ksn. record { ksn = ksn; reversed = one.reversed }) ksn ∙ ap (λ reversed. record { ksn = other.ksn; reversed = reversed }) reversed

-- the replies to the payment of one number are equal
pub equal_replies : (keys : HsmKeys) (entries : Entries) (ksn : Serial) (one other : List ℕ) → UseNewNumbers entries
    → IsReplyOf keys entries ksn one → IsReplyOf keys entries ksn other → one ≡ other
equal_replies keys entries ksn one other are is also =
    let first = payment_entry ksn is.amount is.code is.mac in
    let second = payment_entry ksn also.amount also.code also.mac in
    let code = same_code ksn ksn is.amount also.amount is.code also.code is.mac also.mac (one_entry entries first second are.new is.kept also.kept refl) in
    same_reply keys ksn also.code one other (subst (λ code. IsReplyWith keys ksn code one) code is.reply) also.reply

-- those to the reversal under one number are equal
pub equal_reversal_replies : (keys : HsmKeys) (entries : Entries) (numbers others : Numbers) (state told : ReversalState) (one other : List ℕ) → UseNewNumbers entries → numbers.ksn ≡ others.ksn
    → IsReversalReplyOf keys entries numbers state one → IsReversalReplyOf keys entries others told other → one ≡ other
equal_reversal_replies keys entries numbers others state told one other are ksn is also =
    let first = reversal_entry (record { numbers = numbers; mac = is.mac }) state in
    let second = reversal_entry (record { numbers = others; mac = also.mac }) told in
    let same : first ≡ second = one_entry entries first second are.new is.kept also.kept ksn in
    let all = same_numbers numbers others is.mac also.mac state told is.are_numbers also.are_numbers same in
    let states = same_state numbers others is.mac also.mac state told same in
    same_reversal_reply keys others told one other
    (subst (λ numbers. IsReversalReplyWith keys numbers told one) all (subst (λ state. IsReversalReplyWith keys numbers state one) states is.reply)) also.reply

-- no number has replies of both kinds
pub of_one_kind : (keys : HsmKeys) (entries : Entries) (numbers : Numbers) (state : ReversalState) (one other : List ℕ) → UseNewNumbers entries
    → IsReplyOf keys entries numbers.ksn one → ¬ IsReversalReplyOf keys entries numbers state other
of_one_kind keys entries numbers state one other are is also =
    let payment = payment_entry numbers.ksn is.amount is.code is.mac in
    let reversal = reversal_entry (record { numbers = numbers; mac = also.mac }) state in
    no_payment numbers.ksn is.amount is.code is.mac also.mac numbers state (one_entry entries payment reversal are.new is.kept also.kept refl)

-- ---- what an answer is

pub latest_kept : (entries : Entries) (entry : Entry) → Contains (latest_entries entries) entry → Contains entries entry
latest_kept entries entry kept =
    let count = length entries - most_latest in
    subst (λ entries. Contains entries entry) (take-append-drop count entries) (Contains-append_right (take count entries) (drop count entries) entry kept)

-- a reply to an entry of a list is one of a longer list
pub reply_of_more : (keys : HsmKeys) (entries added : Entries) (ksn : Serial) (frame : List ℕ) → IsReplyOf keys entries ksn frame → IsReplyOf keys (entries ++ added) ksn frame
reply_of_more keys entries added ksn frame is =
    record { amount = is.amount; code = is.code; mac = is.mac; kept = Contains-append_left entries added (payment_entry ksn is.amount is.code is.mac) is.kept; reply = is.reply }

pub reversal_reply_of_more : (keys : HsmKeys) (entries added : Entries) (numbers : Numbers) (state : ReversalState) (frame : List ℕ)
    → IsReversalReplyOf keys entries numbers state frame → IsReversalReplyOf keys (entries ++ added) numbers state frame
reversal_reply_of_more keys entries added numbers state frame is = record {
  mac = is.mac;
  are_numbers = is.are_numbers;
  kept = Contains-append_left entries added (reversal_entry (record { numbers = numbers; mac = is.mac }) state) is.kept;
  reply = is.reply;
}

-- an answer is a refusal, the reply to a payment of the list, or the reply to a reversal of it
abbrev pub IsSomeRefusal : List ℕ → Type 0
IsSomeRefusal frame = (ksn : Serial) × (number : ℕ) × IsRefusal frame ksn number

abbrev pub IsSomeReply : HsmKeys → Entries → List ℕ → Type 0
IsSomeReply keys entries frame = (ksn : Serial) × IsSerial ksn × IsReplyOf keys entries ksn frame

abbrev pub IsSomeReversalReply : HsmKeys → Entries → List ℕ → Type 0
IsSomeReversalReply keys entries frame = (numbers : Numbers) × (state : ReversalState) × IsReversalReplyOf keys entries numbers state frame

abbrev pub IsOneOf : HsmKeys → Entries → List ℕ → Type 0
IsOneOf keys entries frame = IsSomeRefusal frame ⊎ (IsSomeReply keys entries frame ⊎ IsSomeReversalReply keys entries frame)

-- how frames are read
pub record AnswerLaws : Type 0 where
  pub one_answer : (bytes : List ℕ) (answer other : AnswerFrame) → IsAnswer bytes answer → IsAnswer bytes other → answer ≡ other
  pub one_reply : (bytes : List ℕ) (reply other : ReversalReply) → IsReversalReply bytes reply → IsReversalReply bytes other → reply ≡ other
  pub apart : (bytes : List ℕ) (answer : AnswerFrame) (reply : ReversalReply) → IsAnswer bytes answer → ¬ IsReversalReply bytes reply
  pub malformed : (bytes frame : List ℕ) → IsMalformed bytes frame → IsSomeRefusal frame
  pub refused : (basis : JudgementBasis) (bytes frame : List ℕ) → IsRefusedRequest basis bytes frame → IsSomeRefusal frame
  pub replied : (key : List ℕ) (ksn : Serial) (code : Code) → IsSerial ksn → IsReply (payment_reply key ksn code) ksn code (reply_mac key ksn code)
  pub told : (key : List ℕ) (numbers : Numbers) (state : ReversalState) → AreNumbers numbers → IsReversalReply (reversal_reply_under key numbers state) (reversal_reply_of key numbers state)

some_refusal : AnswerLaws → (basis : JudgementBasis) (bytes frame : List ℕ) → IsRefusalFor basis bytes frame → IsSomeRefusal frame
some_refusal laws basis bytes frame (inl malformed) = laws.malformed bytes frame malformed
some_refusal laws basis bytes frame (inr refused) = laws.refused basis bytes frame refused

reason_is : (why : Reason) → (1 ≤ reason_number why) × (reason_number why ≤ 6)
reason_is reason.Malformed = (omega arith, omega arith)
reason_is reason.UnknownKeySet = (omega arith, omega arith)
reason_is reason.BadCounter = (omega arith, omega arith)
reason_is reason.BadMac = (omega arith, omega arith)
reason_is reason.Used = (omega arith, omega arith)
reason_is reason.LogFull = (omega arith, omega arith)

-- what a frame is judged with is one of them
pub one_of : AnswerLaws → (basis : LineBasis) (frame answer : List ℕ) (added : Entries) → IsJudged basis frame answer added → IsOneOf basis.keys (basis.entries ++ added) answer
one_of laws basis frame answer added (inl (inl (inl refused), none)) = inl (some_refusal laws (without_repeats basis) frame answer refused.refusal)
one_of laws basis frame answer added (inl (inl (inr again), none)) =
    inr (inl (
      again.request.ksn,
      again.is_request.fields.ksn_is,
      reply_of_more basis.keys basis.entries added again.request.ksn answer (record {
        amount = again.kept.amount;
        code = again.code;
        mac = again.request.mac;
        kept = latest_kept basis.entries (payment_entry again.request.ksn again.kept.amount again.code again.request.mac) again.kept.kept;
        reply = again.reply;
      }),
    ))
one_of laws basis frame answer added (inl (inr (inl refused), none)) =
    let reason = reason_is refused.why in
    inl (
      refused.reversal.numbers.ksn,
      reason_number refused.why,
      record {
        fields = (refused.is_reversal.fields.numbers_are.ksn_is, record { least = reason.0; most = reason.1 });
        laid_out = refused.frame_is;
      },
    )
one_of laws basis frame answer added (inl (inr (inr again), none)) =
    inr (inr (
      again.reversal.numbers,
      again.state,
      reversal_reply_of_more basis.keys basis.entries added again.reversal.numbers again.state answer (record {
        mac = again.reversal.mac;
        are_numbers = again.is_reversal.fields.numbers_are;
        kept = latest_kept basis.entries (reversal_entry again.reversal again.state) again.kept;
        reply = again.reply;
      }),
    ))
one_of laws basis frame answer added (inr (entry, inl paid, one)) =
    let own = entry_of paid.request paid.accepted.reply.code in
    let all = sym (one ∙ ap (λ (entry : Entry). entry ∷ []) paid.entry_is) in
    inr (inl (
      paid.request.ksn,
      paid.accepted.is_request.fields.ksn_is,
      subst (λ added. IsReplyOf basis.keys (basis.entries ++ added) paid.request.ksn answer) all (record {
        amount = paid.request.amount;
        code = paid.accepted.reply.code;
        mac = paid.request.mac;
        kept = Contains-append_right basis.entries (own ∷ []) own (the_one own);
        reply = paid.accepted.reply.reply;
      }),
    ))
one_of laws basis frame answer added (inr (entry, inr reversed, one)) =
    let own = reversal_entry reversed.reversal reversed.state in
    let all = sym (one ∙ ap (λ (entry : Entry). entry ∷ []) reversed.entry_is) in
    inr (inr (
      reversed.reversal.numbers,
      reversed.state,
      subst (λ added. IsReversalReplyOf basis.keys (basis.entries ++ added) reversed.reversal.numbers reversed.state answer) all (record {
        mac = reversed.reversal.mac;
        are_numbers = reversed.is_reversal.fields.numbers_are;
        kept = Contains-append_right basis.entries (own ∷ []) own (the_one own);
        reply = reversed.reply;
      }),
    ))

-- ---- the replies are to entries of the list

no_reply_too : (ksn serial : Serial) (number : ℕ) (code : Code) (mac : List ℕ) → Refusal ksn number ≡ Reply serial code mac → ⊥
no_reply_too ksn serial number code mac same = cc

same_number : (ksn serial : Serial) (code other : Code) (mac also : List ℕ) → Reply ksn code mac ≡ Reply serial other also → ksn ≡ serial
same_number ksn serial code other mac also same = cc

told_as : (numbers others : Numbers) (state told : ReversalState) (mac also : List ℕ)
    → ◌≡◌ {A = ReversalReply} (record { numbers = numbers; state = state; mac = mac }) (record { numbers = others; state = told; mac = also }) → (numbers ≡ others) × (state ≡ told)
told_as numbers others state told mac also same = (ap (λ (reply : ReversalReply). reply.numbers) same, ap (λ (reply : ReversalReply). reply.state) same)

module _ (laws : AnswerLaws) (keys : HsmKeys) (entries : Entries) (frame : List ℕ) where
  -- how replies are read
  is_reply : (ksn : Serial) → IsSerial ksn → (reply : IsReplyOf keys entries ksn frame) → IsReply frame ksn reply.code (reply_mac reply.reply.key ksn reply.code)
  is_reply ksn serial reply = subst (λ frame. IsReply frame ksn reply.code (reply_mac reply.reply.key ksn reply.code)) (sym reply.reply.frame_is) (laws.replied reply.reply.key ksn reply.code serial)

  is_told : (numbers : Numbers) (state : ReversalState) → (reply : IsReversalReplyOf keys entries numbers state frame)
      → IsReversalReply frame (reversal_reply_of (response_key_of reply.reply.key) numbers state)
  is_told numbers state reply =
      let key = response_key_of reply.reply.key in
      subst (λ frame. IsReversalReply frame (reversal_reply_of key numbers state)) (sym reply.reply.frame_is) (laws.told key numbers state reply.are_numbers)

  -- an answer that accepts a number is the reply to its payment
  pub reply_is_of : (ksn : Serial) → IsOneOf keys entries frame → AcceptsNumber ksn frame → IsReplyOf keys entries ksn frame
  reply_is_of ksn (inl (serial, number, refusal)) accepts =
      absurd (no_reply_too serial ksn number accepts.0 accepts.1.0 (laws.one_answer frame (Refusal serial number) (Reply ksn accepts.0 accepts.1.0) refusal accepts.1.1))
  reply_is_of ksn (inr (inl (own, serial, reply))) accepts =
      let mac = reply_mac reply.reply.key own reply.code in
      let same : own ≡ ksn = same_number own ksn reply.code accepts.0 mac accepts.1.0
      (laws.one_answer frame (Reply own reply.code mac) (Reply ksn accepts.0 accepts.1.0) (is_reply own serial reply) accepts.1.1) in
      subst (λ ksn. IsReplyOf keys entries ksn frame) same reply
  reply_is_of ksn (inr (inr (numbers, state, reply))) accepts =
      absurd (laws.apart frame (Reply ksn accepts.0 accepts.1.0) (reversal_reply_of (response_key_of reply.reply.key) numbers state) accepts.1.1 (is_told numbers state reply))

  -- an answer that tells of a reversal is the reply to that
  pub told_is_of : (numbers : Numbers) (state : ReversalState) → IsOneOf keys entries frame → TellsReversal numbers state frame → IsReversalReplyOf keys entries numbers state frame
  told_is_of numbers state (inl (serial, number, refusal)) tells =
      absurd (laws.apart frame (Refusal serial number) (record { numbers = numbers; state = state; mac = tells.0 }) refusal tells.1)
  told_is_of numbers state (inr (inl (own, serial, reply))) tells =
      absurd (laws.apart frame (Reply own reply.code (reply_mac reply.reply.key own reply.code)) (record { numbers = numbers; state = state; mac = tells.0 }) (is_reply own serial reply) tells.1)
  told_is_of numbers state (inr (inr (own, told, reply))) tells =
      let read = reversal_reply_of (response_key_of reply.reply.key) own told in
      let same = told_as own numbers told state read.mac tells.0 (laws.one_reply frame read (record { numbers = numbers; state = state; mac = tells.0 }) (is_told own told reply) tells.1) in
      subst (λ state. IsReversalReplyOf keys entries numbers state frame) same.1 (subst (λ numbers. IsReversalReplyOf keys entries numbers told frame) same.0 reply)

one_of_more : (keys : HsmKeys) (entries added : Entries) (frame : List ℕ) → IsOneOf keys entries frame → IsOneOf keys (entries ++ added) frame
one_of_more keys entries added frame (inl refusal) = inl refusal
one_of_more keys entries added frame (inr (inl (ksn, serial, reply))) = inr (inl (ksn, serial, reply_of_more keys entries added ksn frame reply))
one_of_more keys entries added frame (inr (inr (numbers, state, reply))) = inr (inr (numbers, state, reversal_reply_of_more keys entries added numbers state frame reply))

each_is_one_of : (laws : AnswerLaws) (basis : LineBasis) (frames answers : List (List ℕ)) (added : Entries) (answer : List ℕ) → AreJudged basis frames answers added → Contains answers answer
    → IsOneOf basis.keys (basis.entries ++ added) answer
each_is_one_of laws basis [] [] added answer judged contains = absurd (none_in answer contains)
each_is_one_of laws basis [] (first ∷ answers) added answer judged contains = absurd judged
each_is_one_of laws basis (frame ∷ frames) [] added answer judged contains = absurd judged
each_is_one_of laws basis (frame ∷ frames) (first ∷ answers) added answer judged contains =
    let all = append_assoc basis.entries judged.0 judged.1 ∙ ap (λ added. basis.entries ++ added) (sym judged.4) in
    subst (λ entries. IsOneOf basis.keys entries answer) all (elim (front_or first answers answer contains) [
      | inl is ↦ subst (λ answer. IsOneOf basis.keys ((basis.entries ++ judged.0) ++ judged.1) answer) (sym is)
          (one_of_more basis.keys (basis.entries ++ judged.0) judged.1 first (one_of laws basis frame first judged.0 judged.2))
      | inr later ↦ each_is_one_of laws (with_entries basis judged.0) frames answers judged.1 answer judged.3 later
    ])

pub replies_after : (laws : AnswerLaws) (basis : LineBasis) (frames answers : List (List ℕ)) (added : Entries) → AreJudged basis frames answers added
    → AreRepliesOf basis.keys (basis.entries ++ added) answers
replies_after laws basis frames answers added judged answer ksn contains accepts =
    reply_is_of laws basis.keys (basis.entries ++ added) answer ksn (each_is_one_of laws basis frames answers added answer judged contains) accepts

pub reversal_replies_after : (laws : AnswerLaws) (basis : LineBasis) (frames answers : List (List ℕ)) (added : Entries) → AreJudged basis frames answers added
    → AreReversalRepliesOf basis.keys (basis.entries ++ added) answers
reversal_replies_after laws basis frames answers added judged answer numbers state contains tells =
    told_is_of laws basis.keys (basis.entries ++ added) answer numbers state (each_is_one_of laws basis frames answers added answer judged contains) tells
