-- Where the entries of the host come from, and what it keeps of its answers.
use Rattle.std.proofs.Common.{◌≡◌, ◌++◌, ◌∷◌, [], ℕ, zero, suc, List, Contains, flat_map, take, inl, inr, refl, sym, ap, subst, ◌∙◌, arith}
use Rattle.std.proofs.lemmas.List.Elements.{Contains-append_cases, Contains-append_left, Contains-append_right}
use Rattle.duk_frame.specs.Answer.{IsAnswer, IsReply}
use Rattle.duk_frame.specs.Payment.{reply_mac}
use Rattle.duk_frame.specs.Request.{IsRequest}
use Rattle.duk_frame.specs.declared.answer.AnswerFrame.TheVariants.{Reply}
use Rattle.duk_frame.specs.declared.code.Code.{Code}
use Rattle.duk_frame.specs.declared.request.Request.{Request}
use Rattle.duk_host.specs.declared.fault.HostFault.{HostFault}
use Rattle.duk_hsm.specs.Keys.{HsmKeys}
use Rattle.duk_journal.specs.Entry.{reversed_by}
use Rattle.duk_journal.specs.Groups.{Entries}
use Rattle.duk_journal.specs.Standing.{UseNewNumbers, payment_entry, reversed_in, reversed_numbers}
use Rattle.duk_journal.specs.declared.entry.Decided.{Decided}
use Rattle.duk_journal.specs.declared.entry.Decided.TheVariants.{Payment, Reversal}
use Rattle.duk_journal.specs.declared.entry.Entry.{Entry}
use Rattle.duk_journal_host.specs.Group.{AnswersFrames, GroupRefused}
use Rattle.duk_journal_host.specs.Host.{HostMeaning, HostOf, JudgesBy, basis_of}
use Rattle.duk_journal_host.specs.Judged.{AreJudged, IsReplyOf, IsReversalReplyOf}
use Rattle.duk_journal_host.specs.Judgement.{IsJudged, LineBasis, with_entries}
use Rattle.duk_reversal.specs.Numbers.{AreNumbers, Numbers}
use Rattle.duk_reversal.specs.Reply.{IsReversalReply}
use Rattle.duk_reversal.specs.Reversal.{IsReversal}
use Rattle.duk_reversal.specs.declared.reply.ReversalReply as reply_frame
use Rattle.duk_reversal.specs.declared.reversal.Reversal as reversal_frame
use Rattle.duk_tree.specs.Serial.{Serial}
use Rattle.duk_books.specs.AcceptedOnce.{HasPayment}
use Rattle.duk_books.specs.Books.{Frame, Meanings}
use Rattle.duk_books.specs.Came.{AreAskedFor, IsAskedFor}
use Rattle.duk_books.specs.inner.Known.{HostLaws}
use Rattle.duk_books.proofs.agreement.Facts.{IsRepliedTo, IsUndoneBy, asked_before, none_in, reversed_before, the_one, the_only}
use Rattle.duk_books.proofs.moves.HostFinds.{HostFinds, answered_by, answered_finds, refused_finds, touched_finds}
use Rattle.duk_books.proofs.moves.StepChanges.{TouchesHost}

-- ---- where entries come from

-- what was decided of a number is of this frame
abbrev pub IsDecidedOf : List ℕ → Serial → Decided → Type 0
IsDecidedOf bytes number (Payment amount code) = (request : Request) × IsRequest bytes request × (request.ksn ≡ number) × (request.amount ≡ amount)
IsDecidedOf bytes number (Reversal counter state) = (reversal : reversal_frame.Reversal) × IsReversal bytes reversal × (reversal.numbers.ksn ≡ number) × (reversal.numbers.reversed ≡ reversed_by number counter)

reversed_is : (numbers : Numbers) → AreNumbers numbers → numbers.reversed ≡ reversed_by numbers.ksn numbers.reversed.counter
reversed_is numbers are = ap (λ iksn. record { iksn = iksn; counter = numbers.reversed.counter }) are.reverses.same_iksn

judged_of : (basis : LineBasis) (frame answer : List ℕ) (added : Entries) → IsJudged basis frame answer added → (entry : Entry) → Contains added entry → IsDecidedOf frame entry.number entry.decided
judged_of basis frame answer added (inl (settled, none)) entry is_in = absurd (none_in entry (subst (λ (list : Entries). Contains list entry) none is_in))
judged_of basis frame answer added (inr (made, inl paid, is)) entry is_in =
    let same : entry ≡ made = the_only made entry (subst (λ (list : Entries). Contains list entry) is is_in) in
    subst (λ (it : Entry). IsDecidedOf frame it.number it.decided) (sym (same ∙ paid.entry_is)) (paid.request, paid.accepted.is_request, refl, refl)
judged_of basis frame answer added (inr (made, inr reversed, is)) entry is_in =
    let same : entry ≡ made = the_only made entry (subst (λ (list : Entries). Contains list entry) is is_in) in
    subst (λ (it : Entry). IsDecidedOf frame it.number it.decided) (sym (same ∙ reversed.entry_is))
    (reversed.reversal, reversed.is_reversal, refl, reversed_is reversed.reversal.numbers reversed.is_reversal.fields.numbers_are)

-- of frames in turn, each the bytes of one that was sent
abbrev pub WereSent : List Frame → List (List ℕ) → Type 0
WereSent requests frames = (bytes : List ℕ) → Contains frames bytes → (frame : Frame) × Contains requests frame × (frame.items ≡ bytes)

cause_of : (requests : List Frame) (frame : Frame) (number : Serial) (decided : Decided) → Contains requests frame → IsDecidedOf frame.items number decided → IsAskedFor requests number decided
cause_of requests frame number (Payment amount code) sent is = record { frame = frame; request = is.0; sent = sent; is_request = is.1; ksn_is = is.2; amount_is = is.3 }
cause_of requests frame number (Reversal counter state) sent is = record { frame = frame; reversal = is.0; sent = sent; is_reversal = is.1; ksn_is = is.2; reversed_is = is.3 }

came_from : (requests : List Frame) (basis : LineBasis) (frames answers : List (List ℕ)) (added : Entries) → WereSent requests frames → AreJudged basis frames answers added → AreAskedFor requests added
came_from requests basis [] [] added sent judged entry is_in = absurd (none_in entry (subst (λ (list : Entries). Contains list entry) judged is_in))
came_from requests basis [] (answer ∷ answers) added sent judged entry is_in = absurd judged
came_from requests basis (frame ∷ frames) [] added sent judged entry is_in = absurd judged
came_from requests basis (frame ∷ frames) (answer ∷ answers) added sent judged entry is_in =
    elim (Contains-append_cases judged.0 judged.1 entry (subst (λ (list : Entries). Contains list entry) judged.4 is_in)) [
      | inl first ↦
          let it = sent frame (Contains-append_left (frame ∷ []) frames frame (the_one frame)) in
          cause_of requests it.0 entry.number entry.decided it.1 (subst (λ bytes. IsDecidedOf bytes entry.number entry.decided) (sym it.2) (judged_of basis frame answer judged.0 judged.2 entry first))
      | inr later ↦ came_from requests (with_entries basis judged.0) frames answers judged.1 (λ bytes has. sent bytes (Contains-append_right (frame ∷ []) frames bytes has)) judged.3 entry later
    ]

came_more : (requests : List Frame) (entries added : Entries) → AreAskedFor requests entries → AreAskedFor requests added → AreAskedFor requests (entries ++ added)
came_more requests entries added came also entry is_in = elim (Contains-append_cases entries added entry is_in) [
  | inl before ↦ came entry before
  | inr here ↦ also entry here
]

cause_before : (requests more : List Frame) (number : Serial) (decided : Decided) → IsAskedFor requests number decided → IsAskedFor (requests ++ more) number decided
cause_before requests more number (Payment amount code) is = asked_before requests more number amount is
cause_before requests more number (Reversal counter state) is = reversed_before requests more number (reversed_by number counter) is

-- ---- what answers say

pub record EntriesHold (requests answers : List Frame) (entries : Entries) : Type 0 where
  pub new_numbers : UseNewNumbers entries
  pub came : AreAskedFor requests entries
  pub replied : (ksn : Serial) (code : Code) → IsRepliedTo answers ksn code → HasPayment entries ksn code
  pub undone : (ksn : Serial) → IsUndoneBy answers ksn → Contains (reversed_numbers entries) ksn

-- an empty list has no entry
pub none_new : UseNewNumbers []
none_new = record { usable = λ i d within. absurd (omega (arith, within)); stand = λ i d within. absurd (omega (arith, within)); new = λ i j d below within. absurd (omega (arith, within)) }

pub flat_in : {A B : Type 0} (f : A → List B) (things : List A) (thing : A) (other : B) → Contains things thing → Contains (f thing) other → Contains (flat_map f things) other
flat_in f [] thing other is_in has = absurd (none_in thing is_in)
flat_in f (first ∷ things) thing other is_in has = elim (Contains-append_cases (first ∷ []) things thing is_in) [
  | inl here ↦ Contains-append_left (f first) (flat_map f things) other (subst (λ it. Contains (f it) other) (the_only first thing here) has)
  | inr later ↦ Contains-append_right (f first) (flat_map f things) other (flat_in f things thing other later has)
]

pub flat_from : {A B : Type 0} (f : A → List B) (things : List A) (other : B) → Contains (flat_map f things) other → (thing : A) × Contains things thing × Contains (f thing) other
flat_from f [] other has = absurd (none_in other has)
flat_from f (first ∷ things) other has = elim (Contains-append_cases (f first) (flat_map f things) other has) [
  | inl here ↦ (first, Contains-append_left (first ∷ []) things first (the_one first), here)
  | inr later ↦ let it = flat_from f things other later in (it.0, Contains-append_right (first ∷ []) things it.0 it.1, it.2)
]

-- what a reversal of the list reverses
pub reversed_of : (entries : Entries) (ksn : Serial) → Contains (reversed_numbers entries) ksn → (entry : Entry) × Contains entries entry × Contains (reversed_in entry.number entry.decided) ksn
reversed_of entries ksn has = flat_from (λ (entry : Entry). reversed_in entry.number entry.decided) entries ksn has

reverses : (entries : Entries) (entry : Entry) (ksn : Serial) → Contains entries entry → Contains (reversed_in entry.number entry.decided) ksn → Contains (reversed_numbers entries) ksn
reverses entries entry ksn is_in has = flat_in (λ (entry : Entry). reversed_in entry.number entry.decided) entries entry ksn is_in has

same_reply : (ksn : Serial) (code other : Code) (mac also : List ℕ) → Reply ksn code mac ≡ Reply ksn other also → code ≡ other
same_reply ksn code other mac also same = cc

more_entries : (requests answers : List Frame) (entries added : Entries) → EntriesHold requests answers entries → UseNewNumbers (entries ++ added) → AreAskedFor requests added → EntriesHold requests answers (entries ++ added)
more_entries requests answers entries added holds new_numbers came = record {
  new_numbers = new_numbers;
  came = came_more requests entries added holds.came came;
  replied = λ ksn code replied. let was = holds.replied ksn code replied in record { amount = was.amount; mac = was.mac; kept = Contains-append_left entries added (payment_entry ksn was.amount code was.mac) was.kept };
  undone = λ ksn undone.
      let it = reversed_of entries ksn (holds.undone ksn undone) in
      reverses (entries ++ added) it.0 ksn (Contains-append_left entries added it.0 it.1) it.2;
}

module _ (laws : HostLaws) where
  -- the code of a reply is that of the payment that is kept
  pub code_kept : (keys : HsmKeys) (entries : Entries) (bytes : List ℕ) (ksn : Serial) (code : Code) (mac : List ℕ) → IsReply bytes ksn code mac → (is : IsReplyOf keys entries ksn bytes) → is.code ≡ code
  code_kept keys entries bytes ksn code mac reply is =
      let made : IsAnswer bytes (Reply ksn is.code (reply_mac is.reply.key ksn is.code)) =
      subst (λ bytes. IsAnswer bytes (Reply ksn is.code (reply_mac is.reply.key ksn is.code))) (sym is.reply.frame_is) (laws.replied is.reply.key ksn is.code reply.fields.0) in
      same_reply ksn is.code code (reply_mac is.reply.key ksn is.code) mac (laws.one_answer bytes (Reply ksn is.code (reply_mac is.reply.key ksn is.code)) (Reply ksn code mac) made reply)

  pub reply_is_kept : (keys : HsmKeys) (entries : Entries) (frame : Frame) (ksn : Serial) (code : Code) (mac : List ℕ) → IsReply frame.items ksn code mac → IsReplyOf keys entries ksn frame.items → HasPayment entries ksn code
  reply_is_kept keys entries frame ksn code mac reply is = record {
    amount = is.amount;
    mac = is.mac;
    kept = subst (λ (it : Code). Contains entries (payment_entry ksn is.amount it is.mac)) (code_kept keys entries frame.items ksn code mac reply is) is.kept;
  }

  reversal_is_kept : (keys : HsmKeys) (entries : Entries) (frame : Frame) (reply : reply_frame.ReversalReply) → IsReversalReplyOf keys entries reply.numbers reply.state frame.items
      → Contains (reversed_numbers entries) reply.numbers.reversed
  reversal_is_kept keys entries frame reply is =
      reverses entries _ reply.numbers.reversed is.kept (subst (λ (it : Serial). Contains (it ∷ []) reply.numbers.reversed) (reversed_is reply.numbers is.are_numbers) (the_one reply.numbers.reversed))

  -- one more answer
  one_more_answer : (requests answers : List Frame) (basis : LineBasis) (frame : List ℕ) (answer : Frame) (added : Entries) → AreJudged basis (frame ∷ []) (answer.items ∷ []) added → WereSent requests (frame ∷ [])
      → EntriesHold requests answers basis.entries → EntriesHold requests (answers ++ answer ∷ []) (basis.entries ++ added)
  one_more_answer requests answers basis frame answer added judged sent holds =
      let more = more_entries requests answers basis.entries added holds (laws.new_numbers basis (frame ∷ []) (answer.items ∷ []) added judged holds.new_numbers)
      (came_from requests basis (frame ∷ []) (answer.items ∷ []) added sent judged) in
      let given = laws.replies basis (frame ∷ []) (answer.items ∷ []) added judged in
      record {
        new_numbers = more.new_numbers;
        came = more.came;
        replied = λ ksn code replied. elim (Contains-append_cases answers (answer ∷ []) replied.frame replied.sent) [
          | inl before ↦ more.replied ksn code (record { frame = replied.frame; mac = replied.mac; sent = before; reply = replied.reply })
          | inr here ↦
              let same : replied.frame ≡ answer = the_only answer replied.frame here in
              let reply = subst (λ (it : Frame). IsReply it.items ksn code replied.mac) same replied.reply in
              reply_is_kept basis.keys (basis.entries ++ added) answer ksn code replied.mac reply (given.0 answer.items ksn (the_one answer.items) (code, (replied.mac, reply)))
        ];
        undone = λ ksn undone. elim (Contains-append_cases answers (answer ∷ []) undone.frame undone.sent) [
          | inl before ↦ more.undone ksn (record { frame = undone.frame; reply = undone.reply; sent = before; is_reply = undone.is_reply; reversed_is = undone.reversed_is })
          | inr here ↦
              let same : undone.frame ≡ answer = the_only answer undone.frame here in
              let reply = subst (λ (it : Frame). IsReversalReply it.items undone.reply) same undone.is_reply in
              subst (λ (it : Serial). Contains (reversed_numbers (basis.entries ++ added)) it) undone.reversed_is
              (reversal_is_kept basis.keys (basis.entries ++ added) answer undone.reply (given.1 answer.items undone.reply.numbers undone.reply.state (the_one answer.items) (undone.reply.mac, reply)))
        ];
      }

-- more frames are sent
pub more_requests : (requests more answers : List Frame) (entries : Entries) → EntriesHold requests answers entries → EntriesHold (requests ++ more) answers entries
more_requests requests more answers entries holds = record {
  new_numbers = holds.new_numbers;
  came = λ entry is_in. cause_before requests more entry.number entry.decided (holds.came entry is_in);
  replied = holds.replied;
  undone = holds.undone;
}

-- ---- the host

abbrev pub HostHolds : {J I : Type 0} → HostMeaning J I → List Frame → List Frame → HostOf J I → Type 0
HostHolds meaning requests answers host = HostFinds meaning (EntriesHold requests answers) host

alone_sent : (requests : List Frame) (frame : Frame) → Contains requests frame → WereSent requests (frame.items ∷ [])
alone_sent requests frame sent bytes has = (frame, sent, sym (the_only frame.items bytes has))

none_taken : (count : ℕ) (bytes : List ℕ) → ¬ Contains (take count []) bytes
none_taken zero bytes has = none_in bytes has
none_taken (suc count) bytes has = none_in bytes has

first_sent : (requests : List Frame) (frame : Frame) (count : ℕ) → Contains requests frame → WereSent requests (take count (frame.items ∷ []))
first_sent requests frame zero sent bytes has = absurd (none_in bytes has)
first_sent requests frame (suc count) sent bytes has = elim (Contains-append_cases (frame.items ∷ []) (take count []) bytes has) [
  | inl here ↦ alone_sent requests frame sent bytes here
  | inr later ↦ absurd (none_taken count bytes later)
]

module _ {J I : Type 0} (laws : HostLaws) (meaning : HostMeaning J I) (requests answers : List Frame) (frame : Frame) (sent : Contains requests frame) (old new : HostOf J I) (holds : HostHolds meaning requests answers old) where
  one_more : (answer : Frame) (by added : Entries) → AreJudged (basis_of meaning old by) (frame.items ∷ []) (answer.items ∷ []) added → EntriesHold requests answers by → EntriesHold requests (answers ++ answer ∷ []) (by ++ added)
  one_more answer by added judged hold = one_more_answer laws requests answers (basis_of meaning old by) frame.items answer added judged (alone_sent requests frame sent) hold

  -- an answer is given
  pub answered_holds : (answer : Frame) → AnswersFrames meaning (frame.items ∷ []) old new (answer.items ∷ []) → HostHolds meaning requests (answers ++ answer ∷ []) new
  answered_holds answer is = answered_finds meaning (EntriesHold requests answers) (EntriesHold requests (answers ++ answer ∷ [])) frame.items answer.items old new holds (one_more answer) is

  -- the host then judges by such entries
  pub answered_entries : (answer : Frame) → AnswersFrames meaning (frame.items ∷ []) old new (answer.items ∷ []) → (entries : Entries) × JudgesBy meaning new entries × EntriesHold requests (answers ++ answer ∷ []) entries
  answered_entries answer is = answered_by meaning (EntriesHold requests answers) (EntriesHold requests (answers ++ answer ∷ [])) frame.items answer.items old new holds (one_more answer) is

  -- none is, and entries of the frame may be kept
  pub refused_holds : (others : List (List ℕ)) (why : HostFault) → GroupRefused meaning (frame.items ∷ []) old new others why → HostHolds meaning requests answers new
  refused_holds others why is = refused_finds meaning (EntriesHold requests answers) frame.items old new holds
      (λ by count given added judged hold.
      let basis = basis_of meaning old by in
      more_entries requests answers by added hold (laws.new_numbers basis (take count (frame.items ∷ [])) given added judged hold.new_numbers)
      (came_from requests basis (take count (frame.items ∷ [])) given added (first_sent requests frame count sent) judged)) others why is

-- whatever else happens to the host
pub touched_holds : {C B J I : Type 0} (m : Meanings C B J I) (requests answers : List Frame) (old new : HostOf J I) → HostHolds m.host requests answers old → TouchesHost m old new → HostHolds m.host requests answers new
touched_holds m requests answers old new holds touches = touched_finds m (EntriesHold requests answers) old new holds touches
