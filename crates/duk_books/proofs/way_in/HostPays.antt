-- How the host answers a request whose number is new, where there is room for a payment.
use Rattle.std.proofs.Common.{◌≡◌, ◌≢◌, ◌+◌, ◌-◌, ◌<◌, ◌++◌, ◌∷◌, [], ℕ, List, Some, None, Contains, drop, take, length, inl, inr, sym, ap, subst, ◌∙◌, arith}
use Rattle.std.proofs.lemmas.List.{take-append-drop}
use Rattle.std.proofs.lemmas.List.Elements.{Contains-append_right}
use Rattle.duk_frame.specs.Answer.{IsReply}
use Rattle.duk_frame.specs.Request.{IsRequest}
use Rattle.duk_frame.specs.declared.answer.AnswerFrame.TheVariants.{Refusal, Reply}
use Rattle.duk_frame.specs.declared.code.Code.{Code}
use Rattle.duk_frame.specs.declared.request.Request.{Request}
use Rattle.duk_host.specs.Judgement.{Decision, IsAuthentic, IsCodeOf, IsReasonAgainst, IsRefusalFor, IsReplyWith}
use Rattle.duk_host.specs.declared.reason.Reason.{Reason}
use Rattle.duk_host.specs.declared.reason.Reason.TheVariants as reason
use Rattle.duk_hsm.specs.Commands.{IsPinOf, IsTransactionKey}
use Rattle.duk_hsm.specs.Keys.{HsmKeys, key_set_of}
use Rattle.duk_journal.specs.Groups.{Entries}
use Rattle.duk_journal.specs.Standing.{numbers_in, payment_entry, used_by}
use Rattle.duk_journal.specs.declared.entry.Entry.{Entry}
use Rattle.duk_journal_host.specs.Host.{JudgesBy, basis_of}
use Rattle.duk_journal_host.specs.Judgement.{IsJudged, LineBasis, entry_of, room_for_payments, without_repeats}
use Rattle.duk_journal_host.specs.Latest.{latest_entries, most_latest}
use Rattle.duk_pin.specs.PinBlock.{IsPinBlock, pin_block}
use Rattle.duk_store.specs.declared.fault.StoreFault.TheVariants as store_fault
use Rattle.duk_tdes.specs.Tdes.{tdes_decrypted, tdes_encrypted}
use Rattle.duk_tree.specs.Derivation.{derived_key_of, pin_key_of}
use Rattle.duk_tree.specs.Serial.{Serial, prefix_of}
use Rattle.duk_books.specs.Books.{BooksOf, Frame, Meanings}
use Rattle.duk_stations.specs.Places.{IsAt}
use Rattle.duk_books.specs.Calm.{ReportsFault}
use Rattle.duk_books.specs.Up.{IsAnswered, ReachesHost, SaysAnswer}
use Rattle.duk_books.specs.declared.event.End.TheVariants as ends
use Rattle.duk_books.specs.declared.outcome.Outcome.{Outcome}
use Rattle.duk_books.specs.declared.outcome.Outcome.TheVariants as came
use Rattle.duk_books.specs.inner.Known.{FrameLaws}
use Rattle.duk_books.proofs.accepted.RepliedBefore.{AnswerLaws, no_refusal, same_code, same_ksn}
use Rattle.duk_books.proofs.agreement.Facts.{the_one}
use Rattle.duk_books.proofs.agreement.HostHolds.{flat_in}
use Rattle.duk_stations.proofs.PlacesInLists.{not_missing}
use Rattle.duk_books.proofs.way_out.HostReverses.{refuses}
use Rattle.duk_books.proofs.way_out.Ups.{one_at, one_there, some_is}

-- ---- it is accepted

latest_kept : (entries : Entries) (entry : Entry) → Contains (latest_entries entries) entry → Contains entries entry
latest_kept entries entry has =
    let n = length entries - most_latest in
    subst (λ (list : Entries). Contains list entry) (take-append-drop n entries) (Contains-append_right (take n entries) (drop n entries) entry has)

key_held : (keys : HsmKeys) (request : Request) → IsAuthentic keys request → key_set_of keys (prefix_of request.ksn) ≢ None
key_held keys request authentic none = let held = authentic.key_is.held in cc

-- what becomes of a request that is accepted
pub record Pays (basis : LineBasis) (request : Request) (answer : List ℕ) (added : Entries) : Type 0 where
  pub code : Code
  pub code_is : IsCodeOf basis.keys basis.decides request code
  pub reply : IsReplyWith basis.keys request.ksn code answer
  pub added_is : added ≡ entry_of request code ∷ []

module _ (laws : FrameLaws) (basis : LineBasis) (bytes answer : List ℕ) (request : Request) (is_request : IsRequest bytes request) (authentic : IsAuthentic basis.keys request) (is_new : ¬ Contains (used_by basis.entries) request.ksn)
    (room : 0 < room_for_payments basis.capacity basis.room) where
  -- an entry of its number is none of those that are kept
  not_kept : (amount : ℕ) (code : Code) (mac : List ℕ) → ¬ Contains basis.entries (payment_entry request.ksn amount code mac)
  not_kept amount code mac kept =
      let entry = payment_entry request.ksn amount code mac in
      is_new (flat_in numbers_in basis.entries entry request.ksn kept (the_one request.ksn))

  -- there is no reason against it
  no_reason : (why : Reason) → ¬ IsReasonAgainst (without_repeats basis) request why
  no_reason reason.Malformed first = first.fails
  no_reason reason.UnknownKeySet first = key_held basis.keys request authentic first.fails
  no_reason reason.BadCounter first = first.fails authentic.key_is.usable
  no_reason reason.BadMac first = first.fails authentic
  no_reason reason.Used first = is_new first.fails.1
  no_reason reason.LogFull first = let full = first.fails.1 in omega (arith, full, room)

  same_request : (other : Request) → IsRequest bytes other → other ≡ request
  same_request other is = laws.one_request bytes other request is is_request

  not_refused : ¬ IsRefusalFor (without_repeats basis) bytes answer
  not_refused (inl malformed) = malformed.no_request request is_request
  not_refused (inr refused) =
      no_reason refused.reason (subst (λ (it : Request). IsReasonAgainst (without_repeats basis) it refused.reason) (same_request refused.request refused.is_request) refused.refuses)

  pub judged_pays : (added : Entries) → IsJudged basis bytes answer added → Pays basis request answer added
  judged_pays added (inl (inl (inl refused), none)) = absurd (not_refused refused.refusal)
  judged_pays added (inl (inl (inr again), none)) =
      let kept = latest_kept basis.entries _ again.kept.kept in
      absurd (not_kept again.kept.amount again.code again.request.mac
      (subst (λ (it : Request). Contains basis.entries (payment_entry it.ksn again.kept.amount again.code again.request.mac)) (same_request again.request again.is_request) kept))
  judged_pays added (inl (inr (inl refused), none)) = absurd (laws.apart bytes request refused.reversal is_request refused.is_reversal)
  judged_pays added (inl (inr (inr again), none)) = absurd (laws.apart bytes request again.reversal is_request again.is_reversal)
  judged_pays added (inr (entry, inl paid, one)) =
      let same = same_request paid.request paid.accepted.is_request in
      let code = paid.accepted.reply.code in
      record {
        code = code;
        code_is = subst (λ (it : Request). IsCodeOf basis.keys basis.decides it code) same paid.accepted.reply.code_is;
        reply = subst (λ (it : Request). IsReplyWith basis.keys it.ksn code answer) same paid.accepted.reply.reply;
        added_is = one ∙ ap (λ (it : Entry). it ∷ []) (paid.entry_is ∙ ap (λ (it : Request). entry_of it code) same);
      }
  judged_pays added (inr (entry, inr reversed, one)) = absurd (laws.apart bytes request reversed.reversal is_request reversed.is_reversal)

-- ---- with the issuer's code

-- a number has one transaction key
pub one_key : (keys : HsmKeys) (ksn : Serial) (one other : List ℕ) → IsTransactionKey keys ksn one → IsTransactionKey keys ksn other → one ≡ other
one_key keys ksn one other is also =
    let bdk : is.bdk ≡ also.bdk = some_is is.bdk also.bdk (sym is.held ∙ also.held) in
    is.key_is ∙ ap (λ (it : List ℕ). derived_key_of it ksn) bdk ∙ sym also.key_is

-- what the issuer says of a PIN in the block of a request
pub record IsSaid (keys : HsmKeys) (decides : Decision) (request : Request) (pin : List ℕ) (code : Code) : Type 0 where
  pub zone : List ℕ
  pub zone_is : keys.zone ≡ Some zone
  pub code_is : code ≡ decides request.pan request.amount (tdes_encrypted zone (pin_block pin request.pan))

module _ (one_pin : (pin other pan block : List ℕ) → IsPinBlock pin pan block → IsPinBlock other pan block → pin ≡ other) (keys : HsmKeys) (decides : Decision) (request : Request) (key pin : List ℕ) (key_is : IsTransactionKey keys request.ksn key)
    (pin_is : IsPinOf key request.block request.pan pin) where
  pub is_said : (code : Code) → IsCodeOf keys decides request code → IsSaid keys decides request pin code
  is_said code (inl decided) =
      let translated = decided.translated in
      let same_key = one_key keys request.ksn translated.key key translated.key_is key_is in
      let same_pin : translated.pin ≡ pin =
      one_pin translated.pin pin request.pan (tdes_decrypted (pin_key_of key) request.block)
      (subst (λ (it : List ℕ). IsPinOf it request.block request.pan translated.pin) same_key translated.pin_is) pin_is in
      record {
        zone = translated.zone;
        zone_is = translated.zone_is;
        code_is = decided.code_is
            ∙ ap (decides request.pan request.amount) (translated.translated_is ∙ ap (λ (it : List ℕ). tdes_encrypted translated.zone (pin_block it request.pan)) same_pin);
      }
  is_said code (inr unreadable) =
      let none = unreadable.no_pin in
      absurd (none.no_pin pin (subst (λ (it : List ℕ). IsPinOf it request.block request.pan pin) (one_key keys request.ksn key none.key key_is none.key_is) pin_is))

-- ---- it is answered

one_added : {A : Type 0} (first others added : List A) (thing : A) → others ≡ [] → added ≡ first ++ others → first ≡ thing ∷ [] → added ≡ thing ∷ []
one_added first others added thing none all one = all ∙ ap (λ it. it ++ others) one ∙ ap (λ it. (thing ∷ []) ++ it) none

-- the host's reply to a request, as the next answer
pub record PaysFor {C B J I : Type 0} (m : Meanings C B J I) (old : BooksOf C B J I) (entries : Entries) (request : Request) (outcome : Outcome) (new : BooksOf C B J I) : Type 0 where
  pub answer : Frame
  pub code : Code
  pub code_is : IsCodeOf old.host.keys (m.host.decides old.host.issuer) request code
  pub reply : IsReplyWith old.host.keys request.ksn code answer.items
  pub judges : JudgesBy m.host new.host (entries ++ entry_of request code ∷ [])
  pub says : SaysAnswer old.answers answer outcome
  pub tills : new.tills ≡ old.tills
  pub answers : new.answers ≡ old.answers ++ answer ∷ []
  pub sales : new.sales ≡ old.sales

module _ {C B J I : Type 0} (m : Meanings C B J I) (laws : FrameLaws) (old new : BooksOf C B J I) (k : ℕ) (frame : Frame) (at : IsAt old.requests k frame) (entries : Entries) (judges : JudgesBy m.host old.host entries)
    (request : Request) (is_request : IsRequest frame.items request) (authentic : IsAuthentic old.host.keys request) (is_new : ¬ Contains (used_by entries) request.ksn)
    (room : 0 < room_for_payments (basis_of m.host old.host entries).capacity (basis_of m.host old.host entries).room) where
  is_answered : (outcome : Outcome) → IsAnswered m old k outcome new → PaysFor m old entries request outcome new
  is_answered outcome is =
      let same : is.frame ≡ frame = one_at old.requests k is.frame frame is.sent at in
      let given = is.answered.answered entries judges in
      let judged = given.1 in
      let basis = basis_of m.host old.host entries in
      let pays = judged_pays laws basis is.frame.items is.answer.items request (subst (λ (it : Frame). IsRequest it.items request) (sym same) is_request) authentic is_new room judged.0 judged.2 in
      record {
        answer = is.answer;
        code = pays.code;
        code_is = pays.code_is;
        reply = pays.reply;
        judges = subst (λ (added : Entries). JudgesBy m.host new.host (entries ++ added)) (one_added judged.0 judged.1 given.0 (entry_of request pays.code) judged.3 judged.4 pays.added_is) given.2;
        says = is.says;
        tills = ap (λ (books : BooksOf C B J I). books.tills) is.rest;
        answers = ap (λ (books : BooksOf C B J I). books.answers) is.rest;
        sales = ap (λ (books : BooksOf C B J I). books.sales) is.rest;
      }

  pub pays_for : (outcome : Outcome) → ReachesHost m old k outcome new → ¬ ReportsFault outcome ends.Host store_fault.Device → PaysFor m old entries request outcome new
  pays_for came.NoSuchFrame is spared = absurd (not_missing old.requests k (one_there old.requests k frame at) is.0)
  pays_for (came.HostFaulted why) is spared = absurd (refuses m old new entries judges (is.frame.items ∷ []) is.answers why is.not_memory spared is.faulted)
  pays_for (came.Accepted n ksn code) is spared = is_answered (came.Accepted n ksn code) is
  pays_for (came.Repeated n ksn code) is spared = is_answered (came.Repeated n ksn code) is
  pays_for (came.Refused n ksn why) is spared = is_answered (came.Refused n ksn why) is
  pays_for (came.Reversed n ksn reversed state) is spared = is_answered (came.Reversed n ksn reversed state) is
  pays_for _ is spared = absurd is.says

-- ---- what is told of it

accepted_as : (n m : ℕ) (number ksn : Serial) (with code : Code) → n ≡ m → number ≡ ksn → with ≡ code → came.Accepted n number with ≡ came.Accepted m ksn code
accepted_as n m number ksn with code one two three = cc

-- a reply that was not given before is told as an acceptance
pub says_accepted : (laws : AnswerLaws) (answers : List Frame) (answer : Frame) (ksn : Serial) (code : Code) (mac : List ℕ) → IsReply answer.items ksn code mac → ¬ Contains answers answer → (outcome : Outcome) → SaysAnswer answers answer outcome
    → outcome ≡ came.Accepted (length answers + 1) ksn code
says_accepted laws answers answer ksn code mac is first (came.Accepted n number with) says =
    let same = laws.one_answer answer.items (Reply number with says.2.0) (Reply ksn code mac) says.2.1 is in
    accepted_as n (length answers + 1) number ksn with code says.0 (same_ksn number ksn with code says.2.0 mac same) (same_code number ksn with code says.2.0 mac same)
says_accepted laws answers answer ksn code mac is first (came.Repeated n number with) says = absurd (first says.1)
says_accepted laws answers answer ksn code mac is first (came.Refused n number why) says =
    absurd (no_refusal number ksn code mac why (laws.one_answer answer.items (Refusal number why) (Reply ksn code mac) says.1 is))
says_accepted laws answers answer ksn code mac is first (came.Reversed n number reversed state) says = absurd (laws.apart answer.items (Reply ksn code mac) says.1.0 is says.1.1)
says_accepted laws answers answer ksn code mac is first _ says = absurd says
