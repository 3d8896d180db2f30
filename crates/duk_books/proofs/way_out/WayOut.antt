-- The way out of a till: it comes to rest.
use Rattle.std.proofs.Common.{◌≡◌, ◌≢◌, ◌⊎◌, ◌+◌, ◌<◌, ◌++◌, ◌∷◌, [], ℕ, List, Option, true, Some, None, Contains, length, inl, inr, refl, sym, ap, subst, ◌∙◌, arith}
use Rattle.std.specs.List.{All, slice_get}
use Rattle.std.proofs.lemmas.List.Elements.{All-contains}
use Rattle.std.proofs.lemmas.Option.{slice_get_within}
use Rattle.duk_hsm.specs.Commands.{IsTransactionKey}
use Rattle.duk_hsm.specs.Keys.{HsmKeys, key_set_of}
use Rattle.duk_journal.specs.Standing.{used_by}
use Rattle.duk_journal_host.specs.Host.{JudgesBy, basis_of}
use Rattle.duk_journal_host.specs.Judgement.{IsAuthenticReversal, IsReversalAcceptable}
use Rattle.duk_regs.specs.Registers.{RegisterSet}
use Rattle.duk_reversal.specs.Authentic.{reversal_of, reversal_reply_under}
use Rattle.duk_reversal.specs.Reversal.{IsReversal}
use Rattle.duk_reversal.specs.declared.reversal.Reversal as reversal_frame
use Rattle.duk_term.specs.Begin.{pending_of}
use Rattle.duk_term.specs.Reversal.{IsReversalBegun, numbers_of}
use Rattle.duk_term.specs.Terminal.{serial_of}
use Rattle.duk_term.specs.declared.state.Pending.{Pending}
use Rattle.duk_term.specs.declared.state.State.TheVariants.{Loaded}
use Rattle.duk_till.specs.Reversal.{IsTillReversing, TillReverseRefused}
use Rattle.duk_till.specs.Till.{IsAtRest, IsOpen, TillOf}
use Rattle.duk_till.specs.declared.fault.TillFault.{TillFault}
use Rattle.duk_till.specs.declared.fault.TillFault.TheVariants as fault
use Rattle.duk_till.specs.declared.last.Last.{Last}
use Rattle.duk_till.specs.declared.last.Last.TheVariants.{Approved, Declined, Open, Undone}
use Rattle.duk_till.specs.declared.state.TillState.TheVariants.{Running}
use Rattle.duk_tree.specs.Derivation.{initial_key_of, response_key_of, transaction_key_of}
use Rattle.duk_tree.specs.Serial.{IsSerial, Serial, iksn_prefix_of, prefix_of}
use Rattle.duk_books.specs.Books.{BooksOf, Frame, Meanings}
use Rattle.duk_stations.specs.Places.{IsAt}
use Rattle.duk_books.specs.Calm.{IsCalmAt, ReportsArming}
use Rattle.duk_books.specs.Down.{ReachesTill}
use Rattle.duk_books.specs.NoUsedKey.{InEachTill, OwnsAboveUsed}
use Rattle.duk_books.specs.OwnKeyOfRequests.{IsOwnKeySent}
use Rattle.duk_books.specs.Reached.{Reached}
use Rattle.duk_books.specs.Reverse.{Reverses}
use Rattle.duk_books.specs.Run.{Run}
use Rattle.duk_books.specs.Step.{Step}
use Rattle.duk_books.specs.StolenTill.{HasMemory, WaitsWithItsReplyKey}
use Rattle.duk_books.specs.Up.{ReachesHost}
use Rattle.duk_books.specs.WayOut.{HasWayOut, IsAtRestAt, IsOpenAt, IsUndoneAt, ReportsNoWear, way_out_of}
use Rattle.duk_books.specs.declared.event.End.{End}
use Rattle.duk_books.specs.declared.event.End.TheVariants as ends
use Rattle.duk_books.specs.declared.event.Event.TheVariants as event
use Rattle.duk_books.specs.declared.outcome.Outcome.{Outcome}
use Rattle.duk_books.specs.declared.outcome.Outcome.TheVariants as came
use Rattle.duk_books.proofs.accepted.ListsOfOutcomes.{any_of}
use Rattle.duk_books.proofs.agreement.QuietCalls.{not_open_at_rest}
use Rattle.duk_books.proofs.calm_stores.CalmStores.{reached_facts}
use Rattle.duk_books.proofs.calm_stores.KnownStores.{StoreLaws}
use Rattle.duk_books.proofs.moves.ReachedByMoves.{reached_step}
use Rattle.duk_stations.proofs.PlacesInLists.{at_contains}
use Rattle.duk_books.proofs.way_out.HostReverses.{RepliesTo, replies_to}
use Rattle.duk_books.proofs.way_out.NewNumber.{next_is_new}
use Rattle.duk_books.proofs.way_out.OpenIsUsed.{reached_open}
use Rattle.duk_books.proofs.way_out.RunsFirst.{run_ends, runs_first}
use Rattle.duk_books.proofs.way_out.TillReverses.{ReplyReading, SendsReversal, one_open, sends, undoes}
use Rattle.duk_books.proofs.way_out.Ups.{AreUp, GoesUp, goes_up, now_at, one_at, some_is}

-- what is known of stores, of keys and of how answers are read
pub record WayLaws {C B J I : Type 0} (m : Meanings C B J I) : Type 0 where
  pub stores : StoreLaws m
  pub reading : ReplyReading
  pub above_used : (books : BooksOf C B J I) → Reached m books → InEachTill m (OwnsAboveUsed books.host.keys books.requests books.owners) books.tills
  pub own : (books : BooksOf C B J I) → Reached m books → All (IsOwnKeySent books.host.keys) books.requests
  pub waits : (books : BooksOf C B J I) (set : RegisterSet) (pending : Pending) → Reached m books → HasMemory books.tills (Loaded set (Some pending)) → WaitsWithItsReplyKey books.host.keys set pending
  pub prefixes : (ksn : Serial) → IsSerial ksn → prefix_of ksn ≡ iksn_prefix_of ksn.iksn

-- ---- the next frame

next_in : {A : Type 0} (things : List A) (thing : A) → slice_get (things ++ thing ∷ []) (length things) ≡ Some thing
next_in [] thing = refl
next_in (first ∷ things) thing = next_in things thing

-- the frame that is sent next
pub next_at : {A : Type 0} (old new : List A) (thing : A) → new ≡ old ++ thing ∷ [] → IsAt new (length old + 1) thing
next_at old new thing is = record { place = length old; number_is = refl; thing_is = subst (λ list. slice_get list (length old) ≡ Some thing) (sym is) (next_in old thing) }

-- there is none yet
none_next : {A : Type 0} (things : List A) (thing : A) → ¬ IsAt things (length things + 1) thing
none_next things thing at = omega (arith, at.number_is, slice_get_within things at.place thing at.thing_is)

-- ---- neither armed

reverses_unarmed : {C B J I : Type 0} (m : Meanings C B J I) (old : BooksOf C B J I) (t : ℕ) (outcome : Outcome) (new : BooksOf C B J I) (end : End) → Reverses m old t outcome new → ¬ ReportsArming end outcome
reverses_unarmed m old t (came.Armed armed steps) new end is reports = is
reverses_unarmed m old t _ new end is reports = reports

pub reaches_unarmed : {C B J I : Type 0} (m : Meanings C B J I) (old : BooksOf C B J I) (k : ℕ) (outcome : Outcome) (new : BooksOf C B J I) (end : End) → ReachesHost m old k outcome new → ¬ ReportsArming end outcome
reaches_unarmed m old k (came.Armed armed steps) new end is reports = is.says
reaches_unarmed m old k _ new end is reports = reports

-- ---- the reply key

-- a terminal waits with the key under which the host replies
same_reply_key : ((ksn : Serial) → IsSerial ksn → prefix_of ksn ≡ iksn_prefix_of ksn.iksn) → (keys : HsmKeys) (set : RegisterSet) (pending : Pending) (key : List ℕ) → IsSerial pending.ksn → WaitsWithItsReplyKey keys set pending
    → IsTransactionKey keys pending.ksn key → response_key_of key ≡ pending.response_key
same_reply_key prefixes keys set pending key serial waits is =
    let initial = waits.initial_is in
    let iksn : pending.ksn.iksn ≡ set.iksn = waits.used.same_iksn in
    let held : key_set_of keys (prefix_of pending.ksn) ≡ Some initial.bdk =
    ap (key_set_of keys) (prefixes pending.ksn serial ∙ ap iksn_prefix_of iksn) ∙ initial.held in
    let bdk : is.bdk ≡ initial.bdk = some_is is.bdk initial.bdk (sym is.held ∙ held) in
    let own : key ≡ transaction_key_of waits.initial set.iksn pending.ksn.counter =
    is.key_is
    ∙ ap (λ it. transaction_key_of (initial_key_of it pending.ksn.iksn) pending.ksn.iksn pending.ksn.counter) bdk
    ∙ ap (λ it. transaction_key_of (initial_key_of initial.bdk it) it pending.ksn.counter) iksn
    ∙ ap (λ it. transaction_key_of it set.iksn pending.ksn.counter) (sym initial.initial_is) in
    ap response_key_of own ∙ sym waits.key_is

-- ---- an open purchase is undone

module _ {C B J I : Type 0} (m : Meanings C B J I) (laws : WayLaws m) (old : BooksOf C B J I) (t : ℕ) (up : AreUp m old t) (ksn : Serial) (amount : ℕ) (is_open : IsOpen up.till.state ksn amount)
    (sent replied new : BooksOf C B J I) (first second third : Outcome)
    (reverse : Step m old (event.Reverse t) first sent) (reach : Step m sent (event.Up (length old.requests + 1)) second replied) (deliver : Step m replied (event.Down (length old.answers + 1) t) third new)
    (first_unworn : ReportsNoWear first) (third_unworn : ReportsNoWear third) where
  first_calm : (end : End) → IsCalmAt m sent end
  first_calm end = (reached_facts m laws.stores old (event.Reverse t) first sent up.reached reverse).calm end (up.calm end) (reverses_unarmed m old t first sent end reverse)

  sent_reached : Reached m sent
  sent_reached = reached_step m old sent (event.Reverse t) first up.reached reverse

  replied_reached : Reached m replied
  replied_reached = reached_step m sent replied (event.Up (length old.requests + 1)) second sent_reached reach

  second_calm : (end : End) → IsCalmAt m replied end
  second_calm end = (reached_facts m laws.stores sent (event.Up (length old.requests + 1)) second replied sent_reached reach).calm end (first_calm end) (reaches_unarmed m sent (length old.requests + 1) second replied end reach)

  -- the till sends
  it_sends : SendsReversal m old t sent
  it_sends =
      sends m up.till ksn amount is_open ((reached_open m laws.stores.books old up.reached).uses t up.till up.at) up.number up.cell_runs old sent t up.at first reverse (record {
        device = (reached_facts m laws.stores old (event.Reverse t) first sent up.reached reverse).device (ends.Terminal t) (up.calm (ends.Terminal t));
        worn = first_unworn (ends.Terminal t);
      })

  abbrev frame : Frame
  frame = it_sends.sent.begun.frame

  abbrev after : TillOf C B
  after = it_sends.sent.till.after

  same_till : it_sends.sent.till.before ≡ up.till
  same_till = one_at old.tills t it_sends.sent.till.before up.till (record { place = it_sends.sent.till.place; number_is = it_sends.sent.till.number_is; thing_is = it_sends.sent.till.was }) up.at

  reversing : IsTillReversing m.cell it_sends.sent.begun.ksn frame.items up.till after
  reversing = subst (λ (it : TillOf C B). IsTillReversing m.cell it_sends.sent.begun.ksn frame.items it after) same_till it_sends.sent.till.changed

  begins : IsReversalBegun m.cell reversing.reversed it_sends.sent.begun.ksn frame.items up.till.terminal after.terminal
  begins = reversing.terminal

  abbrev reversal : reversal_frame.Reversal
  reversal = reversal_of begins.key (numbers_of begins.set reversing.reversed)

  is_reversal : IsReversal frame.items reversal
  is_reversal = laws.stores.books.reversal reversing.reversed it_sends.sent.begun.ksn frame.items up.till.terminal after.terminal begins

  requests_are : sent.requests ≡ old.requests ++ frame ∷ []
  requests_are = ap (λ (books : BooksOf C B J I). books.requests) it_sends.sent.rest

  same_host : sent.host ≡ old.host
  same_host = ap (λ (books : BooksOf C B J I). books.host) it_sends.sent.rest

  frame_at : IsAt sent.requests (length old.requests + 1) frame
  frame_at = next_at old.requests sent.requests frame requests_are

  authentic_of : IsOwnKeySent sent.host.keys frame → IsAuthenticReversal sent.host.keys reversal
  authentic_of (inl request) = absurd (laws.stores.books.frames.apart frame.items request.request reversal request.is_request is_reversal)
  authentic_of (inr own) =
      subst (λ (it : reversal_frame.Reversal). IsAuthenticReversal sent.host.keys it) (laws.stores.books.frames.one_reversal frame.items own.reversal reversal own.is_reversal is_reversal) own.authentic

  authentic : IsAuthenticReversal sent.host.keys reversal
  authentic = authentic_of (All-contains (IsOwnKeySent sent.host.keys) sent.requests frame (laws.own sent sent_reached) (at_contains sent.requests (length old.requests + 1) frame frame_at))

  -- its number is new
  is_new : ¬ Contains (used_by up.entries) (serial_of begins.set)
  is_new = next_is_new m laws.stores laws.above_used old up.reached t up.till up.at begins.set begins.left begins.key begins.takes.pending begins.takes.had begins.takes.takes up.entries up.judges

  judges : JudgesBy m.host sent.host up.entries
  judges = subst (λ host. JudgesBy m.host host up.entries) (sym same_host) up.judges

  acceptable : IsReversalAcceptable (basis_of m.host sent.host up.entries) reversal
  acceptable =
      let room : length up.entries < m.host.journal.capacity sent.host.journal = subst (λ host. length up.entries < m.host.journal.capacity host.journal) (sym same_host) up.room in
      record { authentic = authentic; new = is_new; room = omega (arith, room, judges.kept.counted) }

  -- the host replies
  it_replies : RepliesTo sent reversal replied
  it_replies =
      replies_to m laws.stores.books.frames sent replied (length old.requests + 1) frame frame_at up.entries judges reversal is_reversal acceptable second reach
      ((reached_facts m laws.stores sent (event.Up (length old.requests + 1)) second replied sent_reached reach).device ends.Host (first_calm ends.Host))

  -- and the till takes the reply
  abbrev pending : Pending
  pending = pending_of begins.set begins.key

  after_at : IsAt sent.tills t after
  after_at = now_at t _ old.tills sent.tills it_sends.sent.till

  waits : WaitsWithItsReplyKey sent.host.keys begins.left pending
  waits = laws.waits sent begins.left pending sent_reached
      (any_of (λ (till : TillOf C B). till.terminal.state ≡ Loaded begins.left (Some pending)) sent.tills after (at_contains sent.tills t after after_at) begins.state_is)

  same_key : response_key_of it_replies.reply.key ≡ pending.response_key
  same_key = same_reply_key laws.prefixes sent.host.keys begins.left pending it_replies.reply.key is_reversal.fields.numbers_are.ksn_is waits it_replies.reply.key_is

  answer_at : IsAt replied.answers (length old.answers + 1) it_replies.answer
  answer_at = next_at old.answers replied.answers it_replies.answer
      (it_replies.answers ∙ ap (λ (list : List Frame). list ++ it_replies.answer ∷ []) (ap (λ (books : BooksOf C B J I). books.answers) it_sends.sent.rest))

  is_undone : IsUndoneAt new.tills t reversing.reversed
  is_undone =
      undoes m laws.reading after reversing.reversed reversing.amount (reversing.same_book.state_is ∙ reversing.was_open) begins.left pending begins.state_is
      (subst (λ book. (m.book.state_of book).running ≡ true) (sym reversing.same_book.book_is) up.book_runs)
      it_replies.answer it_replies.state is_reversal.fields.numbers_are
      (it_replies.reply.frame_is ∙ ap (λ key. reversal_reply_under key (numbers_of begins.set reversing.reversed) it_replies.state) same_key)
      replied new (length old.answers + 1) t (subst (λ tills. IsAt tills t after) (sym it_replies.tills) after_at) answer_at third deliver (record {
        device = (reached_facts m laws.stores replied (event.Down (length old.answers + 1) t) third new replied_reached deliver).device (ends.Book t) (second_calm (ends.Book t));
        worn = third_unworn (ends.Book t);
      })

  pub open_undone : IsUndoneAt new.tills t ksn
  open_undone = subst (λ (it : Serial). IsUndoneAt new.tills t it) (one_open up.till ksn reversing.reversed amount reversing.amount is_open reversing.was_open) is_undone

-- ---- a till at rest stays so

module _ {C B J I : Type 0} (m : Meanings C B J I) (old : BooksOf C B J I) (t : ℕ) (till : TillOf C B) (at : IsAt old.tills t till) (rest : IsAtRest till.state) where
  -- what a refused reversal leaves of a till at rest
  refused_rests : (then : TillOf C B) (why : TillFault) → TillReverseRefused m.cell till then why → then ≡ till
  refused_rests then fault.Stopped is = is.1
  refused_rests then fault.NothingOpen is = is.1
  refused_rests then (fault.Terminal why) is = absurd (not_open_at_rest till.state is.0.0 is.0.1 rest is.0.2)
  refused_rests then _ is = absurd is

  record Rests (new : BooksOf C B J I) : Type 0 where
    requests : new.requests ≡ old.requests
    answers : new.answers ≡ old.answers
    stays : IsAt new.tills t till

  same_rests : (new : BooksOf C B J I) → new ≡ old → Rests new
  same_rests new same = record {
    requests = ap (λ (books : BooksOf C B J I). books.requests) same;
    answers = ap (λ (books : BooksOf C B J I). books.answers) same;
    stays = subst (λ (books : BooksOf C B J I). IsAt books.tills t till) (sym same) at;
  }

  reverse_rests : (new : BooksOf C B J I) (outcome : Outcome) → Reverses m old t outcome new → Rests new
  reverse_rests new came.NoSuchTill is = same_rests new is.1
  reverse_rests new (came.Reversing u k number reversed) is =
      let change = is.1.till in
      let same : change.before ≡ till = one_at old.tills t change.before till (record { place = change.place; number_is = change.number_is; thing_is = change.was }) at in
      absurd (not_open_at_rest till.state change.changed.reversed change.changed.amount rest
      (subst (λ (it : TillOf C B). IsOpen it.state change.changed.reversed change.changed.amount) same change.changed.was_open))
  reverse_rests new (came.TillFaulted u why) is =
      let change = is.1.till in
      let same : change.before ≡ till = one_at old.tills t change.before till (record { place = change.place; number_is = change.number_is; thing_is = change.was }) at in
      let stays : change.after ≡ till = refused_rests change.after why (subst (λ (it : TillOf C B). TillReverseRefused m.cell it change.after why) same change.changed) in
      record {
        requests = ap (λ (books : BooksOf C B J I). books.requests) is.1.rest;
        answers = ap (λ (books : BooksOf C B J I). books.answers) is.1.rest;
        stays = subst (λ (it : TillOf C B). IsAt new.tills t it) stays (now_at t _ old.tills new.tills change);
      }
  reverse_rests new _ is = absurd is

-- no frame is there for the host, and no answer for the till
up_nothing : {C B J I : Type 0} (m : Meanings C B J I) (old : BooksOf C B J I) (outcome : Outcome) (new : BooksOf C B J I) (k : ℕ) → k ≡ length old.requests + 1 → ReachesHost m old k outcome new → new ≡ old
up_nothing m old came.NoSuchFrame new k past is = is.1
up_nothing m old (came.HostFaulted why) new k past is = absurd (none_next old.requests is.frame (subst (λ it. IsAt old.requests it is.frame) past is.sent))
up_nothing m old (came.Accepted n ksn code) new k past is = absurd (none_next old.requests is.frame (subst (λ it. IsAt old.requests it is.frame) past is.sent))
up_nothing m old (came.Repeated n ksn code) new k past is = absurd (none_next old.requests is.frame (subst (λ it. IsAt old.requests it is.frame) past is.sent))
up_nothing m old (came.Refused n ksn why) new k past is = absurd (none_next old.requests is.frame (subst (λ it. IsAt old.requests it is.frame) past is.sent))
up_nothing m old (came.Reversed n ksn reversed state) new k past is = absurd (none_next old.requests is.frame (subst (λ it. IsAt old.requests it is.frame) past is.sent))
up_nothing m old _ new k past is = absurd is.says

down_nothing : {C B J I : Type 0} (m : Meanings C B J I) (old : BooksOf C B J I) (outcome : Outcome) (new : BooksOf C B J I) (n t : ℕ) → n ≡ length old.answers + 1 → ReachesTill m old n t outcome new → new ≡ old
down_nothing m old outcome new n t past is = elim is [
  | inl none ↦ none.same
  | inr there ↦ elim there [
    | inl missing ↦ missing.same
    | inr delivered ↦ absurd (none_next old.answers delivered.frame (subst (λ it. IsAt old.answers it delivered.frame) past delivered.sent))
  ]
]

rests : {C B J I : Type 0} (m : Meanings C B J I) (old : BooksOf C B J I) (t : ℕ) (till : TillOf C B) → IsAt old.tills t till → IsAtRest till.state → (sent replied new : BooksOf C B J I) (first second third : Outcome)
    → Step m old (event.Reverse t) first sent → Step m sent (event.Up (length old.requests + 1)) second replied → Step m replied (event.Down (length old.answers + 1) t) third new → IsAtRestAt new.tills t
rests {C} {B} {J} {I} m old t till at rest sent replied new first second third reverse reach deliver =
    let one = reverse_rests m old t till at rest sent first reverse in
    let two = up_nothing m sent second replied (length old.requests + 1) (ap (λ list. length list + 1) (sym one.requests)) reach in
    let answers : replied.answers ≡ old.answers = ap (λ (books : BooksOf C B J I). books.answers) two ∙ one.answers in
    let three = down_nothing m replied third new (length old.answers + 1) t (ap (λ list. length list + 1) (sym answers)) deliver in
    record {
      till = till;
      at = subst (λ (books : BooksOf C B J I). IsAt books.tills t till) (sym (three ∙ two)) one.stays;
      rest = rest;
    }

-- ---- the way out

-- a last purchase is open or not
open_or_closed : (last : Option Last) → ((ksn : Serial) × (amount : ℕ) × (last ≡ Some (Open ksn amount))) ⊎ ((ksn : Serial) (amount : ℕ) → last ≢ Some (Open ksn amount))
open_or_closed None = inr (λ ksn amount same. cc)
open_or_closed (Some (Open ksn amount)) = inl (ksn, amount, refl)
open_or_closed (Some (Approved ksn amount)) = inr (λ other more same. cc)
open_or_closed (Some (Declined ksn why)) = inr (λ other more same. cc)
open_or_closed (Some (Undone ksn)) = inr (λ other more same. cc)

undone_rests : {C B : Type 0} (tills : List (TillOf C B)) (t : ℕ) (ksn : Serial) → IsUndoneAt tills t ksn → IsAtRestAt tills t
undone_rests tills t ksn is = record { till = is.till; at = is.at; rest = record { last = Some (Undone ksn); runs = is.state_is; closed = λ other amount same. cc } }

-- how a till leaves the way out
pub record ComesOut {C B J I : Type 0} (m : Meanings C B J I) (old new : BooksOf C B J I) (t : ℕ) : Type 0 where
  pub at_rest : IsAtRestAt new.tills t
  pub undone : (ksn : Serial) → IsOpenAt old.tills t ksn → IsUndoneAt new.tills t ksn

module _ {C B J I : Type 0} (m : Meanings C B J I) (laws : WayLaws m) (old : BooksOf C B J I) (t : ℕ) (reached : Reached m old) (way : HasWayOut m old t)
    (one two three four new : BooksOf C B J I) (a b c d e : Outcome)
    (restart : Step m old (event.RestartTill t) a one) (reopen : Step m one event.RestartHost b two) (reverse : Step m two (event.Reverse t) c three)
    (reach : Step m three (event.Up (length old.requests + 1)) d four) (deliver : Step m four (event.Down (length old.answers + 1) t) e new) (c_unworn : ReportsNoWear c) (e_unworn : ReportsNoWear e) where
  goes : GoesUp m old two t way
  goes = goes_up m laws.stores old t reached way one two a b restart reopen

  requests : length old.requests + 1 ≡ length two.requests + 1
  requests = ap (λ list. length list + 1) (sym goes.requests)

  answers : length old.answers + 1 ≡ length two.answers + 1
  answers = ap (λ list. length list + 1) (sym goes.answers)

  reach_two : Step m three (event.Up (length two.requests + 1)) d four
  reach_two = subst (λ k. Step m three (event.Up k) d four) requests reach

  deliver_two : Step m four (event.Down (length two.answers + 1) t) e new
  deliver_two = subst (λ n. Step m four (event.Down n t) e new) answers deliver

  ends_undone : (ksn : Serial) (amount : ℕ) → goes.up.last ≡ Some (Open ksn amount) → IsUndoneAt new.tills t ksn
  ends_undone ksn amount is =
      open_undone m laws two t goes.up ksn amount (goes.up.runs ∙ ap Running is) three four new c d e reverse reach_two deliver_two c_unworn e_unworn

  comes_out : ComesOut m old new t
  comes_out = record {
    at_rest = elim (open_or_closed goes.up.last) [
      | inl (ksn, amount, is) ↦ undone_rests new.tills t ksn (ends_undone ksn amount is)
      | inr closed ↦ rests m two t goes.up.till goes.up.at (record { last = goes.up.last; runs = goes.up.runs; closed = closed }) three four new c d e reverse reach_two deliver_two
    ];
    undone = λ ksn is.
        let same : is.till ≡ way.number.till = one_at old.tills t is.till way.number.till is.at way.number.at in
        ends_undone ksn is.amount (goes.finds_open ksn is.amount (subst (λ (it : TillOf C B). IsOpen it.state ksn is.amount) same is.is_open));
  }

same_end : {C B J I : Type 0} (m : Meanings C B J I) (old mid new : BooksOf C B J I) (t : ℕ) → new ≡ mid → ComesOut m old mid t → ComesOut m old new t
same_end {C} {B} {J} {I} m old mid new t same is = subst (λ (it : BooksOf C B J I). ComesOut m old it t) (sym same) is

pub way_out : {C B J I : Type 0} (m : Meanings C B J I) → WayLaws m → (old new : BooksOf C B J I) (t : ℕ) (outcomes : List Outcome) → Reached m old → HasWayOut m old t → Run m old (way_out_of old t) outcomes new
    → All ReportsNoWear outcomes → ComesOut m old new t
way_out {C} {B} {J} {I} m laws old new t outcomes reached way run unworn =
    let up = event.Up (length old.requests + 1) in
    let down = event.Down (length old.answers + 1) t in
    let a = runs_first m old new (event.RestartTill t) (event.RestartHost ∷ event.Reverse t ∷ up ∷ down ∷ []) outcomes run unworn in
    let b = runs_first m a.mid new event.RestartHost (event.Reverse t ∷ up ∷ down ∷ []) a.others a.rest a.all_unworn in
    let c = runs_first m b.mid new (event.Reverse t) (up ∷ down ∷ []) b.others b.rest b.all_unworn in
    let d = runs_first m c.mid new up (down ∷ []) c.others c.rest c.all_unworn in
    let e = runs_first m d.mid new down [] d.others d.rest d.all_unworn in
    same_end m old e.mid new t (run_ends m e.mid new e.others e.rest).0
    (comes_out m laws old t reached way a.mid b.mid c.mid d.mid e.mid a.outcome b.outcome c.outcome d.outcome e.outcome a.step b.step c.step d.step e.step c.unworn e.unworn)
