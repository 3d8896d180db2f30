-- The host keeps what it replied to, and has one reply to each number.
use Rattle.std.proofs.Common.{◌≡◌, ◌++◌, ◌∷◌, [], ℕ, List, All, Contains, get_or, take, inl, inr, sym, ap, subst, ◌∙◌}
use Rattle.std.proofs.lemmas.List.Elements.{All-nil, Contains-get_or, Contains-push_cases}
use Rattle.duk_frame.specs.declared.code.Code.{Code}
use Rattle.duk_host.specs.Judgement.{IsReplyWith}
use Rattle.duk_host.specs.Lifetime.{AcceptsNumber}
use Rattle.duk_hsm.specs.Keys.{HsmKeys}
use Rattle.duk_journal.specs.Groups.{Entries}
use Rattle.duk_journal.specs.Standing.{UseNewNumbers}
use Rattle.duk_journal_host.specs.Group.{AnswersFrames}
use Rattle.duk_journal_host.specs.Host.{basis_of}
use Rattle.duk_journal_host.specs.Judged.{AreJudged, IsReplyOf, IsReversalReplyOf, TellsReversal}
use Rattle.duk_journal_host.specs.Judgement.{LineBasis}
use Rattle.duk_reversal.specs.Numbers.{Numbers}
use Rattle.duk_reversal.specs.declared.state.ReversalState.{ReversalState}
use Rattle.duk_tree.specs.Serial.{Serial}
use Rattle.duk_books.specs.AcceptedOnce.{HaveOneReply, KeepWhatWasReplied, KeepsAccepted}
use Rattle.duk_books.specs.Agree.{AreEntriesOf}
use Rattle.duk_books.specs.Books.{BooksOf, Frame, Meanings}
use Rattle.duk_books.specs.First.{IsFirst}
use Rattle.duk_books.specs.OwnKeyOfReplies.{IsOwnKeyReply}
use Rattle.duk_books.specs.Reached.{Reached}
use Rattle.duk_books.specs.inner.Known.{HostLaws}
use Rattle.duk_books.proofs.agreement.Facts.{none_in, the_one}
use Rattle.duk_books.proofs.agreement.HostHolds.{code_kept, none_new, reply_is_kept}
use Rattle.duk_books.proofs.moves.HostFinds.{HostFinds, answered_by, answered_finds, judged_finds, refused_finds, touched_finds}
use Rattle.duk_books.proofs.moves.KeysStay.{refused_keys, touched_keys}
use Rattle.duk_books.proofs.moves.ReachedByMoves.{reached_all}
use Rattle.duk_books.proofs.moves.StepChanges.{Change, answered, host, load, move_change, nothing, quiet, reverse, send, tell, unanswered}

-- what is known of replies
pub record ReplyLaws : Type 0 where
  pub host : HostLaws
  pub longer : (keys : HsmKeys) (entries added : Entries) (ksn : Serial) (frame : List ℕ) → IsReplyOf keys entries ksn frame → IsReplyOf keys (entries ++ added) ksn frame
  pub reversal_longer : (keys : HsmKeys) (entries added : Entries) (numbers : Numbers) (state : ReversalState) (frame : List ℕ) → IsReversalReplyOf keys entries numbers state frame
      → IsReversalReplyOf keys (entries ++ added) numbers state frame
  pub equal : (keys : HsmKeys) (entries : Entries) (ksn : Serial) (one other : List ℕ) → UseNewNumbers entries → IsReplyOf keys entries ksn one → IsReplyOf keys entries ksn other → one ≡ other
  pub reversal_equal : (keys : HsmKeys) (entries : Entries) (numbers others : Numbers) (state told : ReversalState) (one other : List ℕ) → UseNewNumbers entries → numbers.ksn ≡ others.ksn
      → IsReversalReplyOf keys entries numbers state one → IsReversalReplyOf keys entries others told other → one ≡ other
  pub one_kind : (keys : HsmKeys) (entries : Entries) (numbers : Numbers) (state : ReversalState) (one other : List ℕ) → UseNewNumbers entries → IsReplyOf keys entries numbers.ksn one
      → ¬ IsReversalReplyOf keys entries numbers state other

-- each entry of a list used a new number, and each of these answers that is a reply is that to an
-- entry of it
pub record RepliesHold (keys : HsmKeys) (answers : List Frame) (entries : Entries) : Type 0 where
  pub new_numbers : UseNewNumbers entries
  pub payments : (ksn : Serial) (frame : Frame) → Contains answers frame → AcceptsNumber ksn frame.items → IsReplyOf keys entries ksn frame.items
  pub reversals : (numbers : Numbers) (state : ReversalState) (frame : Frame) → Contains answers frame → TellsReversal numbers state frame.items → IsReversalReplyOf keys entries numbers state frame.items

-- frames with the same bytes are one
same_frame : (one other : Frame) → one.items ≡ other.items → one ≡ other
same_frame one other same = ap (λ (bytes : List ℕ). record { items = bytes }) same

-- without answers there is nothing to keep
no_replies : (keys : HsmKeys) (answers : List Frame) → answers ≡ [] → RepliesHold keys answers []
no_replies keys answers none = record {
  new_numbers = none_new;
  payments = λ ksn frame sent. absurd (none_in frame (subst (λ list. Contains list frame) none sent));
  reversals = λ numbers state frame sent. absurd (none_in frame (subst (λ list. Contains list frame) none sent));
}

module _ (laws : ReplyLaws) where
  -- more entries
  more_entries : (keys : HsmKeys) (answers : List Frame) (entries added : Entries) → UseNewNumbers (entries ++ added) → RepliesHold keys answers entries → RepliesHold keys answers (entries ++ added)
  more_entries keys answers entries added new holds = record {
    new_numbers = new;
    payments = λ ksn frame sent is. laws.longer keys entries added ksn frame.items (holds.payments ksn frame sent is);
    reversals = λ numbers state frame sent is. laws.reversal_longer keys entries added numbers state frame.items (holds.reversals numbers state frame sent is);
  }

  -- one more answer
  one_more : (answers : List Frame) (basis : LineBasis) (frame : List ℕ) (answer : Frame) (added : Entries) → AreJudged basis (frame ∷ []) (answer.items ∷ []) added → RepliesHold basis.keys answers basis.entries
      → RepliesHold basis.keys (answers ++ answer ∷ []) (basis.entries ++ added)
  one_more answers basis frame answer added judged holds =
      let more = more_entries basis.keys answers basis.entries added (laws.host.new_numbers basis (frame ∷ []) (answer.items ∷ []) added judged holds.new_numbers) holds in
      let given = laws.host.replies basis (frame ∷ []) (answer.items ∷ []) added judged in
      record {
        new_numbers = more.new_numbers;
        payments = λ ksn it sent is. elim (Contains-push_cases answers answer it sent) [
          | inl before ↦ more.payments ksn it before is
          | inr here ↦ subst (λ (it : Frame). IsReplyOf basis.keys (basis.entries ++ added) ksn it.items) here
              (given.0 answer.items ksn (the_one answer.items) (subst (λ (it : Frame). AcceptsNumber ksn it.items) (sym here) is))
        ];
        reversals = λ numbers state it sent is. elim (Contains-push_cases answers answer it sent) [
          | inl before ↦ more.reversals numbers state it before is
          | inr here ↦ subst (λ (it : Frame). IsReversalReplyOf basis.keys (basis.entries ++ added) numbers state it.items) here
              (given.1 answer.items numbers state (the_one answer.items) (subst (λ (it : Frame). TellsReversal numbers state it.items) (sym here) is))
        ];
      }

  -- ---- what follows

  have_one_reply : (keys : HsmKeys) (answers : List Frame) (entries : Entries) → RepliesHold keys answers entries → HaveOneReply answers
  have_one_reply keys answers entries holds = record {
    payment = λ ksn one other in_one in_other is also.
        same_frame one other (laws.equal keys entries ksn one.items other.items holds.new_numbers (holds.payments ksn one in_one is) (holds.payments ksn other in_other also));
    reversal = λ ksn one other in_one in_other is also.
        same_frame one other (laws.reversal_equal keys entries is.0 also.0 is.1 also.1 one.items other.items holds.new_numbers (is.2 ∙ sym also.2)
        (holds.reversals is.0 is.1 one in_one is.3) (holds.reversals also.0 also.1 other in_other also.3));
    one_kind = λ ksn one other in_one in_other is also.
        laws.one_kind keys entries also.0 also.1 one.items other.items holds.new_numbers
        (holds.payments also.0.ksn one in_one (subst (λ (it : Serial). AcceptsNumber it one.items) (sym also.2) is)) (holds.reversals also.0 also.1 other in_other also.3);
  }

  own_key : (keys : HsmKeys) (answers : List Frame) (entries : Entries) (frame : Frame) → RepliesHold keys answers entries → Contains answers frame → IsOwnKeyReply keys frame
  own_key keys answers entries frame holds sent = record {
    payment = λ ksn code mac reply.
        let is = holds.payments ksn frame sent (code, (mac, reply)) in
        subst (λ (it : Code). IsReplyWith keys ksn it frame.items) (code_kept laws.host keys entries frame.items ksn code mac reply is) is.reply;
    reversal = λ numbers state reply. (holds.reversals numbers state frame sent reply).reply;
  }

  own_keys : (keys : HsmKeys) (answers : List Frame) (entries : Entries) → RepliesHold keys answers entries → All (IsOwnKeyReply keys) answers
  own_keys keys answers entries holds place frame within = own_key keys answers entries (get_or answers place frame) holds (Contains-get_or answers place frame within)

  keep_replied : (keys : HsmKeys) (answers : List Frame) (entries : Entries) → RepliesHold keys answers entries → KeepWhatWasReplied answers entries
  keep_replied keys answers entries holds = record {
    payments = λ ksn code has. reply_is_kept laws.host keys entries has.frame ksn code has.mac has.reply (holds.payments ksn has.frame has.sent (code, (has.mac, has.reply)));
    reversals = λ numbers state has. let is = holds.reversals numbers state has.frame has.sent has.reply in record { mac = is.mac; kept = is.kept };
  }

-- ---- in all that is reached

pub record RepliesSafe {C B J I : Type 0} (m : Meanings C B J I) (books : BooksOf C B J I) : Type 0 where
  pub host : HostFinds m.host (RepliesHold books.host.keys books.answers) books.host
  pub one : HaveOneReply books.answers
  pub own : All (IsOwnKeyReply books.host.keys) books.answers

module _ {C B J I : Type 0} (m : Meanings C B J I) (laws : ReplyLaws) (old : BooksOf C B J I) (safe : RepliesSafe m old) where
  -- the host goes on, and gives no answer
  with_host : (new : BooksOf C B J I) → new.host.keys ≡ old.host.keys → HostFinds m.host (RepliesHold old.host.keys old.answers) new.host → RepliesSafe m (record old { host = new.host })
  with_host new keys now = record {
    host = subst (λ (it : HsmKeys). HostFinds m.host (RepliesHold it old.answers) new.host) (sym keys) now;
    one = safe.one;
    own = subst (λ (it : HsmKeys). All (IsOwnKeyReply it) old.answers) (sym keys) safe.own;
  }

  answered_safe : (new : BooksOf C B J I) (frame answer : Frame) → AnswersFrames m.host (frame.items ∷ []) old.host new.host (answer.items ∷ []) → RepliesSafe m (record old { host = new.host; answers = old.answers ++ answer ∷ [] })
  answered_safe new frame answer is =
      let after = old.answers ++ answer ∷ [] in
      let more = λ (by added : Entries) (judged : AreJudged (basis_of m.host old.host by) (frame.items ∷ []) (answer.items ∷ []) added) (hold : RepliesHold old.host.keys old.answers by).
      one_more laws old.answers (basis_of m.host old.host by) frame.items answer added judged hold in
      let by = answered_by m.host (RepliesHold old.host.keys old.answers) (RepliesHold old.host.keys after) frame.items answer.items old.host new.host safe.host more is in
      let now = answered_finds m.host (RepliesHold old.host.keys old.answers) (RepliesHold old.host.keys after) frame.items answer.items old.host new.host safe.host more is in
      record {
        host = subst (λ (it : HsmKeys). HostFinds m.host (RepliesHold it after) new.host) (sym is.ends.keys) now;
        one = have_one_reply laws old.host.keys after by.0 by.2;
        own = subst (λ (it : HsmKeys). All (IsOwnKeyReply it) after) (sym is.ends.keys) (own_keys laws old.host.keys after by.0 by.2);
      }

  safe_after : (new : BooksOf C B J I) → Change m old new → RepliesSafe m new
  safe_after new (nothing same) = subst (λ books. RepliesSafe m books) (sym same) safe
  safe_after new (quiet t call is change rest) = subst (λ books. RepliesSafe m books) (sym rest) (record { host = safe.host; one = safe.one; own = safe.own })
  safe_after new (load t iksn outcome is) = subst (λ books. RepliesSafe m books) (sym is.rest) (record { host = safe.host; one = safe.one; own = safe.own })
  safe_after new (send t purchase it change rest) = subst (λ books. RepliesSafe m books) (sym rest) (record { host = safe.host; one = safe.one; own = safe.own })
  safe_after new (reverse t it sent is_reversal change rest) = subst (λ books. RepliesSafe m books) (sym rest) (record { host = safe.host; one = safe.one; own = safe.own })
  safe_after new (tell t call telling change takes rest) = subst (λ books. RepliesSafe m books) (sym rest) (record { host = safe.host; one = safe.one; own = safe.own })
  safe_after new (answered frame answer sent is rest) = subst (λ books. RepliesSafe m books) (sym rest) (answered_safe new frame answer is)
  safe_after new (unanswered frame answers why sent is rest) =
      subst (λ books. RepliesSafe m books) (sym rest) (with_host new (refused_keys m.host (frame.items ∷ []) old.host new.host answers why is)
      (refused_finds m.host (RepliesHold old.host.keys old.answers) frame.items old.host new.host safe.host
      (λ by count given added judged hold. more_entries laws old.host.keys old.answers by added (laws.host.new_numbers (basis_of m.host old.host by) (take count (frame.items ∷ [])) given added judged hold.new_numbers) hold) answers why is))
  safe_after new (host touches rest) =
      subst (λ books. RepliesSafe m books) (sym rest) (with_host new (touched_keys m old.host new.host touches) (touched_finds m (RepliesHold old.host.keys old.answers) old.host new.host safe.host touches))

first_safe : {C B J I : Type 0} (m : Meanings C B J I) (books : BooksOf C B J I) → IsFirst m books → RepliesSafe m books
first_safe m books is = record {
  host = record {
    honest = is.host.journal.honest;
    entries = λ entries found. subst (λ (it : Entries). RepliesHold books.host.keys books.answers it) (sym ((is.host.journal.finds entries).0 found)) (no_replies books.host.keys books.answers is.no_answers);
    runs = inl is.host.stopped;
  };
  one = record {
    payment = λ ksn one other in_one. absurd (none_in one (subst (λ list. Contains list one) is.no_answers in_one));
    reversal = λ ksn one other in_one. absurd (none_in one (subst (λ list. Contains list one) is.no_answers in_one));
    one_kind = λ ksn one other in_one. absurd (none_in one (subst (λ list. Contains list one) is.no_answers in_one));
  };
  own = subst (All (IsOwnKeyReply books.host.keys)) (sym is.no_answers) (All-nil (IsOwnKeyReply books.host.keys));
}

pub reached_safe : {C B J I : Type 0} (m : Meanings C B J I) (laws : ReplyLaws) (books : BooksOf C B J I) → Reached m books → RepliesSafe m books
reached_safe {C} {B} {J} {I} m laws books reached =
    reached_all m (λ (it : BooksOf C B J I). RepliesSafe m it) (first_safe m) (λ old new was moves. safe_after m laws old was new (move_change m old new moves)) books reached

-- the entries by which the host judges, or which a restart may find
pub entries_safe : {C B J I : Type 0} (m : Meanings C B J I) (books : BooksOf C B J I) (entries : Entries) → RepliesSafe m books → AreEntriesOf m books entries → RepliesHold books.host.keys books.answers entries
entries_safe m books entries safe (inl judges) = judged_finds m.host (RepliesHold books.host.keys books.answers) books.host entries safe.host judges
entries_safe m books entries safe (inr found) = safe.host.entries entries found

pub keeps_accepted : {C B J I : Type 0} (m : Meanings C B J I) (laws : ReplyLaws) (books : BooksOf C B J I) → Reached m books → KeepsAccepted m books
keeps_accepted m laws books reached =
    let safe = reached_safe m laws books reached in
    record {
      new_numbers = λ entries are. (entries_safe m books entries safe are).new_numbers;
      kept = λ entries are. keep_replied laws books.host.keys books.answers entries (entries_safe m books entries safe are);
    }
