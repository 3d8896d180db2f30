-- A till's book keeps nothing but last purchases, whatever is called.
use Rattle.std.proofs.Common.{◌≡◌, ◌⊎◌, inl, inr, ℕ, List, Option, Some, None, IfSome, Ok, Err, refl, subst, sym, ◌∙◌}
use Rattle.duk_store.specs.Cell.{CellMeaning, IsPut, Kept, PutFailed}
use Rattle.duk_store.specs.declared.fault.StoreFault.{StoreFault}
use Rattle.duk_term.specs.declared.answer.Answer.TheVariants as answer
use Rattle.duk_term.specs.declared.answer.ReversalAnswer.TheVariants as reversal
use Rattle.duk_term.specs.declared.purchase.Purchase.{Purchase}
use Rattle.duk_till.specs.Begin.{TillBeginRefused, opened}
use Rattle.duk_till.specs.Image.{kept_of, last_bytes}
use Rattle.duk_till.specs.Last.{AreLastFields, outcome_of}
use Rattle.duk_till.specs.Lifetime.{ArmBook, ArmTerminal, Begin, Call, IsCalled, Load, Reply, Restart, Reverse, ReversalReply, Stop}
use Rattle.duk_till.specs.Load.{TillLoadRefused}
use Rattle.duk_till.specs.Reply.{TillReplyRefused}
use Rattle.duk_till.specs.Restart.{BookRestartFailed, IsTillRestarted, TillRestartRefused}
use Rattle.duk_till.specs.Reversal.{TillReversalReplyRefused, TillReverseRefused}
use Rattle.duk_till.specs.Till.{SameBook, TillOf}
use Rattle.duk_till.specs.declared.fault.TillFault.{TillFault}
use Rattle.duk_till.specs.declared.fault.TillFault.TheVariants as fault
use Rattle.duk_till.specs.declared.last.Last.{Last}
use Rattle.duk_till.specs.declared.last.Last.TheVariants.{Open, Undone}
use Rattle.duk_till.specs.declared.state.TillState.TheVariants.{Stopped, Running}
use Rattle.duk_books.specs.Images.{IsNothingOrLast}
use Rattle.duk_books.proofs.agreement.QuietCalls.{begun_fields}
use Rattle.duk_stations.specs.Registers.{RegisterLaws}
use Rattle.duk_books.proofs.agreement.TellingCalls.{outcome_fields}
use Rattle.duk_stations.proofs.Terminals.{found_then, stays_honest}
use Rattle.duk_books.proofs.agreement.Tills.{same_last, stopped_is_not_running}

-- the last purchase of a running till has fields as their names say, and so has each that its book may
-- find
pub record HasLasts {C B : Type 0} (book : CellMeaning B) (till : TillOf C B) : Type 0 where
  pub honest : (book.state_of till.book).honest
  pub runs : (last : Option Last) → till.state ≡ Running last → IfSome last AreLastFields
  pub found : (kept : Kept) → (book.state_of till.book).found kept → IsNothingOrLast kept

of_last : (last : Option Last) → IfSome last AreLastFields → IsNothingOrLast (kept_of last)
of_last None fields = tt
of_last (Some last) fields = (last, record { fields = fields; laid_out = refl })

same_some : (one other : Last) → Some one ≡ Some other → one ≡ other
same_some one other same = cc

module _ {C B : Type 0} (laws : RegisterLaws) (cell : CellMeaning C) (book : CellMeaning B) where
  abbrev Has : TillOf C B → Type 0
  Has till = HasLasts book till

  same_till : (old new : TillOf C B) → Has old → new ≡ old → Has new
  same_till old new has is = subst (λ (it : TillOf C B). Has it) (sym is) has

  -- the book may find no more than it did, and the till goes on as it was or stops
  no_more : (old new : TillOf C B) → Has old → (book.state_of new.book).honest → ((kept : Kept) → (book.state_of new.book).found kept → (book.state_of old.book).found kept)
      → (new.state ≡ old.state) ⊎ (new.state ≡ Stopped) → Has new
  no_more old new has honest fewer state = record {
    honest = honest;
    runs = λ last runs. elim state [
      | inl same ↦ has.runs last (sym same ∙ runs)
      | inr stopped ↦ absurd (stopped_is_not_running new.state last stopped runs)
    ];
    found = λ kept found. has.found kept (fewer kept found);
  }

  with_book : (old new : TillOf C B) → Has old → new.book ≡ old.book → (new.state ≡ old.state) ⊎ (new.state ≡ Stopped) → Has new
  with_book old new has same state =
      no_more old new has (subst (λ (it : B). (book.state_of it).honest) (sym same) has.honest) (λ kept found. subst (λ (it : B). (book.state_of it).found kept) same found) state

  same_book : (old new : TillOf C B) → Has old → SameBook old new → Has new
  same_book old new has same = with_book old new has same.book_is (inl same.state_is)

  -- it keeps this alone
  keeps_alone : (new : TillOf C B) (last : Option Last) → (book.state_of new.book).honest → ((kept : Kept) → (book.state_of new.book).found kept → kept ≡ kept_of last) → new.state ≡ Running last
      → IfSome last AreLastFields → Has new
  keeps_alone new last honest only runs fields = record {
    honest = honest;
    runs = λ other also. subst (λ (it : Option Last). IfSome it AreLastFields) (same_last new.state last other runs also) fields;
    found = λ kept found. subst IsNothingOrLast (sym (only kept found)) (of_last last fields);
  }

  is_put : (old : B) (new : TillOf C B) (last : Last) → (book.state_of old).honest → IsPut book old new.book (last_bytes last) → new.state ≡ Running (Some last) → AreLastFields last → Has new
  is_put old new last honest put runs fields =
      keeps_alone new (Some last) (put.settles.nature.honest.0 honest) (λ kept found. (put.settles.finds honest kept).0 found) runs fields

  -- it does not keep it
  is_not_put : (old : B) (new : TillOf C B) (last : Last) (why : StoreFault) → (book.state_of old).honest → ((kept : Kept) → (book.state_of old).found kept → IsNothingOrLast kept)
      → PutFailed book old new.book (last_bytes last) why → new.state ≡ Stopped → AreLastFields last → Has new
  is_not_put old new last why honest was failed stopped fields = record {
    honest = stays_honest book old new.book (last_bytes last) why failed honest;
    runs = λ other runs. absurd (stopped_is_not_running new.state other stopped runs);
    found = λ kept found. elim (found_then book old new.book (last_bytes last) why honest failed kept found) [
      | inl before ↦ was kept before
      | inr here ↦ subst IsNothingOrLast (sym here) (of_last (Some last) fields)
    ];
  }

  begin_fails : (purchase : Purchase) (why : TillFault) (old new : TillOf C B) → Has old → TillBeginRefused cell book purchase old new why → Has new
  begin_fails purchase fault.Stopped old new has is = same_till old new has is.1
  begin_fails purchase fault.Open old new has is = same_till old new has is.1
  begin_fails purchase fault.NothingOpen old new has is = absurd is
  begin_fails purchase (fault.Terminal why) old new has is = elim is.1 [
    | inl spent ↦ same_till old new has spent.2
    | inr refused ↦ same_book old new has refused.1
  ]
  begin_fails purchase (fault.Store why) old new has is =
      is_not_put old.book new (opened is.ksn purchase) why has.honest has.found is.not_kept.not_kept is.not_kept.stopped
      (begun_fields laws cell purchase is.ksn is.frame old.terminal new.terminal is.terminal)

  reverse_fails : (why : TillFault) (old new : TillOf C B) → Has old → TillReverseRefused cell old new why → Has new
  reverse_fails fault.Stopped old new has is = same_till old new has is.1
  reverse_fails fault.NothingOpen old new has is = same_till old new has is.1
  reverse_fails (fault.Terminal why) old new has is = same_book old new has is.1
  reverse_fails fault.Open old new has is = absurd is
  reverse_fails (fault.Store why) old new has is = absurd is

  reply_fails : (bytes : List ℕ) (why : TillFault) (old new : TillOf C B) → Has old → TillReplyRefused book bytes old new why → Has new
  reply_fails bytes fault.Stopped old new has is = same_till old new has is.1
  reply_fails bytes fault.Open old new has is = absurd is
  reply_fails bytes fault.NothingOpen old new has is = same_till old new has is.1
  reply_fails bytes (fault.Terminal why) old new has is = same_till old new has is.1
  reply_fails bytes (fault.Store why) old new has is =
      is_not_put old.book new (outcome_of is.ksn is.amount is.code) why has.honest has.found is.not_kept.not_kept is.not_kept.stopped
      (outcome_fields is.ksn is.amount is.code (has.runs (Some (Open is.ksn is.amount)) is.was_open))

  reversal_reply_fails : (bytes : List ℕ) (why : TillFault) (old new : TillOf C B) → Has old → TillReversalReplyRefused book bytes old new why → Has new
  reversal_reply_fails bytes fault.Stopped old new has is = same_till old new has is.1
  reversal_reply_fails bytes fault.Open old new has is = absurd is
  reversal_reply_fails bytes fault.NothingOpen old new has is = same_till old new has is.1
  reversal_reply_fails bytes (fault.Terminal why) old new has is = same_till old new has is.1
  reversal_reply_fails bytes (fault.Store why) old new has is =
      is_not_put old.book new (Undone is.reversed) why has.honest has.found is.not_kept.not_kept is.not_kept.stopped (has.runs (Some (Open is.reversed is.amount)) is.was_open).0

  restart_done : (old new : TillOf C B) → Has old → IsTillRestarted cell book old new → Has new
  restart_done old new has is =
      keeps_alone new is.last (is.found.cell.settles.nature.honest.0 has.honest) (λ kept finds. (is.found.cell.settles.finds has.honest kept).0 finds) is.state_is is.found.fields

  book_fails : (why : StoreFault) (old new : TillOf C B) → Has old → BookRestartFailed book old.book new.book why → new.state ≡ Stopped → Has new
  book_fails why old new has is stopped = elim is [
    | inl failed ↦ no_more old new has (failed.cell.stops.nature.honest.0 has.honest) (λ kept found. failed.cell.stops.within has.honest kept found) (inr stopped)
    | inr damaged ↦
        let restart = damaged.1.cell in
        no_more old new has (restart.settles.nature.honest.0 has.honest)
        (λ kept found. subst (λ (it : Kept). (book.state_of old.book).found it) (sym ((restart.settles.finds has.honest kept).0 found)) (restart.was_found has.honest)) (inr stopped)
  ]

  restart_fails : (why : TillFault) (old new : TillOf C B) → Has old → TillRestartRefused cell book old new why → Has new
  restart_fails (fault.Terminal why) old new has is = with_book old new has is.1 (inr is.2)
  restart_fails (fault.Store why) old new has is = book_fails why old new has is.1 is.2
  restart_fails fault.Stopped old new has is = absurd is
  restart_fails fault.Open old new has is = absurd is
  restart_fails fault.NothingOpen old new has is = absurd is

  load_fails : (asked : _) (why : TillFault) (old new : TillOf C B) → Has old → TillLoadRefused cell asked old new why → Has new
  load_fails asked fault.Stopped old new has is = same_till old new has is.1
  load_fails asked fault.Open old new has is = same_till old new has is.1
  load_fails asked fault.NothingOpen old new has is = absurd is
  load_fails asked (fault.Terminal why) old new has is = same_book old new has is.2
  load_fails asked (fault.Store why) old new has is = absurd is

  pub book_call : (call : Call) (old new : TillOf C B) → Has old → IsCalled cell book call old new → Has new
  book_call (Begin purchase (Ok begun)) old new has is =
      is_put old.book new (opened begun.ksn purchase) has.honest is.kept is.state_is (begun_fields laws cell purchase begun.ksn begun.frame.items old.terminal new.terminal is.terminal)
  book_call (Begin purchase (Err why)) old new has is = begin_fails purchase why old new has is
  book_call (Reverse (Ok begun)) old new has is = same_book old new has is.same_book
  book_call (Reverse (Err why)) old new has is = reverse_fails why old new has is
  book_call (Reply bytes (Ok (answer.Done code))) old new has is =
      is_put old.book new (outcome_of is.ksn is.amount code) has.honest is.kept is.state_is (outcome_fields is.ksn is.amount code (has.runs (Some (Open is.ksn is.amount)) is.was_open))
  book_call (Reply bytes (Ok (answer.Refused reason))) old new has is = same_till old new has is.same
  book_call (Reply bytes (Err why)) old new has is = reply_fails bytes why old new has is
  book_call (ReversalReply bytes (Ok (reversal.Done found))) old new has is =
      is_put old.book new (Undone is.reversed) has.honest is.kept is.state_is (has.runs (Some (Open is.reversed is.amount)) is.was_open).0
  book_call (ReversalReply bytes (Ok (reversal.Refused reason))) old new has is = same_till old new has is.same
  book_call (ReversalReply bytes (Err why)) old new has is = reversal_reply_fails bytes why old new has is
  book_call (Restart (Ok told)) old new has is = restart_done old new has is.0
  book_call (Restart (Err why)) old new has is = restart_fails why old new has is
  book_call (Load asked (Ok done)) old new has is = same_book old new has is.same_book
  book_call (Load asked (Err why)) old new has is = load_fails asked why old new has is
  book_call (ArmTerminal steps) old new has is = same_book old new has is.same_book
  book_call (ArmBook steps) old new has is = no_more old new has (is.stays.honest.0 has.honest) (λ kept found. (is.stays.found has.honest kept).0 found) (inl is.state)
  book_call Stop old new has is = no_more old new has is.book_is.honest is.book_is.within (inr is.stopped)
