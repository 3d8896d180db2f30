-- What holds of a till holds after each call, and so through its lifetime.
use Rattle.std.proofs.Common.{◌≡◌, ◌++◌, ◌∷◌, [], ℕ, List, Some, Ok, Err, inl, inr, refl, sym, subst, ◌∙◌}
use Rattle.duk_store.specs.Cell.{CellMeaning}
use Rattle.duk_term.specs.Load.{Loading}
use Rattle.duk_term.specs.Reply.{IsPending}
use Rattle.duk_term.specs.Terminal.{TerminalOf}
use Rattle.duk_term.specs.declared.answer.Answer.TheVariants as answer
use Rattle.duk_term.specs.declared.answer.ReversalAnswer.TheVariants as reversal
use Rattle.duk_term.specs.declared.state.Pending.{Pending}
use Rattle.duk_term.specs.declared.state.State.{State}
use Rattle.duk_till.specs.History.{Entry, Told, TookNewNumbers}
use Rattle.duk_till.specs.Image.{last_bytes}
use Rattle.duk_till.specs.Lifetime.{IsFirst, ArmBook, ArmTerminal, Begin, Call, IsCalled, IsLifetime, Load, Reply, Restart, Reverse, ReversalReply, Stop, last_told, written}
use Rattle.duk_till.specs.Load.{TillLoadRefused}
use Rattle.duk_till.specs.Till.{IsAtRest, TillOf}
use Rattle.duk_till.specs.declared.fault.TillFault.{TillFault}
use Rattle.duk_till.specs.declared.fault.TillFault.TheVariants as fault
use Rattle.duk_till.specs.declared.last.Last.TheVariants.{Open}
use Rattle.duk_till.specs.declared.state.TillState.{TillState}
use Rattle.duk_till.specs.declared.state.TillState.TheVariants.{Running}
use Rattle.duk_tree.specs.Serial.{Serial}
use Rattle.duk_hosts.specs.Tills.{sent_by}
use Rattle.duk_hosts.proofs.Members.{none_in}
use Rattle.duk_hosts.proofs.TillHolds.{Holds, goes_on, none_is_kept, not_open_at_rest, stopped_is_not_running, unchanged}
use Rattle.duk_hosts.proofs.TillSends.{TillLaws, begin_refused, begins, reverse_refused, reverses, same_book}
use Rattle.duk_hosts.proofs.TillTakes.{reply_kept, reply_refused, restart_done, restart_refused, undone_kept, undone_refused}

module _ {C J : Type 0} (cell : CellMeaning C) (book : CellMeaning J) (laws : TillLaws cell book) where
  abbrev After : List Call → List Entry → TillOf C J → Type 0
  After calls history till = Holds laws.reading book calls history till

  -- nothing is begun or loaded while a purchase is open
  at_rest_pends : (old new : TillOf C J) → IsAtRest old.state → (ksn : Serial) (amount : ℕ) (pending : Pending) → old.state ≡ Running (Some (Open ksn amount)) → IsPending new.terminal.state pending → IsPending old.terminal.state pending
  at_rest_pends old new rest ksn amount pending opens = absurd (not_open_at_rest old.state ksn amount rest opens)

  load_refused : (call : Call) (asked : Loading) (why : TillFault) (calls : List Call) (history : List Entry) (old new : TillOf C J) → sent_by call ≡ [] → After calls history old → TillLoadRefused cell asked old new why
      → After (call ∷ calls) history new
  load_refused call asked fault.Stopped calls history old new none holds is = unchanged laws.reading book call calls history old new holds none is.1
  load_refused call asked fault.Open calls history old new none holds is = unchanged laws.reading book call calls history old new holds none is.1
  load_refused call asked fault.NothingOpen calls history old new none holds is = absurd is
  load_refused call asked (fault.Terminal why) calls history old new none holds is = same_book cell book laws call calls history old new holds none is.2 (at_rest_pends old new is.0)
  load_refused call asked (fault.Store why) calls history old new none holds is = absurd is

  called : (call : Call) (calls : List Call) (history : List Entry) (old new : TillOf C J) → IsLifetime cell book calls history old → TookNewNumbers (written call old ++ history) → After calls history old → IsCalled cell book call old new
      → After (call ∷ calls) (written call old ++ history) new
  called (Begin purchase (Ok it)) calls history old new life fresh holds is = begins cell book laws purchase it calls history old new fresh holds is
  called (Begin purchase (Err why)) calls history old new life fresh holds is = begin_refused cell book laws purchase why calls history old new holds is
  called (Reply bytes (Ok (answer.Done why))) calls history old new life fresh holds is = reply_kept cell book laws bytes why calls history old new holds is
  called (Reply bytes (Ok (answer.Refused reason))) calls history old new life fresh holds is = unchanged laws.reading book (Reply bytes (Ok (answer.Refused reason))) calls history old new holds refl is.same
  called (Reply bytes (Err why)) calls history old new life fresh holds is = reply_refused cell book laws bytes why calls history old new holds is
  called (Reverse (Ok it)) calls history old new life fresh holds is = reverses cell book laws it calls history old new life holds is
  called (Reverse (Err why)) calls history old new life fresh holds is = reverse_refused cell book laws why calls history old new holds is
  called (ReversalReply bytes (Ok (reversal.Done found))) calls history old new life fresh holds is = undone_kept cell book laws bytes found calls history old new holds is
  called (ReversalReply bytes (Ok (reversal.Refused reason))) calls history old new life fresh holds is = unchanged laws.reading book (ReversalReply bytes (Ok (reversal.Refused reason))) calls history old new holds refl is.same
  called (ReversalReply bytes (Err why)) calls history old new life fresh holds is = undone_refused cell book laws bytes why calls history old new holds is
  called (Restart (Ok told)) calls history old new life fresh holds is =
      subst (λ (it : TillState). After (Restart (Ok told) ∷ calls) (last_told it ++ history) new) (sym (is.1 ∙ is.0.state_is)) (restart_done cell book laws (Restart (Ok told)) calls history old new refl holds is.0)
  called (Restart (Err why)) calls history old new life fresh holds is = restart_refused cell book laws (Restart (Err why)) why calls history old new refl holds is
  called (Load asked (Ok done)) calls history old new life fresh holds is = same_book cell book laws (Load asked (Ok done)) calls history old new holds refl is.same_book (at_rest_pends old new is.was_at_rest)
  called (Load asked (Err why)) calls history old new life fresh holds is = load_refused (Load asked (Err why)) asked why calls history old new refl holds is
  called (ArmTerminal steps) calls history old new life fresh holds is =
      same_book cell book laws (ArmTerminal steps) calls history old new holds refl is.same_book (λ ksn amount pending opens waits. subst (λ (it : State). IsPending it pending) is.terminal waits)
  called (ArmBook steps) calls history old new life fresh holds is =
      goes_on laws.reading book (ArmBook steps) calls history old new holds refl (is.stays.honest.0 holds.honest) (λ kept found. (is.stays.found holds.honest kept).0 found)
      (inl (is.state, λ ksn amount pending opens waits. subst (λ (it : TerminalOf C). IsPending it.state pending) is.terminal waits))
  called Stop calls history old new life fresh holds is = goes_on laws.reading book Stop calls history old new holds refl is.book_is.honest (λ kept found. is.book_is.within kept found) (inr is.stopped)

  -- at first
  first_holds : (till : TillOf C J) → IsFirst cell book till → After [] [] till
  first_holds till first = record {
    honest = first.book_is.honest;
    told = λ last told. absurd (none_in (Told last) told);
    runs = λ last runs. absurd (stopped_is_not_running till.state last first.stopped runs);
    only = λ last runs. absurd (stopped_is_not_running till.state last first.stopped runs);
    found = λ last fields found. absurd (none_is_kept last (first.book_is.within (Some (last_bytes last)) found));
    waits = λ ksn amount pending opens. absurd (stopped_is_not_running till.state (Some (Open ksn amount)) first.stopped opens);
    asked = λ ksn amount asked. absurd (none_in asked.frame asked.sent);
    called_back = λ ksn back. absurd (none_in back.frame back.sent);
    known = λ ksn amount asked. absurd (none_in asked.frame asked.sent);
  }

  pub lifetime_holds : (calls : List Call) (history : List Entry) (till : TillOf C J) → IsLifetime cell book calls history till → After calls history till
  lifetime_holds [] history till life = subst (λ (it : List Entry). After [] it till) (sym life.1) (first_holds till life.0)
  lifetime_holds (call ∷ calls) history till (old, earlier, life, is, history_is) =
      let all : IsLifetime cell book (call ∷ calls) history till = (old, earlier, life, is, history_is) in
      subst (λ (it : List Entry). After (call ∷ calls) it till) (sym history_is)
      (called call calls earlier old till life (subst TookNewNumbers history_is (laws.numbers (call ∷ calls) history till all)) (lifetime_holds calls earlier old life) is)
