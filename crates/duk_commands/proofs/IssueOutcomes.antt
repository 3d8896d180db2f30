-- What becomes of an order, by what its parts do.
use Rattle.std.proofs.Common.{◌≡◌, ◌⊎◌, ◌-◌, ◌+◌, ◌^◌, ◌<◌, ◌≤◌, ℕ, true, Bool, List, [], ◌∷◌, ◌++◌, inl, inr, length, refl, sym, ap, ◌∙◌, subst, arith}
use Rattle.duk_io.specs.Known.{Known}
use Rattle.duk_io.specs.Sink.{IsWritten}
use Rattle.duk_ledger.specs.declared.issued.Issued.{Issued}
use Rattle.duk_store.specs.Listed.{GroupStopped, ListMeaning, room_of}
use Rattle.duk_commands.specs.Issue.{AreOfOrder, Ends, HasIssued, HasIssuedBut, IsFree, IssueFailed, MayIssue, ends, issues_of, job}
use Rattle.duk_commands.specs.Ledger.{issue_at, next_run}
use Rattle.duk_commands.specs.declared.issue.fault.IssueFault.{IssueFault}
use Rattle.duk_commands.specs.declared.issue.fault.IssueFault.TheVariants as fault
use Rattle.duk_commands.specs.declared.issue.order.Order.{Order}
use Rattle.duk_commands.specs.inner.Ledger.{AreAppended, IsLedgerRead}
use Rattle.duk_commands.specs.inner.Lines.{AreIssued, kept_at, IsUnmarked, PassesTests, StopsAtPlace, TestsRefuse}
use Rattle.duk_commands.specs.inner.Marks.{HasMarks, unmarked}
use Rattle.duk_commands.proofs.Appended.{appended_at, extended}
use Rattle.duk_commands.proofs.Marked.{inside_order, new_places}

module _ {L : Type 0} (meaning : ListMeaning L Issued) (order : Order) (skip : Bool) (padding : List ℕ) where
  -- the room of a running ledger
  room_is : (ledger : L) → (meaning.state_of ledger).running ≡ true → room_of meaning ledger ≡ meaning.capacity ledger - meaning.count ledger
  room_is ledger runs = rw runs refl

  module _ (old mid : L) (marks : List Bool) (largest : ℕ) (read : IsLedgerRead meaning old mid order.first order.count marks largest) where
    free : IsUnmarked skip marks → IsFree (job order skip padding) read.issues
    free none = λ whole place within issued.
        let inside = subst (λ size. place < size) (sym read.size) within in
        none whole place inside ((read.are_read.marked place inside).1 issued)

    -- the room that a ledger has for more
    free_room : (meaning.state_of mid).running ≡ true → room_of meaning mid ≡ meaning.capacity old - length read.issues
    free_room runs = room_is mid runs ∙ ap (λ size. size - meaning.count mid) read.capacity ∙ ap (λ count. meaning.capacity old - count) read.counted

    run_is : largest + 1 ≡ next_run read.issues
    run_is = ap (λ (it : ℕ). it + 1) read.are_read.largest_is

    -- the tests are passed
    may_issue : (meaning.state_of mid).running ≡ true → PassesTests skip (room_of meaning mid) largest marks → MayIssue (job order skip padding) (meaning.capacity old) read.issues (unmarked marks 0)
    may_issue runs passed = record {
      free = free passed.none_marked;
      new = new_places read.issues order.first order.count marks read.size read.are_read.marked;
      room = subst (λ free. length (unmarked marks 0) ≤ free) (free_room runs) passed.room;
      run_fits = subst (λ (run : ℕ). run < 2 ^ 32) run_is passed.run_fits;
    }

    too_many : (meaning.state_of mid).running ≡ true → (room_of meaning mid < length (unmarked marks 0)) ⊎ (2 ^ 32 ≤ largest + 1) → (meaning.capacity old - length read.issues < length (unmarked marks 0)) ⊎ (2 ^ 32 ≤ next_run read.issues)
    too_many runs (inl many) = inl (subst (λ free. free < length (unmarked marks 0)) (free_room runs) many)
    too_many runs (inr last) = inr (subst (λ (run : ℕ). 2 ^ 32 ≤ run) run_is last)

    -- they are not
    pub refused : (output : Known) (why : IssueFault) → (meaning.state_of mid).running ≡ true → TestsRefuse order skip (room_of meaning mid) largest marks why → IssueFailed meaning (job order skip padding) (ends old output) (ends mid output) why
    refused output (fault.Issued iksn) runs first = record {
      issues = read.issues;
      kept = read.restarted;
      refuses =
          let inside = first.first_marked.inside in
          let marked = read.are_read.marked in
          record {
            not_passed_over = first.not_passed_over;
            place = first.place;
            first_issued = record {
              inside = subst (λ size. first.place < size) read.size inside;
              issued = (marked first.place inside).0 first.first_marked.marked;
              none_before = λ place before issued. first.first_marked.none_before place before ((marked place (omega (arith, before, inside))).1 issued);
            };
            iksn_is = first.iksn_is;
          };
      unwritten = refl;
    }
    refused output fault.LedgerFull runs many = record {
      issues = read.issues;
      kept = read.restarted;
      refuses = record {
        places = unmarked marks 0;
        free = free many.none_marked;
        new = new_places read.issues order.first order.count marks read.size read.are_read.marked;
        too_many = too_many runs many.too_many;
      };
      unwritten = refl;
    }
    refused output fault.LedgerFailed runs why = absurd why
    refused output fault.LedgerDamaged runs why = absurd why
    refused output fault.OutOfMemory runs why = absurd why
    refused output fault.PaddingUnread runs why = absurd why
    refused output fault.LedgerUnopened runs why = absurd why
    refused output fault.LedgerOldVersion runs why = absurd why
    refused output fault.OutUnmade runs why = absurd why
    refused output fault.BdkRefused runs why = absurd why
    refused output fault.LoadingRefused runs why = absurd why
    refused output fault.IksnRefused runs why = absurd why
    refused output fault.CountRefused runs why = absurd why
    refused output fault.KcvRefused runs why = absurd why
    refused output fault.KcvDiffers runs why = absurd why
    refused output (fault.NotIssued iksn) runs why = absurd why
    refused output fault.WriteFailed runs why = absurd why

    module _ (runs : (meaning.state_of mid).running ≡ true) (passed : PassesTests skip (room_of meaning mid) largest marks) (output : Known) where
      as_kept : (new : L) (places : List ℕ) → AreAppended meaning mid new (kept_at order (largest + 1) places) → AreAppended meaning mid new (issues_of (job order skip padding) read.issues places)
      as_kept new places appended = subst (λ (run : ℕ). AreAppended meaning mid new (kept_at order run places)) run_is appended

      -- all keys are issued
      has_issued : (new : Ends L) → AreIssued meaning order (largest + 1) padding (ends mid output) new (unmarked marks 0) → HasIssued meaning (job order skip padding) (ends old output) new
      has_issued new issued = record {
        issues = read.issues;
        places = unmarked marks 0;
        text = issued.text;
        inside = inside_order order.count marks read.size;
        tested = may_issue runs passed;
        kept = extended meaning old mid new.ledger read.issues (issues_of (job order skip padding) read.issues (unmarked marks 0)) read.restarted (as_kept new.ledger (unmarked marks 0) issued.appended);
        lines = issued.lines;
        written = issued.written;
      }

      pub has_issued_but : (new : Ends L) → AreIssued meaning order (largest + 1) padding (ends mid output) new (unmarked marks 0) → (passed_over : ℕ) → HasMarks marks passed_over → HasIssuedBut meaning (job order skip padding) (ends old output) new passed_over
      unfolding has_issued
      has_issued_but new issued passed_over counted = (has_issued new issued, counted.all ∙ read.size)

      -- not all are
      tested_split : (places : List ℕ) → unmarked marks 0 ≡ places → MayIssue (job order skip padding) (meaning.capacity old) read.issues places
      tested_split places split = subst (λ list. MayIssue (job order skip padding) (meaning.capacity old) read.issues list) split (may_issue runs passed)

      inside_split : (places : List ℕ) → unmarked marks 0 ≡ places → AreOfOrder (job order skip padding) places
      inside_split places split = subst (λ list. AreOfOrder (job order skip padding) list) split (inside_order order.count marks read.size)

      pub not_issued : (new : Ends L) (why : IssueFault) → StopsAtPlace meaning order (largest + 1) padding (ends mid output) new (unmarked marks 0) why → IssueFailed meaning (job order skip padding) (ends old output) new why
      not_issued new fault.LedgerFailed stops = inr (record {
        issues = read.issues;
        done = stops.done;
        last = stops.last;
        later = stops.later;
        text = stops.issued.text;
        mid = stops.mid.ledger;
        inside = inside_split (stops.done ++ stops.last ∷ stops.later) stops.split;
        tested = tested_split (stops.done ++ stops.last ∷ stops.later) stops.split;
        kept = extended meaning old mid stops.mid.ledger read.issues (issues_of (job order skip padding) read.issues stops.done) read.restarted (as_kept stops.mid.ledger stops.done stops.issued.appended);
        failed = subst (λ (run : ℕ). GroupStopped meaning stops.mid.ledger new.ledger (issue_at order run stops.last ∷ [])) run_is stops.failed.failed;
        lines = stops.issued.lines;
        written = subst (λ known. IsWritten output known stops.issued.text) (sym stops.failed.unwritten) stops.issued.written;
      })
      not_issued new fault.WriteFailed stops = record {
        issues = read.issues;
        done = stops.done;
        last = stops.last;
        later = stops.later;
        text = stops.issued.text;
        line = stops.failed.line;
        mid = stops.mid.output;
        inside = inside_split (stops.done ++ stops.last ∷ stops.later) stops.split;
        tested = tested_split (stops.done ++ stops.last ∷ stops.later) stops.split;
        kept = extended meaning old mid new.ledger read.issues (issues_of (job order skip padding) read.issues (stops.done ++ stops.last ∷ [])) read.restarted
            (as_kept new.ledger (stops.done ++ stops.last ∷ []) (appended_at meaning order (largest + 1) mid stops.mid.ledger new.ledger stops.done stops.last stops.issued.appended stops.failed.appended));
        lines = stops.issued.lines;
        line_is = stops.failed.line_is;
        written = stops.issued.written;
        cut = stops.failed.cut;
      }
      not_issued new fault.LedgerDamaged stops = absurd stops.failed
      not_issued new fault.OutOfMemory stops = absurd stops.failed
      not_issued new fault.PaddingUnread stops = absurd stops.failed
      not_issued new fault.LedgerUnopened stops = absurd stops.failed
      not_issued new fault.LedgerOldVersion stops = absurd stops.failed
      not_issued new fault.OutUnmade stops = absurd stops.failed
      not_issued new fault.BdkRefused stops = absurd stops.failed
      not_issued new fault.LoadingRefused stops = absurd stops.failed
      not_issued new fault.IksnRefused stops = absurd stops.failed
      not_issued new fault.CountRefused stops = absurd stops.failed
      not_issued new fault.KcvRefused stops = absurd stops.failed
      not_issued new fault.KcvDiffers stops = absurd stops.failed
      not_issued new (fault.NotIssued iksn) stops = absurd stops.failed
      not_issued new (fault.Issued iksn) stops = absurd stops.failed
      not_issued new fault.LedgerFull stops = absurd stops.failed
