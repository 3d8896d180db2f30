-- What `issue` does is a run.
use Rattle.std.proofs.Common.{◌≡◌, ◌<◌, ℕ, List, All, [], ◌∷◌, ◌++◌, inl, inr, get_or, length, refl, sym, ap, ◌∙◌, subst, arith, append-nil, append_assoc, length-append}
use Rattle.std.proofs.lemmas.List.{get_or-map, get_or_append_left, length-map, map-append}
use Rattle.duk_ledger.specs.Issued.{Issues}
use Rattle.duk_ledger.specs.declared.issued.Issued.{Issued}
use Rattle.duk_store.specs.Listed.{ListMeaning}
use Rattle.duk_store.specs.Restart.{Restarted}
use Rattle.duk_store.specs.declared.fault.StoreFault.{StoreFault}
use Rattle.duk_store.specs.declared.fault.StoreFault.TheVariants as store
use Rattle.duk_commands.specs.Issue.{AreOfOrder, Ends, HasIssued, IsRefusedBy, IsUnread, IssueFailed, Job, MayIssue, begun_places, iksns_of, issues_of}
use Rattle.duk_commands.specs.Ledger.{IsExtended, IsIssued, issue_at, next_run, numbers_of}
use Rattle.duk_commands.specs.Lifetime.{AreFresh, IsRun}
use Rattle.duk_commands.specs.Numbers.{FitsFrom, iksn_at, key_set}
use Rattle.duk_commands.specs.declared.issue.fault.IssueFault.{IssueFault}
use Rattle.duk_commands.specs.declared.issue.fault.IssueFault.TheVariants as fault
use Rattle.duk_commands.proofs.Members.{member_at}

-- new places have numbers that are not issued, each another one
pub fresh_places : (job : Job) (capacity : ℕ) (issues : Issues) (places : List ℕ) → MayIssue job capacity issues places → AreFresh issues (iksns_of job places)
fresh_places job capacity issues places may =
    let first = job.order.first in
    let at : (k d : ℕ) → k < length (iksns_of job places) → get_or (iksns_of job places) k d ≡ iksn_at first (get_or places k 0) = λ k d within.
    get_or-map (iksn_at first) places k 0 d (omega (arith, within, length-map places (iksn_at first))) in
    record {
      new = λ k d within.
          let inside : k < length places = omega (arith, within, length-map places (iksn_at first)) in
          subst (λ n. ¬ IsIssued issues n) (sym (at k d within)) (((may.new.members (get_or places k 0)).0 (member_at places k 0 inside)).1);
      once = λ i j d before within same.
          let inside : j < length places = omega (arith, within, length-map places (iksn_at first)) in
          let order = may.new.in_order i j 0 before inside in
          let both : iksn_at first (get_or places i 0) ≡ iksn_at first (get_or places j 0) = sym (at i d (omega (arith, before, within))) ∙ same ∙ at j d within in
          omega (arith, order, both);
    }

-- and so have the first of them
fresh_front : (issues : Issues) (front rest : List ℕ) → AreFresh issues (front ++ rest) → AreFresh issues front
fresh_front issues front rest fresh = record {
  new = λ k d within. subst (λ n. ¬ IsIssued issues n) (get_or_append_left front rest d k within) (fresh.new k d (omega (arith, within, length-append front rest)));
  once = λ i j d before within same.
      fresh.once i j d before (omega (arith, within, length-append front rest))
      (get_or_append_left front rest d i (omega (arith, before, within)) ∙ same ∙ sym (get_or_append_left front rest d j within));
}

fresh_first : (job : Job) (capacity : ℕ) (issues : Issues) (done rest : List ℕ) → MayIssue job capacity issues (done ++ rest) → AreFresh issues (iksns_of job done)
fresh_first job capacity issues done rest may =
    fresh_front issues (iksns_of job done) (iksns_of job rest) (subst (λ list. AreFresh issues list) (map-append (iksn_at job.order.first) done rest) (fresh_places job capacity issues (done ++ rest) may))

-- a place of an order is of the first's key set
pub in_set : (first count place : ℕ) → FitsFrom first count → place < count → key_set (iksn_at first place) ≡ key_set first
in_set first count place fits inside = let same = fits.same_set in omega (arith, same, inside)

module _ {L : Type 0} (meaning : ListMeaning L Issued) (job : Job) where
  -- a ledger that keeps the list that its restart found
  extended_by_none : (old new : L) (issues : Issues) → Restarted (meaning.state_of old) (meaning.state_of new) issues → IsExtended meaning old new issues []
  extended_by_none old new issues restarted = record {
    was_found = restarted.was_found;
    keeps = record {
      nature = restarted.settles.nature;
      no_failure = restarted.settles.no_failure;
      runs = restarted.settles.runs;
      finds = λ honest other. subst (λ list. (found : (meaning.state_of new).found other → other ≡ list) × (other ≡ list → (meaning.state_of new).found other)) (sym (append-nil issues)) (restarted.settles.finds honest other);
    };
  }

  -- the numbers of the keys that are kept are those that are printed
  numbers_kept : (issues : Issues) (places : List ℕ) → iksns_of job places ≡ numbers_of (issues_of job issues places)
  numbers_kept issues [] = refl
  numbers_kept issues (place ∷ places) = ap (λ list. iksn_at job.order.first place ∷ list) (numbers_kept issues places)

  fresh_none : (issues : Issues) → AreFresh issues []
  fresh_none issues = record { new = λ k d within. absurd (omega (arith, within)); once = λ i j d before within. absurd (omega (arith, within)) }

  pub issued_run : (old new : Ends L) (has : HasIssued meaning job old new) → IsRun meaning old.ledger (iksns_of job has.places) new.ledger
  issued_run old new has = inr (inr (record {
    mid = new.ledger;
    issues = has.issues;
    more = issues_of job has.issues has.places;
    extended = has.kept;
    printed_are = numbers_kept has.issues has.places;
    fresh = fresh_places job (meaning.capacity old.ledger) has.issues has.places has.tested;
    ends = inl refl;
  }))

  unread_run : (old new : Ends L) (why : StoreFault) → IsUnread meaning old new why → IsRun meaning old.ledger [] new.ledger
  unread_run old new why unread = inr (inl (record { why = why; refused = unread.failed; none_printed = refl }))

  refused_run : (Refuses : Issues → Type 0) (old new : Ends L) → IsRefusedBy meaning old new Refuses → IsRun meaning old.ledger [] new.ledger
  refused_run Refuses old new refused = inr (inr (record {
    mid = new.ledger;
    issues = refused.issues;
    more = [];
    extended = extended_by_none old.ledger new.ledger refused.issues refused.kept;
    printed_are = refl;
    fresh = fresh_none refused.issues;
    ends = inl refl;
  }))

  pub failed_run : (old new : Ends L) (why : IssueFault) (failed : IssueFailed meaning job old new why) → IsRun meaning old.ledger (iksns_of job (begun_places meaning job old new why failed)) new.ledger
  failed_run old new fault.LedgerFailed (inl unread) = unread_run old new store.Device unread
  failed_run old new fault.LedgerFailed (inr not) = inr (inr (record {
    mid = not.mid;
    issues = not.issues;
    more = issues_of job not.issues not.done;
    extended = not.kept;
    printed_are = numbers_kept not.issues not.done;
    fresh = fresh_first job (meaning.capacity old.ledger) not.issues not.done (not.last ∷ not.later) not.tested;
    ends = inr (issue_at job.order (next_run not.issues) not.last, inr (store.Device, not.failed));
  }))
  failed_run old new fault.LedgerDamaged unread = unread_run old new store.Damaged unread
  failed_run old new (fault.Issued iksn) refused = refused_run _ old new refused
  failed_run old new fault.LedgerFull refused = refused_run _ old new refused
  failed_run old new fault.OutOfMemory same = inl (record { untouched = ap (λ e. e.ledger) same; none_printed = refl })
  failed_run old new fault.WriteFailed cut = inr (inr (record {
    mid = new.ledger;
    issues = cut.issues;
    more = issues_of job cut.issues (cut.done ++ cut.last ∷ []);
    extended = cut.kept;
    printed_are = numbers_kept cut.issues (cut.done ++ cut.last ∷ []);
    fresh = fresh_first job (meaning.capacity old.ledger) cut.issues (cut.done ++ cut.last ∷ []) cut.later
        (subst (λ list. MayIssue job (meaning.capacity old.ledger) cut.issues list) (sym (append_assoc cut.done (cut.last ∷ []) cut.later)) cut.tested);
    ends = inl refl;
  }))
  failed_run old new fault.BdkRefused refused = absurd refused
  failed_run old new fault.LoadingRefused refused = absurd refused
  failed_run old new fault.IksnRefused refused = absurd refused
  failed_run old new fault.CountRefused refused = absurd refused
  failed_run old new fault.KcvRefused refused = absurd refused
  failed_run old new fault.KcvDiffers refused = absurd refused
  failed_run old new (fault.NotIssued iksn) refused = absurd refused
  failed_run old new fault.PaddingUnread refused = absurd refused
  failed_run old new fault.LedgerUnopened refused = absurd refused
  failed_run old new fault.LedgerOldVersion refused = absurd refused
  failed_run old new fault.OutUnmade refused = absurd refused

  -- all numbers that are printed are of the first's key set
  abbrev of_one_set : List ℕ → Type 0
  of_one_set places = All (λ iksn. key_set iksn ≡ key_set job.order.first) (iksns_of job places)

  places_set : (places : List ℕ) → AreOfOrder job places → of_one_set places
  places_set places are = λ k d within.
      let first = job.order.first in
      let inside : k < length places = omega (arith, within, length-map places (iksn_at first)) in
      subst (λ n. key_set n ≡ key_set first) (sym (get_or-map (iksn_at first) places k 0 d inside)) (in_set first job.order.count (get_or places k 0) job.order.fits (are k 0 inside))

  first_places : (front rest : List ℕ) → AreOfOrder job (front ++ rest) → AreOfOrder job front
  first_places front rest are = λ k d within. subst (λ place. place < job.order.count) (get_or_append_left front rest d k within) (are k d (omega (arith, within, length-append front rest)))

  none_printed : of_one_set []
  none_printed = λ k d within. absurd (omega (arith, within))

  pub issued_set : (old new : Ends L) → (has : HasIssued meaning job old new) → of_one_set has.places
  issued_set old new has = places_set has.places has.inside

  pub failed_set : (old new : Ends L) (why : IssueFault) (failed : IssueFailed meaning job old new why) → of_one_set (begun_places meaning job old new why failed)
  failed_set old new fault.LedgerFailed (inl unread) = none_printed
  failed_set old new fault.LedgerFailed (inr not) = places_set not.done (first_places not.done (not.last ∷ not.later) not.inside)
  failed_set old new fault.LedgerDamaged failed = none_printed
  failed_set old new (fault.Issued iksn) failed = none_printed
  failed_set old new fault.LedgerFull failed = none_printed
  failed_set old new fault.OutOfMemory failed = none_printed
  failed_set old new fault.WriteFailed cut =
      places_set (cut.done ++ cut.last ∷ [])
      (first_places (cut.done ++ cut.last ∷ []) cut.later (subst (λ list. AreOfOrder job list) (sym (append_assoc cut.done (cut.last ∷ []) cut.later)) cut.inside))
  failed_set old new fault.BdkRefused refused = absurd refused
  failed_set old new fault.LoadingRefused refused = absurd refused
  failed_set old new fault.IksnRefused refused = absurd refused
  failed_set old new fault.CountRefused refused = absurd refused
  failed_set old new fault.KcvRefused refused = absurd refused
  failed_set old new fault.KcvDiffers refused = absurd refused
  failed_set old new (fault.NotIssued iksn) refused = absurd refused
  failed_set old new fault.PaddingUnread refused = absurd refused
  failed_set old new fault.LedgerUnopened refused = absurd refused
  failed_set old new fault.LedgerOldVersion refused = absurd refused
  failed_set old new fault.OutUnmade refused = absurd refused
