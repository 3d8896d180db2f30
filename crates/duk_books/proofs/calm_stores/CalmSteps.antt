-- What each step does to sound and calm stores, and which faults of them it reports.
use Rattle.std.proofs.Common.{◌≡◌, ◌⊎◌, ℕ, inl, inr, refl, sym, ap, subst, ◌∙◌}
use Rattle.std.proofs.lemmas.List.Elements.{All-contains}
use Rattle.duk_host.specs.declared.fault.HostFault.{HostFault}
use Rattle.duk_host.specs.declared.fault.HostFault.TheVariants as host_fault
use Rattle.duk_journal_host.specs.Host.{HostOf}
use Rattle.duk_store.specs.Cell.{CellMeaning}
use Rattle.duk_store.specs.declared.fault.StoreFault.{StoreFault}
use Rattle.duk_store.specs.declared.fault.StoreFault.TheVariants.{Damaged, Device}
use Rattle.duk_term.specs.Load.{Loading}
use Rattle.duk_term.specs.declared.answer.Answer.TheVariants as answer
use Rattle.duk_term.specs.declared.answer.ReversalAnswer.TheVariants as reversal
use Rattle.duk_term.specs.declared.purchase.Purchase.{Purchase}
use Rattle.duk_till.specs.Till.{TillOf}
use Rattle.duk_till.specs.declared.fault.TillFault.{TillFault}
use Rattle.duk_books.specs.Arm.{ArmsHost, ArmsTerminalCell, ArmsTill, ArmsTillBook}
use Rattle.duk_books.specs.Begin.{Begins}
use Rattle.duk_books.specs.Books.{BooksOf, Frame, Meanings}
use Rattle.duk_stations.specs.Places.{ChangesOnly, IsAt}
use Rattle.duk_books.specs.Calm.{HasSoundCells, HasSoundStores, IsCalmAt, ReportsArming, ReportsFault, ReportsNoDamage}
use Rattle.duk_books.specs.Down.{TakesAnswer, TakesReply, TakesReversalReply}
use Rattle.duk_books.specs.Load.{TakesLoad}
use Rattle.duk_books.specs.Reached.{IsLeft}
use Rattle.duk_books.specs.Restart.{RestartsHost, TakesRestart}
use Rattle.duk_books.specs.Reverse.{Reverses}
use Rattle.duk_books.specs.Step.{Step}
use Rattle.duk_books.specs.Up.{IsAnswered, ReachesHost}
use Rattle.duk_books.specs.declared.event.End.{End}
use Rattle.duk_books.specs.declared.event.End.TheVariants as ends
use Rattle.duk_books.specs.declared.event.Event.{Event}
use Rattle.duk_books.specs.declared.event.Event.TheVariants as event
use Rattle.duk_books.specs.declared.outcome.Outcome.{Outcome}
use Rattle.duk_books.specs.declared.outcome.Outcome.TheVariants as came
use Rattle.duk_stations.proofs.PlacesInLists.{after_at, before_at}
use Rattle.duk_books.proofs.calm_stores.HostCalls.{RefusesHost, not_answered, restart_refused as host_restart_refused}
use Rattle.duk_books.proofs.calm_stores.KnownStores.{KnownStores, KnownTill}
use Rattle.duk_stations.proofs.StoreFaults.{PreservesCalm, Spares, nature_kept, none_reported}
use Rattle.duk_books.proofs.calm_stores.TillCalls.{PreservesCells, RefusesTill, begin_refused, begun, book_armed, load_refused, loaded, reply_refused, restart_refused, restarted, reversal_reply_refused, reversal_told, reverse_refused, reversing, terminal_armed, told}
use Rattle.duk_stations.proofs.PlacesInLists.{all_at}
use Rattle.duk_stations.proofs.PlacesInLists.{at_contains}

-- what a step does to sound and calm stores, and which faults it reports
pub record StepFacts {C B J I : Type 0} (m : Meanings C B J I) (old : BooksOf C B J I) (outcome : Outcome) (new : BooksOf C B J I) : Type 0 where
  pub sound : HasSoundStores m old → HasSoundStores m new
  pub calm : (end : End) → IsCalmAt m old end → ¬ ReportsArming end outcome → IsCalmAt m new end
  pub device : (end : End) → IsCalmAt m old end → ¬ ReportsFault outcome end Device
  pub damaged : HasSoundStores m old → ReportsNoDamage outcome

-- an outcome that says nothing of a store
abbrev ReportsNoFault : Outcome → Type 0
ReportsNoFault outcome = (end : End) (fault : StoreFault) → ¬ ReportsFault outcome end fault

-- a step that changes nothing
nothing_step : {C B J I : Type 0} (m : Meanings C B J I) (old : BooksOf C B J I) (outcome : Outcome) (new : BooksOf C B J I) → new ≡ old → ReportsNoFault outcome → StepFacts m old outcome new
nothing_step m old outcome new same none = record {
  sound = λ sound. rw same sound;
  calm = λ end calm unarmed. rw same calm;
  device = λ end calm. none end Device;
  damaged = λ sound end. none end Damaged;
}

-- ---- tills

-- what an event of a till does to its cells, and which faults it reports: none but of these
record TillFacts {C B : Type 0} (cell : CellMeaning C) (book : CellMeaning B) (t : ℕ) (outcome : Outcome) (before after : TillOf C B) : Type 0 where
  about : (end : End) (fault : StoreFault) → ReportsFault outcome end fault → (end ≡ ends.Terminal t) ⊎ (end ≡ ends.Book t)
  cell_sound : (cell.state_of before.terminal.cell).honest → (cell.state_of before.terminal.cell).sound → (cell.state_of after.terminal.cell).sound
  book_sound : (book.state_of before.book).honest → (book.state_of before.book).sound → (book.state_of after.book).sound
  cell_calm : (cell.state_of before.terminal.cell).calm → ¬ ReportsArming (ends.Terminal t) outcome → (cell.state_of after.terminal.cell).calm
  book_calm : (book.state_of before.book).calm → ¬ ReportsArming (ends.Book t) outcome → (book.state_of after.book).calm
  of_terminal : Spares (cell.state_of before.terminal.cell) (ReportsFault outcome (ends.Terminal t))
  of_book : Spares (book.state_of before.book) (ReportsFault outcome (ends.Book t))

-- the sound cells of a till, by its number
sound_at : {C B J I : Type 0} (m : Meanings C B J I) (books : BooksOf C B J I) → HasSoundStores m books → (t : ℕ) (till : TillOf C B) → IsAt books.tills t till → HasSoundCells m till
sound_at m books sound t till at = All-contains (HasSoundCells m) books.tills till sound.tills (at_contains books.tills t till at)

module _ {C B J I : Type 0} (m : Meanings C B J I) (old new : BooksOf C B J I) (t : ℕ) (P : TillOf C B → TillOf C B → Type 0) (outcome : Outcome) (acts : ChangesOnly t P old.tills new.tills)
    (facts : TillFacts m.cell m.book t outcome acts.before acts.after) (known : KnownStores m old) (host : new.host ≡ old.host) where
  was : IsAt old.tills t acts.before
  was = before_at t P old.tills new.tills acts

  here : KnownTill m acts.before
  here = known.tills t acts.before was

  sound_after : HasSoundStores m old → (u : ℕ) (till : TillOf C B) → IsAt new.tills u till → HasSoundCells m till
  sound_after sound u till at = elim (after_at t P old.tills new.tills acts u till at) [
    | inl (same, is) ↦
        let cells = sound_at m old sound t acts.before was in
        rw is (record { of_terminal = facts.cell_sound here.cell_honest cells.of_terminal; of_book = facts.book_sound here.book_honest cells.of_book })
    | inr (other, stood) ↦ sound_at m old sound u till stood
  ]

  -- a till's calm cell after an event of that till or another one
  calm_after : (end : End) → IsCalmAt m old end → ¬ ReportsArming end outcome → IsCalmAt m new end
  calm_after ends.Host calm unarmed = rw host calm
  calm_after (ends.Terminal u) calm unarmed = λ till at. elim (after_at t P old.tills new.tills acts u till at) [
    | inl (same, is) ↦ rw is (facts.cell_calm (subst (λ u. IsCalmAt m old (ends.Terminal u)) same calm acts.before was) (subst (λ u. ¬ ReportsArming (ends.Terminal u) outcome) same unarmed))
    | inr (other, stood) ↦ calm till stood
  ]
  calm_after (ends.Book u) calm unarmed = λ till at. elim (after_at t P old.tills new.tills acts u till at) [
    | inl (same, is) ↦ rw is (facts.book_calm (subst (λ u. IsCalmAt m old (ends.Book u)) same calm acts.before was) (subst (λ u. ¬ ReportsArming (ends.Book u) outcome) same unarmed))
    | inr (other, stood) ↦ calm till stood
  ]

  device_spared : (end : End) → IsCalmAt m old end → ¬ ReportsFault outcome end Device
  device_spared end calm reports = elim (facts.about end Device reports) [
    | inl is ↦ facts.of_terminal.device (subst (λ end. IsCalmAt m old end) is calm acts.before was) (subst (λ end. ReportsFault outcome end Device) is reports)
    | inr is ↦ facts.of_book.device (subst (λ end. IsCalmAt m old end) is calm acts.before was) (subst (λ end. ReportsFault outcome end Device) is reports)
  ]

  damage_spared : HasSoundStores m old → ReportsNoDamage outcome
  damage_spared sound end reports =
      let cells = sound_at m old sound t acts.before was in
      elim (facts.about end Damaged reports) [
        | inl is ↦ facts.of_terminal.damaged here.cell_honest cells.of_terminal (subst (λ end. ReportsFault outcome end Damaged) is reports)
        | inr is ↦ facts.of_book.damaged here.book_honest cells.of_book (subst (λ end. ReportsFault outcome end Damaged) is reports)
      ]

  -- an event of a till
  till_step : StepFacts m old outcome new
  till_step = record {
    sound = λ sound. record { journal = rw host sound.journal; tills = all_at (HasSoundCells m) new.tills (sound_after sound) };
    calm = calm_after;
    device = device_spared;
    damaged = damage_spared;
  }

module _ {C B : Type 0} (cell : CellMeaning C) (book : CellMeaning B) (t : ℕ) (before after : TillOf C B) where
  -- an event that is reported without a fault, and leaves the cells' nature
  plainly : (outcome : Outcome) → ReportsNoFault outcome → PreservesCells cell book before after → TillFacts cell book t outcome before after
  plainly outcome none keeps = record {
    about = λ end fault reports. absurd (none end fault reports);
    cell_sound = keeps.of_terminal.sound;
    book_sound = keeps.of_book.sound;
    cell_calm = λ calm unarmed. keeps.of_terminal.calm calm;
    book_calm = λ calm unarmed. keeps.of_book.calm calm;
    of_terminal = none_reported (cell.state_of before.terminal.cell) (ReportsFault outcome (ends.Terminal t)) (none (ends.Terminal t));
    of_book = none_reported (book.state_of before.book) (ReportsFault outcome (ends.Book t)) (none (ends.Book t));
  }

  -- an event that is refused
  refused_about : (u : ℕ) (why : TillFault) (end : End) (fault : StoreFault) → u ≡ t → ReportsFault (came.TillFaulted u why) end fault → (end ≡ ends.Terminal t) ⊎ (end ≡ ends.Book t)
  refused_about u why ends.Host fault is reports = absurd reports
  refused_about u why (ends.Terminal v) fault is reports = inl (ap ends.Terminal (sym reports.0 ∙ is))
  refused_about u why (ends.Book v) fault is reports = inr (ap ends.Book (sym reports.0 ∙ is))

  refused : (u : ℕ) (why : TillFault) → u ≡ t → RefusesTill cell book before after why → TillFacts cell book t (came.TillFaulted u why) before after
  refused u why is refuses = record {
    about = λ end fault. refused_about u why end fault is;
    cell_sound = refuses.keeps.of_terminal.sound;
    book_sound = refuses.keeps.of_book.sound;
    cell_calm = λ calm unarmed. refuses.keeps.of_terminal.calm calm;
    book_calm = λ calm unarmed. refuses.keeps.of_book.calm calm;
    of_terminal = record { device = λ calm reports. refuses.of_terminal.device calm reports.1; damaged = λ honest sound reports. refuses.of_terminal.damaged honest sound reports.1 };
    of_book = record { device = λ calm reports. refuses.of_book.device calm reports.1; damaged = λ honest sound reports. refuses.of_book.damaged honest sound reports.1 };
  }

  load_facts : (asked : Loading) (outcome : Outcome) → TakesLoad cell book t asked outcome before after → TillFacts cell book t outcome before after
  load_facts asked (came.Loaded u iksn) takes = plainly (came.Loaded u iksn) (λ end fault reports. reports) (loaded cell book before after asked takes.2)
  load_facts asked (came.TillFaulted u why) takes = refused u why takes.0 (load_refused cell book before after asked why takes.1)
  load_facts asked _ takes = absurd takes

  reply_facts : (frame : Frame) (outcome : Outcome) → TakesReply cell book t frame outcome before after → TillFacts cell book t outcome before after
  reply_facts frame (came.Done u ksn code) takes = plainly (came.Done u ksn code) (λ end fault reports. reports) (told cell book before after frame.items (answer.Done code) takes.2)
  reply_facts frame (came.GotRefusal u ksn reason) takes = plainly (came.GotRefusal u ksn reason) (λ end fault reports. reports) (told cell book before after frame.items (answer.Refused reason) takes.2)
  reply_facts frame (came.TillFaulted u why) takes = refused u why takes.0 (reply_refused cell book before after frame.items why takes.1)
  reply_facts frame _ takes = absurd takes

  reversal_facts : (frame : Frame) (outcome : Outcome) → TakesReversalReply cell book t frame outcome before after → TillFacts cell book t outcome before after
  reversal_facts frame (came.Undone u ksn state) takes = plainly (came.Undone u ksn state) (λ end fault reports. reports) (reversal_told cell book before after frame.items (reversal.Done state) takes.2)
  reversal_facts frame (came.GotRefusal u ksn reason) takes =
      plainly (came.GotRefusal u ksn reason) (λ end fault reports. reports) (reversal_told cell book before after frame.items (reversal.Refused reason) takes.2)
  reversal_facts frame (came.TillFaulted u why) takes = refused u why takes.0 (reversal_reply_refused cell book before after frame.items why takes.1)
  reversal_facts frame _ takes = absurd takes

  answer_facts : (frame : Frame) (outcome : Outcome) → TakesAnswer cell book t frame outcome before after → TillFacts cell book t outcome before after
  answer_facts frame outcome (inl comes) = reply_facts frame outcome comes.takes
  answer_facts frame outcome (inr comes) = reversal_facts frame outcome comes.1

restart_facts : {C B J I : Type 0} (m : Meanings C B J I) (t : ℕ) (before after : TillOf C B) (outcome : Outcome) → KnownTill m before → TakesRestart m.cell m.book t outcome before after → TillFacts m.cell m.book t outcome before after
restart_facts m t before after (came.TillNext u next state) known takes =
    plainly m.cell m.book t before after (came.TillNext u next state) (λ end fault reports. reports) (restarted m.cell m.book before after takes.2.0)
restart_facts m t before after (came.TillFaulted u why) known takes =
    refused m.cell m.book t before after u why takes.0 (restart_refused m.cell m.book before after known.bodies known.lasts why takes.1)
restart_facts m t before after _ known takes = absurd takes

terminal_facts : {C B J I : Type 0} (m : Meanings C B J I) (t steps passed : ℕ) (armed : End) (before after : TillOf C B) → armed ≡ ends.Terminal t → ArmsTerminalCell m steps before after
    → TillFacts m.cell m.book t (came.Armed armed passed) before after
terminal_facts m t steps passed armed before after is arms =
    let book = terminal_armed m.cell m.book before after arms.called in
    record {
      about = λ end fault reports. absurd reports;
      cell_sound = arms.called.stays.sound;
      book_sound = book.sound;
      cell_calm = λ calm unarmed. absurd (unarmed is);
      book_calm = λ calm unarmed. book.calm calm;
      of_terminal = none_reported (m.cell.state_of before.terminal.cell) (ReportsFault (came.Armed armed passed) (ends.Terminal t)) (λ fault reports. reports);
      of_book = none_reported (m.book.state_of before.book) (ReportsFault (came.Armed armed passed) (ends.Book t)) (λ fault reports. reports);
    }

book_facts : {C B J I : Type 0} (m : Meanings C B J I) (t steps passed : ℕ) (armed : End) (before after : TillOf C B) → armed ≡ ends.Book t → ArmsTillBook m steps before after
    → TillFacts m.cell m.book t (came.Armed armed passed) before after
book_facts m t steps passed armed before after is arms =
    let cell = book_armed m.cell m.book before after arms.called in
    record {
      about = λ end fault reports. absurd reports;
      cell_sound = cell.sound;
      book_sound = arms.called.stays.sound;
      cell_calm = λ calm unarmed. cell.calm calm;
      book_calm = λ calm unarmed. absurd (unarmed is);
      of_terminal = none_reported (m.cell.state_of before.terminal.cell) (ReportsFault (came.Armed armed passed) (ends.Terminal t)) (λ fault reports. reports);
      of_book = none_reported (m.book.state_of before.book) (ReportsFault (came.Armed armed passed) (ends.Book t)) (λ fault reports. reports);
    }

-- ---- the host

-- what an event of the host does to its journal, and which faults it reports: none but of that
record HostFacts {C B J I : Type 0} (m : Meanings C B J I) (outcome : Outcome) (before after : HostOf J I) : Type 0 where
  about : (end : End) (fault : StoreFault) → ReportsFault outcome end fault → end ≡ ends.Host
  sound : (m.host.journal.state_of before.journal).honest → (m.host.journal.state_of before.journal).sound → (m.host.journal.state_of after.journal).sound
  calm : (m.host.journal.state_of before.journal).calm → ¬ ReportsArming ends.Host outcome → (m.host.journal.state_of after.journal).calm
  spares : Spares (m.host.journal.state_of before.journal) (ReportsFault outcome ends.Host)

host_calm : {C B J I : Type 0} (m : Meanings C B J I) (old new : BooksOf C B J I) (outcome : Outcome) → new.tills ≡ old.tills → HostFacts m outcome old.host new.host
    → (end : End) → IsCalmAt m old end → ¬ ReportsArming end outcome → IsCalmAt m new end
host_calm m old new outcome tills facts ends.Host calm unarmed = facts.calm calm unarmed
host_calm m old new outcome tills facts (ends.Terminal t) calm unarmed = λ till at. calm till (subst (λ list. IsAt list t till) tills at)
host_calm m old new outcome tills facts (ends.Book t) calm unarmed = λ till at. calm till (subst (λ list. IsAt list t till) tills at)

-- an event of the host
host_step : {C B J I : Type 0} (m : Meanings C B J I) (old new : BooksOf C B J I) (outcome : Outcome) → KnownStores m old → new.tills ≡ old.tills → HostFacts m outcome old.host new.host → StepFacts m old outcome new
host_step m old new outcome known tills facts = record {
  sound = λ sound. record { journal = facts.sound known.host.honest sound.journal; tills = rw tills sound.tills };
  calm = host_calm m old new outcome tills facts;
  device = λ end calm reports.
      let is = facts.about end Device reports in
      facts.spares.device (subst (λ end. IsCalmAt m old end) is calm) (subst (λ end. ReportsFault outcome end Device) is reports);
  damaged = λ sound end reports. facts.spares.damaged known.host.honest sound.journal (subst (λ end. ReportsFault outcome end Damaged) (facts.about end Damaged reports) reports);
}

module _ {C B J I : Type 0} (m : Meanings C B J I) (old new : BooksOf C B J I) (known : KnownStores m old) where
  -- an event that is reported without a fault, and leaves the journal's nature
  host_plainly : (outcome : Outcome) → ReportsNoFault outcome → PreservesCalm (m.host.journal.state_of old.host.journal) (m.host.journal.state_of new.host.journal) → new.tills ≡ old.tills
      → StepFacts m old outcome new
  host_plainly outcome none keeps tills = host_step m old new outcome known tills (record {
    about = λ end fault reports. absurd (none end fault reports);
    sound = keeps.sound;
    calm = λ calm unarmed. keeps.calm calm;
    spares = none_reported (m.host.journal.state_of old.host.journal) (ReportsFault outcome ends.Host) (none ends.Host);
  })

  -- an event that is refused
  host_about : (why : HostFault) (end : End) (fault : StoreFault) → ReportsFault (came.HostFaulted why) end fault → end ≡ ends.Host
  host_about why ends.Host fault reports = refl
  host_about why (ends.Terminal t) fault reports = absurd reports
  host_about why (ends.Book t) fault reports = absurd reports

  host_refused : (why : HostFault) → RefusesHost m.host old.host new.host why → new.tills ≡ old.tills → StepFacts m old (came.HostFaulted why) new
  host_refused why refuses tills = host_step m old new (came.HostFaulted why) known tills (record {
    about = host_about why;
    sound = refuses.keeps.sound;
    calm = λ calm unarmed. refuses.keeps.calm calm;
    spares = refuses.spares;
  })

  -- ---- each event

  answered_step : (k : ℕ) (outcome : Outcome) → ReportsNoFault outcome → IsAnswered m old k outcome new → StepFacts m old outcome new
  answered_step k outcome none is = host_plainly outcome none (nature_kept _ _ is.answered.nature) (ap (λ books. books.tills) is.rest)

  up_step : (k : ℕ) (outcome : Outcome) → ReachesHost m old k outcome new → StepFacts m old outcome new
  up_step k came.NoSuchFrame up = nothing_step m old came.NoSuchFrame new up.1 (λ end fault reports. reports)
  up_step k (came.HostFaulted why) up = host_refused why (not_answered m.host old.host new.host known.host up.frame.items up.answers why up.faulted) (ap (λ books. books.tills) up.rest)
  up_step k (came.Accepted n ksn code) up = answered_step k (came.Accepted n ksn code) (λ end fault reports. reports) up
  up_step k (came.Repeated n ksn code) up = answered_step k (came.Repeated n ksn code) (λ end fault reports. reports) up
  up_step k (came.Refused n ksn reason) up = answered_step k (came.Refused n ksn reason) (λ end fault reports. reports) up
  up_step k (came.Reversed n ksn reversed state) up = answered_step k (came.Reversed n ksn reversed state) (λ end fault reports. reports) up
  up_step k _ up = absurd up.says

  restart_host_step : (outcome : Outcome) → RestartsHost m old outcome new → StepFacts m old outcome new
  restart_host_step (came.HostKeeps kept) is = host_plainly (came.HostKeeps kept) (λ end fault reports. reports) (nature_kept _ _ is.host.journal.settles.nature) (ap (λ books. books.tills) is.rest)
  restart_host_step (came.HostFaulted why) is = host_refused why (host_restart_refused m.host old.host new.host known.host why is.host) (ap (λ books. books.tills) is.rest)
  restart_host_step _ is = absurd is

  arm_host_step : (steps : ℕ) (outcome : Outcome) → ArmsHost m old steps outcome new → StepFacts m old outcome new
  arm_host_step steps (came.Armed armed passed) arms = host_step m old new (came.Armed armed passed) known (ap (λ books. books.tills) arms.3) (record {
    about = λ end fault reports. absurd reports;
    sound = arms.2.stays.sound;
    calm = λ calm unarmed. absurd (unarmed arms.0);
    spares = none_reported (m.host.journal.state_of old.host.journal) (ReportsFault (came.Armed armed passed) ends.Host) (λ fault reports. reports);
  })
  arm_host_step steps _ arms = absurd arms

  begin_step : (t : ℕ) (purchase : Purchase) (outcome : Outcome) → Begins m old t purchase outcome new → StepFacts m old outcome new
  begin_step t purchase came.NoSuchTill is = nothing_step m old came.NoSuchTill new is.1 (λ end fault reports. reports)
  begin_step t purchase (came.Sent u k ksn) is =
      let acts = is.1.till in
      till_step m old new t _ (came.Sent u k ksn) acts
      (plainly m.cell m.book t acts.before acts.after (came.Sent u k ksn) (λ end fault reports. reports) (begun m.cell m.book acts.before acts.after purchase _ _ acts.changed)) known (ap (λ books. books.host) is.1.rest)
  begin_step t purchase (came.TillFaulted u why) is =
      let acts = is.1.till in
      till_step m old new t _ (came.TillFaulted u why) acts
      (refused m.cell m.book t acts.before acts.after u why is.0 (begin_refused m.cell m.book acts.before acts.after purchase why acts.changed)) known (ap (λ books. books.host) is.1.rest)
  begin_step t purchase _ is = absurd is

  reverse_step : (t : ℕ) (outcome : Outcome) → Reverses m old t outcome new → StepFacts m old outcome new
  reverse_step t came.NoSuchTill is = nothing_step m old came.NoSuchTill new is.1 (λ end fault reports. reports)
  reverse_step t (came.Reversing u k ksn reversed) is =
      let acts = is.1.till in
      till_step m old new t _ (came.Reversing u k ksn reversed) acts
      (plainly m.cell m.book t acts.before acts.after (came.Reversing u k ksn reversed) (λ end fault reports. reports) (reversing m.cell m.book acts.before acts.after _ _ acts.changed)) known
      (ap (λ books. books.host) is.1.rest)
  reverse_step t (came.TillFaulted u why) is =
      let acts = is.1.till in
      till_step m old new t _ (came.TillFaulted u why) acts
      (refused m.cell m.book t acts.before acts.after u why is.0 (reverse_refused m.cell m.book acts.before acts.after why acts.changed)) known (ap (λ books. books.host) is.1.rest)
  reverse_step t _ is = absurd is

  arm_terminal_step : (t steps : ℕ) (outcome : Outcome) → ArmsTill (ends.Terminal t) t (ArmsTerminalCell m steps) old steps outcome new → StepFacts m old outcome new
  arm_terminal_step t steps came.NoSuchTill is = nothing_step m old came.NoSuchTill new is.1 (λ end fault reports. reports)
  arm_terminal_step t steps (came.Armed armed passed) is =
      let acts = is.2.till in
      till_step m old new t _ (came.Armed armed passed) acts (terminal_facts m t steps passed armed acts.before acts.after is.0 acts.changed) known (ap (λ books. books.host) is.2.rest)
  arm_terminal_step t steps _ is = absurd is

  arm_book_step : (t steps : ℕ) (outcome : Outcome) → ArmsTill (ends.Book t) t (ArmsTillBook m steps) old steps outcome new → StepFacts m old outcome new
  arm_book_step t steps came.NoSuchTill is = nothing_step m old came.NoSuchTill new is.1 (λ end fault reports. reports)
  arm_book_step t steps (came.Armed armed passed) is =
      let acts = is.2.till in
      till_step m old new t _ (came.Armed armed passed) acts (book_facts m t steps passed armed acts.before acts.after is.0 acts.changed) known (ap (λ books. books.host) is.2.rest)
  arm_book_step t steps _ is = absurd is

  -- what each step does
  pub step_facts : (event : Event) (outcome : Outcome) → Step m old event outcome new → StepFacts m old outcome new
  step_facts (event.Load t iksn) outcome step = elim step [
    | inl none ↦ nothing_step m old outcome new none.same (rw none.outcome_is (λ end fault reports. reports))
    | inr there ↦ elim there [
      | inl other ↦ nothing_step m old outcome new other.same (rw other.outcome_is (λ end fault reports. reports))
      | inr free ↦ elim free [
        | inl no_keys ↦ nothing_step m old outcome new no_keys.same (rw no_keys.outcome_is (λ end fault reports. reports))
        | inr given ↦
            let acts = given.till in
            till_step m old new t _ outcome acts (load_facts m.cell m.book t acts.before acts.after given.asked outcome acts.changed) known (ap (λ books. books.host) given.rest)
      ]
    ]
  ]
  step_facts (event.Begin t purchase) outcome step = begin_step t purchase outcome step
  step_facts (event.Reverse t) outcome step = reverse_step t outcome step
  step_facts (event.Up k) outcome step = up_step k outcome step
  step_facts (event.Down k t) outcome step = elim step [
    | inl none ↦ nothing_step m old outcome new none.same (rw none.outcome_is (λ end fault reports. reports))
    | inr there ↦ elim there [
      | inl missing ↦ nothing_step m old outcome new missing.same (rw missing.outcome_is (λ end fault reports. reports))
      | inr is ↦
          let acts = is.till in
          till_step m old new t _ outcome acts (answer_facts m.cell m.book t acts.before acts.after is.frame outcome acts.changed) known (ap (λ books. books.host) is.rest)
    ]
  ]
  step_facts (event.RestartTill t) outcome step = elim step [
    | inl none ↦ nothing_step m old outcome new none.same (rw none.outcome_is (λ end fault reports. reports))
    | inr is ↦
        let acts = is.till in
        till_step m old new t _ outcome acts
        (restart_facts m t acts.before acts.after outcome (known.tills t acts.before (before_at t _ old.tills new.tills acts)) acts.changed) known (ap (λ books. books.host) is.rest)
  ]
  step_facts event.RestartHost outcome step = restart_host_step outcome step
  step_facts (event.Arm ends.Host steps) outcome step = arm_host_step steps outcome step
  step_facts (event.Arm (ends.Terminal t) steps) outcome step = arm_terminal_step t steps outcome step
  step_facts (event.Arm (ends.Book t) steps) outcome step = arm_book_step t steps outcome step

  -- what the host leaves that is refused memory
  pub left_facts : IsLeft m old new → StepFacts m old (came.HostFaulted host_fault.NoMemory) new
  left_facts (inl left) = host_refused host_fault.NoMemory (host_restart_refused m.host old.host new.host known.host host_fault.NoMemory left.host) (ap (λ books. books.tills) left.rest)
  left_facts (inr (k, out)) = host_refused host_fault.NoMemory (not_answered m.host old.host new.host known.host out.frame.items out.answers host_fault.NoMemory out.first) (ap (λ books. books.tills) out.rest)
