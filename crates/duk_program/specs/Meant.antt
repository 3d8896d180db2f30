-- What the program does for a request (this project's own, over what each command makes of its
-- arguments).
use Rattle.std.specs.Prelude.{◌≡◌, ◌⊎◌, ℕ, Bool, List, Option, Some, None, codes}
use Rattle.duk_arguments.specs.Request.{Written, flag_in, text_in}
use Rattle.duk_arguments.specs.declared.name.CommandName.{CommandName}
use Rattle.duk_arguments.specs.declared.name.CommandName.TheVariants as name
use Rattle.duk_commands.specs.Batch.{IsBatchDone, IsBatchNotDone}
use Rattle.duk_commands.specs.HandedOn.{HasFailed, HasHandedOn}
use Rattle.duk_commands.specs.declared.batch.fault.BatchFault.{BatchFault}
use Rattle.duk_commands.specs.declared.batch.fault.BatchFault.TheVariants.{WriteFailed}
use Rattle.duk_commands.specs.declared.fault.Fault.{Fault as CommandFault}
use Rattle.duk_commands.specs.declared.issue.fault.IssueFault.{IssueFault}
use Rattle.duk_host.specs.Serve.{Supply}
use Rattle.duk_io.specs.Sink.{IsUntouched}
use Rattle.duk_program.specs.Commands.{IsCommandDone, IsCommandNotDone, IsDoneWhole, IsNotDoneWhole, message_command}
use Rattle.duk_program.specs.Find.{HasFoundIt, HasNotFoundIt}
use Rattle.duk_program.specs.InputLine.{with_input}
use Rattle.duk_program.specs.IssueFiles.{HasIssuedFiles, HasNotIssuedFiles, IssueFilesKnown, issue_files_known}
use Rattle.duk_program.specs.Items.{AreOthersReady, AreOthersRefused, LineItems, command_of_line, items_of}
use Rattle.duk_program.specs.Lmk.{HasNotPrintedLmk, HasPrintedLmk}
use Rattle.duk_program.specs.Message.{HasUnreadText, IsMessage, message_of}
use Rattle.duk_program.specs.NewJournal.{IsCopyMade, IsCopyUnmade, IsLedgerCopyMade, IsLedgerCopyUnmade, IsNewJournalMade, IsNewJournalUnmade, IsNewLedgerMade, IsNewLedgerUnmade}
use Rattle.duk_program.specs.Random.{random_device}
use Rattle.duk_program.specs.Refusal.{IsEndStatus}
use Rattle.duk_program.specs.Roots.{IsBehindNote}
use Rattle.duk_program.specs.RunFiles.{FileRun, HasNotRunFiles, HasRunFiles, file_run}
use Rattle.duk_program.specs.Scene.{Scene, input_in, reading_on, writers_of}
use Rattle.duk_program.specs.Secrets.{HasMeaning, IsInputTaken, IsSecretFault, inputs_in, secrets_in}
use Rattle.duk_program.specs.ServeFiles.{FileService, HasNotServedFiles, HasServedFiles, file_service, kept_in}
use Rattle.duk_program.specs.Show.{HasNotShownAsked, HasShownAsked}
use Rattle.duk_program.specs.declared.fault.Fault.{Fault}
use Rattle.duk_program.specs.declared.fault.Fault.TheVariants as fault
use Rattle.duk_program.specs.declared.secrets.SecretFault.{SecretFault}
use Rattle.duk_service.specs.Files.{FileKnown}
use Rattle.duk_service.specs.GrowJournal.{HasGrownJournal, IsGrowJournalRefused}
use Rattle.duk_service.specs.LogFiles.{MakingKnown}
use Rattle.duk_service.specs.NewFile.{HasMadeFile, IsNewFileRefused}
use Rattle.duk_service.specs.Serve.{HasNothingServed, Serving}
use Rattle.duk_service.specs.declared.grow_journal.GrowJournalFault.{GrowJournalFault}
use Rattle.duk_service.specs.declared.left_records.RecordFormat.TheVariants as kind
use Rattle.duk_service.specs.declared.new_file.NewFile.TheVariants.{Log}
use Rattle.duk_service.specs.declared.new_file.NewFileFault.{NewFileFault}
use Rattle.duk_store.specs.Disk.{DiskMeaning}

-- a run over the files of a request
abbrev pub run_in : {D : Type 0} → Scene D → Written → FileRun
run_in s asked = file_run (s.held (text_in (codes "CONFIG") asked))
    (s.held (text_in (codes "SCRIPT") asked)) (flag_in (codes "journal") asked)
    s.streams.output_before s.streams.output_after

-- a service under the configuration of a request, where it keeps the used numbers
abbrev pub service_in : {D : Type 0} → Scene D → Written → FileService D
service_in s asked =
    file_service (s.held (text_in (codes "CONFIG") asked)) (kept_in s.disks asked) s.streams

-- the files that `issue` needs
abbrev pub issue_in : {D : Type 0} → Scene D → Written → IssueFilesKnown D
issue_in s asked =
    issue_files_known s.held (s.disks (text_in (codes "ledger") asked)) s.making

-- the new file of a request
abbrev pub new_in : {D : Type 0} → Scene D → Written → MakingKnown D
new_in s asked = s.making (text_in (codes "FILE") asked)

-- it came to this, and nothing is read or printed
pub record IsIdle {D : Type 0} (s : Scene D) (Came : Type 0) : Type 0 where
  pub came : Came
  pub idle : HasNothingServed s.streams

-- it came to this, and nothing is told beside the answer
pub record IsUntold {D : Type 0} (s : Scene D) (Came : Type 0) : Type 0 where
  pub came : Came
  pub no_note : IsUntouched s.fault_before s.fault_after

-- `mac` or `data` is done over the bytes that its TEXT stands for
pub record IsDoneOverMessage (held : List ℕ → FileKnown) (s : Serving) (asked : Written) : Type 0 where
  pub message : List ℕ
  pub read : IsMessage held s.input_before s.input_after
      (message_of (text_in (codes "TEXT") asked)) message
  pub done : IsDoneWhole (message_command asked message) s.output_before s.output_after

-- it came to this, and nothing is read of the input
pub record HasLeftInput (s : Serving) (Came : Type 0) : Type 0 where
  pub came : Came
  pub left : s.input_after ≡ s.input_before

-- a command that tells nothing beside its answer is done
abbrev pub IsDoneUntold : {D : Type 0} → DiskMeaning D → Scene D → CommandName → Written → Type 0
IsDoneUntold meaning s name.Run asked = HasLeftInput s.streams (HasRunFiles (run_in s asked))
IsDoneUntold meaning s name.Serve asked = HasServedFiles meaning (service_in s asked)
IsDoneUntold meaning s name.NewLog asked = IsIdle s
    (HasMadeFile Log meaning (new_in s asked) (text_in (codes "RECORDS") asked))
IsDoneUntold meaning s name.NewJournal asked = IsIdle s (IsNewJournalMade meaning
    (s.held random_device) (new_in s asked) (text_in (codes "RECORDS") asked))
IsDoneUntold meaning s name.NewLedger asked = IsIdle s (IsNewLedgerMade meaning
    (s.held random_device) (new_in s asked) (text_in (codes "RECORDS") asked))
IsDoneUntold meaning s name.GrowJournal asked = IsIdle s (HasGrownJournal meaning
    (s.disks (text_in (codes "FILE") asked)) (text_in (codes "RECORDS") asked))
IsDoneUntold meaning s name.CopyJournal asked = IsIdle s (IsCopyMade meaning (s.held random_device)
    (s.disks (text_in (codes "OLD") asked)) (s.making (text_in (codes "NEW") asked)))
IsDoneUntold meaning s name.CopyLedger asked = IsIdle s (IsLedgerCopyMade meaning
    (s.held random_device) (s.disks (text_in (codes "OLD") asked))
    (s.making (text_in (codes "NEW") asked)))
IsDoneUntold meaning s name.Show asked = HasLeftInput s.streams (HasShownAsked asked
    (s.held (text_in (codes "WHAT") asked)) s.streams.output_before s.streams.output_after)
IsDoneUntold meaning s name.Lmk asked = HasLeftInput s.streams
    (HasPrintedLmk asked s.streams.output_before s.streams.output_after)
IsDoneUntold meaning s name.Mac asked = IsDoneOverMessage s.held s.streams asked
IsDoneUntold meaning s name.Data asked = IsDoneOverMessage s.held s.streams asked
IsDoneUntold meaning s _ asked = HasLeftInput s.streams
    (IsCommandDone asked s.streams.output_before s.streams.output_after)

-- no log is made, and nothing is read or printed
pub record IsLogUnmade {D : Type 0} (meaning : DiskMeaning D) (s : Scene D) (asked : Written)
    (why : Fault) : Type 0 where
  pub cause : NewFileFault
  pub why_is : why ≡ fault.NewFile kind.Log cause
  pub refused : IsIdle s (IsNewFileRefused Log meaning (new_in s asked)
      (text_in (codes "RECORDS") asked) cause)

-- no journal is made larger, and nothing is read or printed
pub record IsJournalUngrown {D : Type 0} (meaning : DiskMeaning D) (s : Scene D) (asked : Written)
    (why : Fault) : Type 0 where
  pub cause : GrowJournalFault
  pub why_is : why ≡ fault.GrowJournal cause
  pub refused : IsIdle s (IsGrowJournalRefused meaning
      (s.disks (text_in (codes "FILE") asked)) (text_in (codes "RECORDS") asked) cause)

-- TEXT is read, and `mac` or `data` over it is not done
pub record IsNotDoneOverRead (held : List ℕ → FileKnown) (s : Serving) (asked : Written) (why : Fault)
    : Type 0 where
  pub message : List ℕ
  pub read : IsMessage held s.input_before s.input_after
      (message_of (text_in (codes "TEXT") asked)) message
  pub not_done : IsNotDoneWhole (message_command asked message) s.output_before why s.output_after

-- why `mac` or `data` is not done
abbrev pub IsNotDoneOverMessage : (List ℕ → FileKnown) → Serving → Written → Fault → Type 0
IsNotDoneOverMessage held s asked why =
    HasUnreadText held s (Some (text_in (codes "TEXT") asked)) why
    ⊎ IsNotDoneOverRead held s asked why

-- why it is not done: of files, the first fault in the order that is told there
abbrev pub IsNotDoneUntold : {D : Type 0} → DiskMeaning D → Scene D → CommandName → Written → Fault
    → Type 0
IsNotDoneUntold meaning s name.Run asked why =
    HasLeftInput s.streams (HasNotRunFiles (run_in s asked) why)
IsNotDoneUntold meaning s name.Serve asked why = HasNotServedFiles meaning (service_in s asked) why
IsNotDoneUntold meaning s name.NewLog asked why = IsLogUnmade meaning s asked why
IsNotDoneUntold meaning s name.NewJournal asked why = IsIdle s (IsNewJournalUnmade meaning
    (s.held random_device) (new_in s asked) (text_in (codes "RECORDS") asked) why)
IsNotDoneUntold meaning s name.NewLedger asked why = IsIdle s (IsNewLedgerUnmade meaning
    (s.held random_device) (new_in s asked) (text_in (codes "RECORDS") asked) why)
IsNotDoneUntold meaning s name.GrowJournal asked why = IsJournalUngrown meaning s asked why
IsNotDoneUntold meaning s name.CopyJournal asked why = IsIdle s (IsCopyUnmade meaning
    (s.held random_device) (s.disks (text_in (codes "OLD") asked))
    (s.making (text_in (codes "NEW") asked)) why)
IsNotDoneUntold meaning s name.CopyLedger asked why = IsIdle s (IsLedgerCopyUnmade meaning
    (s.held random_device) (s.disks (text_in (codes "OLD") asked))
    (s.making (text_in (codes "NEW") asked)) why)
IsNotDoneUntold meaning s name.Show asked why = HasLeftInput s.streams (HasNotShownAsked asked
    (s.held (text_in (codes "WHAT") asked)) s.streams.output_before why s.streams.output_after)
IsNotDoneUntold meaning s name.Lmk asked why = HasLeftInput s.streams
    (HasNotPrintedLmk asked s.streams.output_before why s.streams.output_after)
IsNotDoneUntold meaning s name.Mac asked why = IsNotDoneOverMessage s.held s.streams asked why
IsNotDoneUntold meaning s name.Data asked why = IsNotDoneOverMessage s.held s.streams asked why
IsNotDoneUntold meaning s _ asked why = HasLeftInput s.streams
    (IsCommandNotDone asked s.streams.output_before why s.streams.output_after)

-- a command is done over its arguments, files and streams alone; `find` tells its progress, and
-- `issue` how many numbers it passed over
abbrev pub IsDoneBy : {D : Type 0} → DiskMeaning D → Scene D → CommandName → Written → Type 0
IsDoneBy meaning s name.Find asked = HasFoundIt s.held s.streams asked (writers_of s)
IsDoneBy meaning s name.Issue asked =
    HasLeftInput s.streams (HasIssuedFiles meaning (issue_in s asked) asked (writers_of s))
IsDoneBy meaning s command asked = IsUntold s (IsDoneUntold meaning s command asked)

-- a request is done so
abbrev pub IsDoneAlone : {D : Type 0} → DiskMeaning D → Scene D → Written → Type 0
IsDoneAlone meaning s asked = IsDoneBy meaning s asked.command asked

-- why it is not done
abbrev pub IsNotDoneBy : {D : Type 0} → DiskMeaning D → Scene D → CommandName → Written → Fault → Type 0
IsNotDoneBy meaning s name.Find asked why = HasNotFoundIt s.held s.streams asked (writers_of s) why
IsNotDoneBy meaning s name.Issue asked why = (cause : IssueFault) × (why ≡ fault.Issue cause)
    × HasLeftInput s.streams
    (HasNotIssuedFiles meaning (issue_in s asked) asked (writers_of s) cause)
IsNotDoneBy meaning s command asked why = IsUntold s (IsNotDoneUntold meaning s command asked why)

abbrev pub IsNotDoneAlone : {D : Type 0} → DiskMeaning D → Scene D → Written → Fault → Type 0
IsNotDoneAlone meaning s asked why = IsNotDoneBy meaning s asked.command asked why

-- each line of the input is answered, and the answers are handed on
abbrev pub AreAllAnswered : Bool → LineItems → Serving → Type 0
AreAllAnswered explained items s = HasHandedOn
    (IsBatchDone (command_of_line explained items) (input_in s) s.output_before) s.output_after

-- why not each is
abbrev pub AreNotAllAnswered : Bool → LineItems → Serving → BatchFault → Type 0
AreNotAllAnswered explained items s why = HasFailed
    (IsBatchDone (command_of_line explained items) (input_in s) s.output_before)
    (λ cause written.
    IsBatchNotDone (command_of_line explained items) (input_in s) cause s.output_before written)
    WriteFailed why s.output_after

-- a command is done for each line of the input
pub record AreItemsDone (explained : Bool) (items : LineItems) (s : Serving) : Type 0 where
  pub others : AreOthersReady items
  pub answered : AreAllAnswered explained items s

-- what it has beside its items is refused, before anything is read or printed
pub record AreItemsUnbegun (items : LineItems) (s : Serving) (why : Fault) : Type 0 where
  pub cause : CommandFault
  pub why_is : why ≡ fault.Command cause
  pub refused : AreOthersRefused items cause
  pub idle : HasNothingServed s

-- it is begun, and not done for each line
pub record HaveItemsFailed (explained : Bool) (items : LineItems) (s : Serving) (why : Fault)
    : Type 0 where
  pub cause : BatchFault
  pub why_is : why ≡ fault.Batch cause
  pub others : AreOthersReady items
  pub failed : AreNotAllAnswered explained items s cause

-- why it is not done
abbrev pub AreItemsNotDone : Bool → LineItems → Serving → Fault → Type 0
AreItemsNotDone explained items s why =
    AreItemsUnbegun items s why ⊎ HaveItemsFailed explained items s why

-- a command is done over the lines of the input, where there are such, or else alone
abbrev pub IsDoneOver : {D : Type 0} → Option LineItems → Bool → DiskMeaning D → Scene D → Written
    → Type 0
IsDoneOver None explained meaning s asked = IsDoneAlone meaning s asked
IsDoneOver (Some items) explained meaning s asked =
    IsUntold s (AreItemsDone explained items s.streams)

-- why it is not
abbrev pub IsNotDoneOver : {D : Type 0} → Option LineItems → Bool → DiskMeaning D → Scene D → Written
    → Fault → Type 0
IsNotDoneOver None explained meaning s asked why = IsNotDoneAlone meaning s asked why
IsNotDoneOver (Some items) explained meaning s asked why =
    IsUntold s (AreItemsNotDone explained items s.streams why)

-- a request without references is done
abbrev pub IsAnswered : {D : Type 0} → Bool → DiskMeaning D → Scene D → Written → Type 0
IsAnswered explained meaning s asked = IsDoneOver (items_of asked) explained meaning s asked

-- why it is not
abbrev pub IsNotAnswered : {D : Type 0} → Bool → DiskMeaning D → Scene D → Written → Fault → Type 0
IsNotAnswered explained meaning s asked = IsNotDoneOver (items_of asked) explained meaning s asked

-- what there is under each path to which a secret refers
abbrev pub referred_in : {D : Type 0} → Scene D → List ℕ → FileKnown
referred_in s = with_input s.held s.streams.input_before

-- the request is answered over what its secrets stand for, in this way. The input then is what it was
-- before, but for its first line where one of them refers to it
pub record IsMeant {D : Type 0} (s : Scene D) (asked : Written) (Answered : Scene D → Written → Type 0)
    : Type 0 where
  pub input : Supply
  pub read : IsInputTaken (inputs_in (secrets_in asked)) s.streams.input_before input
  pub meant : Written
  pub means : HasMeaning (referred_in s) asked meant
  pub answered : Answered (reading_on s input) meant

-- a request without references is answered, and this is its status
pub record IsAnsweredAs {D : Type 0} (status : ℕ) (explained : Bool) (meaning : DiskMeaning D)
    (s : Scene D) (asked : Written) : Type 0 where
  pub answered : IsAnswered explained meaning s asked
  pub status_is : IsEndStatus asked status

-- the same behind its note
abbrev pub IsEndedAs : {D : Type 0} → ℕ → Bool → DiskMeaning D → Scene D → Written → Type 0
IsEndedAs status explained meaning s asked =
    IsBehindNote explained s asked (IsAnsweredAs status explained meaning)

-- why it is not, behind its note
abbrev pub IsUnended : {D : Type 0} → Bool → DiskMeaning D → Scene D → Written → Fault → Type 0
IsUnended explained meaning s asked why = IsBehindNote explained s asked
    (λ telling asked. IsNotAnswered explained meaning telling asked why)

-- a request is done, with this status
abbrev pub IsRequestDone : {D : Type 0} → ℕ → Bool → DiskMeaning D → Scene D → Written → Type 0
IsRequestDone status explained meaning s asked =
    IsMeant s asked (IsEndedAs status explained meaning)

-- a secret is not read, and nothing is written
pub record HasUnreadSecret {D : Type 0} (s : Scene D) (asked : Written) (why : Fault) : Type 0 where
  pub cause : SecretFault
  pub why_is : why ≡ fault.Secret cause
  pub unread : IsSecretFault s.held s.streams.input_before s.streams.input_after asked cause
  pub no_output : IsUntouched s.streams.output_before s.streams.output_after
  pub no_note : IsUntouched s.fault_before s.fault_after

-- why a request is not done
abbrev pub IsRequestNotDone : {D : Type 0} → Bool → DiskMeaning D → Scene D → Written → Fault → Type 0
IsRequestNotDone explained meaning s asked why =
    HasUnreadSecret s asked why
    ⊎ IsMeant s asked (λ reading meant. IsUnended explained meaning reading meant why)
