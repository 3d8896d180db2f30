-- What `issue` does over the file of its ledger (this project's own, over what it does with a
-- ledger).
use Rattle.std.specs.Prelude.{◌≡◌, ◌⊎◌, ◌*◌, ⊤, ℕ, zero, suc, Bool, true, false, List, Option, Some, None, codes, if◌then◌else◌}
use Rattle.duk_program.specs.declared.commands.issue.IfIssued.{IfIssued}
use Rattle.duk_program.specs.declared.commands.issue.IfIssued.TheVariants as if_issued
use Rattle.duk_arguments.specs.Request.{Written, flag_in, text_in, value_in}
use Rattle.duk_commands.specs.Answer.{Streams, streams}
use Rattle.duk_commands.specs.HandedOn.{HasFailed, IsFlushLost}
use Rattle.duk_io.specs.Known.{Known}
use Rattle.duk_io.specs.Sink.{IsTried, IsUntouched}
use Rattle.duk_commands.specs.Again.{AreMadeAgain, NotMadeAgain}
use Rattle.duk_commands.specs.Issue.{Ends, HasIssuedBut, IssueFailed, ends, job}
use Rattle.duk_commands.specs.IssuedLines.{passed_over_line}
use Rattle.duk_commands.specs.Order.{IsOrderOf, IsOrderRefused, OrderArguments, order_arguments}
use Rattle.duk_commands.specs.declared.issue.fault.IssueFault.{IssueFault}
use Rattle.duk_commands.specs.declared.issue.fault.IssueFault.TheVariants as fault
use Rattle.duk_commands.specs.declared.issue.order.Order.{Order}
use Rattle.duk_program.specs.Random.{random_device}
use Rattle.duk_service.specs.Files.{FileKnown, IsFrontRead, IsShorterThan}
use Rattle.duk_service.specs.LogFiles.{AreLinesMade, AreNoLines, DiskKnown, LinesKnown, MakingKnown}
use Rattle.duk_service.specs.OwnFiles.{IsNoOwnDisk, IsOwnDisk}
use Rattle.duk_service.specs.declared.left_records.RecordFormat.TheVariants.{Ledger}
use Rattle.duk_service.specs.declared.own_files.OpenFault.TheVariants as open_fault
use Rattle.duk_store.specs.Disk.{DiskMeaning}
use Rattle.duk_ledger.specs.Ledger.{ledger_meaning, new_ledger}
use Rattle.duk_ledger.specs.declared.issued.Issued.{Issued}
use Rattle.duk_store.specs.Listed.{ListMeaning}

-- the order of a request
abbrev pub order_in : Written → OrderArguments
order_in asked = order_arguments (text_in (codes "BDK") asked) (text_in (codes "LOADING") asked)
    (text_in (codes "IKSN") asked) (text_in (codes "COUNT") asked)
    (value_in (codes "bdk-kcv") asked)

-- what becomes of issued numbers, by what the request says
abbrev pub if_issued_in : Written → IfIssued
if_issued_in asked =
    if flag_in (codes "again") asked then if_issued.MakeAgain
    else if flag_in (codes "skip-issued") asked then if_issued.PassOver
    else if_issued.Refuse

-- they are passed over
abbrev pub is_passed_over : IfIssued → Bool
is_passed_over if_issued.PassOver = true
is_passed_over _ = false

-- an order, what becomes of issued numbers, and the bytes of padding
pub record IssueTask : Type 0 where
  pub order : Order
  pub if_issued : IfIssued
  pub padding : List ℕ

-- the three together
abbrev pub issue_task : Order → IfIssued → List ℕ → IssueTask
issue_task order if_issued padding =
    record { order = order; if_issued = if_issued; padding = padding }

-- what a ledger is when it is made, and the writers before and after
pub record Issuing (L : Type 0) : Type 0 where
  pub made : L
  pub streams : Streams

-- the two together
abbrev pub issuing : {L : Type 0} → L → Streams → Issuing L
issuing made s = record { made = made; streams = s }

-- the lines of an order are made, by what becomes of issued numbers, of which so many are passed
-- over
abbrev pub AreLinesMadeBy : IfIssued → {L : Type 0} → ListMeaning L Issued → Order → List ℕ → Ends L → Ends L
    → ℕ → Type 0
AreLinesMadeBy if_issued.MakeAgain meaning order padding old new passed_over =
    AreMadeAgain meaning order padding old new × (passed_over ≡ 0)
AreLinesMadeBy way meaning order padding old new passed_over =
    HasIssuedBut meaning (job order (is_passed_over way) padding) old new passed_over

-- not all of them are made
abbrev pub AreLinesUnmadeBy : IfIssued → {L : Type 0} → ListMeaning L Issued → Order → List ℕ → Ends L
    → Ends L → IssueFault → Type 0
AreLinesUnmadeBy if_issued.MakeAgain meaning order padding old new why =
    NotMadeAgain meaning order padding old new why
AreLinesUnmadeBy way meaning order padding old new why =
    IssueFailed meaning (job order (is_passed_over way) padding) old new why

abbrev pub HasMadeLines : {L : Type 0} → ListMeaning L Issued → IssueTask → Ends L → Ends L → ℕ → Type 0
HasMadeLines meaning task =
    AreLinesMadeBy task.if_issued meaning task.order task.padding

abbrev pub HasNotMadeLines : {L : Type 0} → ListMeaning L Issued → IssueTask → Ends L → Ends L → IssueFault
    → Type 0
HasNotMadeLines meaning task =
    AreLinesUnmadeBy task.if_issued meaning task.order task.padding

-- how many numbers were passed over is noted, where there are any
abbrev pub IsNoted : ℕ → Known → Known → Type 0
IsNoted zero old new = IsUntouched old new
IsNoted (suc more) old new = IsTried old new (passed_over_line (suc more))

-- a task is done over a ledger, and nothing is written behind its lines
pub record IsIssuedOver {L : Type 0} (meaning : ListMeaning L Issued) (task : IssueTask) (i : Issuing L)
    : Type 0 where
  pub last : L
  pub written : Known
  pub passed_over : ℕ
  pub made : HasMadeLines meaning task (ends i.made i.streams.output_before) (ends last written)
      passed_over
  pub kept : IsUntouched written i.streams.output_after
  pub noted : IsNoted passed_over i.streams.fault_before i.streams.fault_after

-- what a task comes to when its output makes this known: all lines are made
abbrev pub HasMadeAll : {L : Type 0} → ListMeaning L Issued → IssueTask → Issuing L → Known → Type 0
HasMadeAll {L} meaning task i written = (last : L) × (passed_over : ℕ)
    × HasMadeLines meaning task (ends i.made i.streams.output_before) (ends last written) passed_over

-- or not, for this reason
abbrev pub HasStopped : {L : Type 0} → ListMeaning L Issued → IssueTask → Issuing L → IssueFault → Known → Type 0
HasStopped {L} meaning task i why written = (last : L)
    × HasNotMadeLines meaning task (ends i.made i.streams.output_before) (ends last written) why

-- why a task is not done over a ledger: not all lines are made, or they could not be handed on;
-- nothing is noted then
pub record IsNotIssuedOver {L : Type 0} (meaning : ListMeaning L Issued) (task : IssueTask) (i : Issuing L)
    (why : IssueFault) : Type 0 where
  pub failed : HasFailed (HasMadeAll meaning task i) (HasStopped meaning task i) fault.WriteFailed
      why i.streams.output_after
  pub no_note : IsUntouched i.streams.fault_before i.streams.fault_after

-- the lines go to a new file: what is done with the writer to it, of which this is known before and
-- after. Nothing is written to the output
pub record IsOverLines {L : Type 0} (lines : LinesKnown) (i : Issuing L)
    (Ends : Issuing L → Type 0) : Type 0 where
  pub made : Known
  pub last : Known
  pub are_made : AreLinesMade lines made
  pub end : Ends (issuing i.made (streams made last i.streams.fault_before i.streams.fault_after))
  pub no_output : IsUntouched i.streams.output_before i.streams.output_after

-- a task is done with its lines in a new file
abbrev pub IsIssuedToFile : {L : Type 0} → ListMeaning L Issued → LinesKnown → IssueTask → Issuing L → Type 0
IsIssuedToFile meaning lines task i = IsOverLines lines i (IsIssuedOver meaning task)

-- nothing is written or noted
pub record IsUntold (s : Streams) : Type 0 where
  pub no_output : IsUntouched s.output_before s.output_after
  pub no_note : IsUntouched s.fault_before s.fault_after

-- what was held back before could not be handed on
pub record HasLostFirst (s : Streams) : Type 0 where
  pub lost : IsFlushLost s.output_before s.output_after
  pub no_note : IsUntouched s.fault_before s.fault_after

-- no new file can be made
pub record HasNoLines (lines : LinesKnown) (s : Streams) : Type 0 where
  pub unmade : AreNoLines lines
  pub untold : IsUntold s

-- why a task is not done with its lines in a new file
abbrev pub IsNotIssuedToFile : {L : Type 0} → ListMeaning L Issued → LinesKnown → IssueTask → Issuing L
    → IssueFault → Type 0
IsNotIssuedToFile meaning lines task i why =
    ((why ≡ fault.WriteFailed) × HasLostFirst i.streams)
    ⊎ ((why ≡ fault.OutUnmade) × HasNoLines lines i.streams)
    ⊎ IsOverLines lines i (λ over. IsNotIssuedOver meaning task over why)

-- a task is done with the lines on the output, or in a new file under a path
abbrev pub IsIssuedTo : {L D : Type 0} → ListMeaning L Issued → (List ℕ → MakingKnown D)
    → Option (List ℕ) → IssueTask → Issuing L → Type 0
IsIssuedTo meaning making None = IsIssuedOver meaning
IsIssuedTo meaning making (Some path) = IsIssuedToFile meaning (making path).lines

-- why it is not
abbrev pub IsNotIssuedTo : {L D : Type 0} → ListMeaning L Issued → (List ℕ → MakingKnown D)
    → Option (List ℕ) → IssueTask → Issuing L → IssueFault → Type 0
IsNotIssuedTo meaning making None = IsNotIssuedOver meaning
IsNotIssuedTo meaning making (Some path) = IsNotIssuedToFile meaning (making path).lines

-- what files make known of what `issue` needs of them: the system's random device, the disk of the
-- ledger, and new files
pub record IssueFilesKnown (D : Type 0) : Type 0 where
  pub random : FileKnown
  pub ledger : DiskKnown D
  pub making : List ℕ → MakingKnown D

abbrev pub issue_files_known : {D : Type 0} → (List ℕ → FileKnown) → DiskKnown D
    → (List ℕ → MakingKnown D) → IssueFilesKnown D
issue_files_known held ledger making =
    record { random = held random_device; ledger = ledger; making = making }

-- the disk of the ledger's file is opened. Where it is honest, its bytes are such as a ledger leaves
abbrev pub IsLedgerOpened : {D : Type 0} → DiskMeaning D → DiskKnown D → D → Type 0
IsLedgerOpened meaning known = IsOwnDisk Ledger meaning known

-- why it is not, and nothing is written then
abbrev pub IsLedgerUnopened : {D : Type 0} → DiskMeaning D → DiskKnown D → IssueFault → Type 0
IsLedgerUnopened meaning known fault.LedgerUnopened = IsNoOwnDisk Ledger meaning known open_fault.Unopened
IsLedgerUnopened meaning known fault.LedgerFailed = IsNoOwnDisk Ledger meaning known open_fault.Failed
IsLedgerUnopened meaning known fault.LedgerOldVersion = IsNoOwnDisk Ledger meaning known open_fault.OldVersion
IsLedgerUnopened meaning known fault.LedgerDamaged = IsNoOwnDisk Ledger meaning known open_fault.Foreign
IsLedgerUnopened meaning known _ = ⊥

-- the arguments are read; there is padding of the system's random device, six bytes for each key;
-- and the disk of the ledger's file is opened
pub record IsBegun {D : Type 0} (meaning : DiskMeaning D) (known : IssueFilesKnown D)
    (asked : Written) (Ends : IssueTask → D → Type 0) : Type 0 where
  pub order : Order
  pub read : IsOrderOf (order_in asked) order
  pub padding : List ℕ
  pub padding_read : IsFrontRead known.random (6 * order.count) padding
  pub disk : D
  pub opened : IsLedgerOpened meaning known.ledger disk
  pub end : Ends (issue_task order (if_issued_in asked) padding) disk

-- all keys are issued over the ledger of the file
abbrev pub HasIssuedFiles : {D : Type 0} → DiskMeaning D → IssueFilesKnown D → Written → Streams
    → Type 0
HasIssuedFiles meaning known asked s = IsBegun meaning known asked
    (λ task disk. IsIssuedTo (ledger_meaning meaning) known.making
    (value_in (codes "out") asked) task (issuing (new_ledger disk) s))

-- the arguments are refused, and nothing is written
pub record HasNoOrder (asked : Written) (s : Streams) (why : IssueFault) : Type 0 where
  pub cause : IsOrderRefused (order_in asked) why
  pub untold : IsUntold s

-- why there is no padding for so many keys; memory may be refused at any time
abbrev pub IsPaddingRefused : FileKnown → ℕ → IssueFault → Type 0
IsPaddingRefused random count fault.PaddingUnread = IsShorterThan (6 * count) random
IsPaddingRefused random count fault.OutOfMemory = ⊤
IsPaddingRefused random count why = ⊥

-- there is an order, no padding for it, and nothing is written
pub record HasNoPadding (random : FileKnown) (asked : Written) (s : Streams)
    (why : IssueFault) : Type 0 where
  pub order : Order
  pub read : IsOrderOf (order_in asked) order
  pub cause : IsPaddingRefused random order.count why
  pub untold : IsUntold s

-- there is an order, and padding for it, the ledger's file is not opened, and nothing is written
pub record HasNoLedger {D : Type 0} (meaning : DiskMeaning D) (known : IssueFilesKnown D)
    (asked : Written) (s : Streams) (why : IssueFault) : Type 0 where
  pub order : Order
  pub read : IsOrderOf (order_in asked) order
  pub padding : List ℕ
  pub padding_read : IsFrontRead known.random (6 * order.count) padding
  pub cause : IsLedgerUnopened meaning known.ledger why
  pub untold : IsUntold s

-- why the keys are not issued: the first of these
abbrev pub HasNotIssuedFiles : {D : Type 0} → DiskMeaning D → IssueFilesKnown D → Written → Streams
    → IssueFault → Type 0
HasNotIssuedFiles meaning known asked s why =
    HasNoOrder asked s why ⊎ HasNoPadding known.random asked s why
    ⊎ HasNoLedger meaning known asked s why
    ⊎ IsBegun meaning known asked
    (λ task disk. IsNotIssuedTo (ledger_meaning meaning) known.making
    (value_in (codes "out") asked) task (issuing (new_ledger disk) s) why)
