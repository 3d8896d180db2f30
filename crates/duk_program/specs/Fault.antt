-- The lines of the faults with which the program ends (this project's own).
use Rattle.std.specs.Prelude.{ℕ, Bool, false, true, List, codes}
use Rattle.duk_commands.specs.Batch.{batch_line}
use Rattle.duk_commands.specs.Fault.{report_line}
use Rattle.duk_commands.specs.FindFault.{find_line}
use Rattle.duk_commands.specs.IssueFault.{issue_line}
use Rattle.duk_components.specs.Fault.{component_fault_line}
use Rattle.duk_io.specs.Known.{Known}
use Rattle.duk_io.specs.Sink.{IsTried}
use Rattle.duk_program.specs.Message.{text_fault_line}
use Rattle.duk_program.specs.Random.{identity_line}
use Rattle.duk_program.specs.Secrets.{secret_line}
use Rattle.duk_program.specs.declared.fault.Fault.{Fault}
use Rattle.duk_program.specs.declared.fault.Fault.TheVariants as fault
use Rattle.duk_script.specs.FaultLine.{fault_line}
use Rattle.duk_service.specs.CopyJournal.{copy_journal_line}
use Rattle.duk_service.specs.CopyLedger.{copy_ledger_line}
use Rattle.duk_service.specs.GrowJournal.{grow_journal_line}
use Rattle.duk_service.specs.NewFile.{new_file_line}
use Rattle.duk_service.specs.ServeFault.{serve_fault_line}
use Rattle.duk_show.specs.Fault.{show_line}

-- the line of a fault, or both lines of two: it is made of the fault alone
abbrev pub fault_text : Fault → List ℕ
fault_text (fault.Command why) = report_line why
fault_text (fault.Find why) = find_line why
fault_text (fault.Show why) = show_line why
fault_text (fault.Lmk why) = component_fault_line why
fault_text (fault.Issue why) = issue_line why
fault_text (fault.Batch why) = batch_line why
fault_text (fault.Secret why) = secret_line why
fault_text (fault.Text why) = text_fault_line why
fault_text fault.ConfigUnread = codes "config: cannot read\n"
fault_text (fault.Script why) = fault_line why
fault_text (fault.Serve why) = serve_fault_line why
fault_text (fault.Identity why) = identity_line why
fault_text (fault.NewFile format why) = new_file_line format why
fault_text (fault.GrowJournal why) = grow_journal_line why
fault_text (fault.CopyJournal why) = copy_journal_line why
fault_text (fault.CopyLedger why) = copy_ledger_line why

-- the line of a fault was written, and a text that explains it behind, but for what failed writes cut
-- off
pub record IsExplained (why : Fault) (old new : Known) : Type 0 where
  pub between : Known
  pub line : IsTried old between (fault_text why)
  pub text : List ℕ
  pub explanation : IsTried between new text

-- a fault is told, with or without an explanation
abbrev pub IsTold : Bool → Fault → Known → Known → Type 0
IsTold false why old new = IsTried old new (fault_text why)
IsTold true why old new = IsExplained why old new
