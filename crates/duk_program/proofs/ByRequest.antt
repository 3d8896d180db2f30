-- What a request comes to, by its command.
use Rattle.std.proofs.Common.{◌≢◌, Result, Ok, Err, IfErr, OnOk, refl}
use Rattle.duk_arguments.specs.Request.{Written}
use Rattle.duk_arguments.specs.declared.name.CommandName.{CommandName}
use Rattle.duk_arguments.specs.declared.name.CommandName.TheVariants as name
use Rattle.duk_program.specs.Commands.{IsCommandDone, IsCommandNotDone}
use Rattle.duk_program.specs.Meant.{HasLeftInput, IsDoneBy, IsDoneUntold, IsNotDoneBy, IsNotDoneUntold, IsUntold}
use Rattle.duk_program.specs.Scene.{Scene}
use Rattle.duk_program.specs.declared.fault.Fault.{Fault}
use Rattle.duk_program.specs.inner.Commands.{HasNoMessage, IsOverArguments, TellsNothing}
use Rattle.duk_store.specs.Disk.{DiskMeaning}

-- what holds where a call is done, or of its fault, holds of what follows
pub on_ok : {V E : Type 0} (P Q : Type 0) (ended : Result V E) → (P → Q) → OnOk ended P → OnOk ended Q
on_ok P Q (Ok value) follows is = follows is
on_ok P Q (Err why) follows is = tt

pub if_err : {V E : Type 0} (P Q : E → Type 0) (ended : Result V E) → ((why : E) → P why → Q why) → IfErr ended P → IfErr ended Q
if_err P Q (Ok value) follows is = tt
if_err P Q (Err why) follows is = follows why is

-- a command that is none of those over files is one over its arguments
pub over_arguments : (command : CommandName) → TellsNothing command → command ≢ name.Run → command ≢ name.Serve → command ≢ name.NewLog
    → command ≢ name.NewJournal → command ≢ name.NewLedger → command ≢ name.GrowJournal → command ≢ name.CopyJournal → command ≢ name.CopyLedger → command ≢ name.Show → command ≢ name.Lmk → IsOverArguments command
over_arguments name.Find untold no_run no_serve no_newlog no_newjournal no_newledger no_growjournal no_copyjournal no_copyledger no_show no_lmk = absurd untold
over_arguments name.Issue untold no_run no_serve no_newlog no_newjournal no_newledger no_growjournal no_copyjournal no_copyledger no_show no_lmk = absurd untold
over_arguments name.Run untold no_run no_serve no_newlog no_newjournal no_newledger no_growjournal no_copyjournal no_copyledger no_show no_lmk = absurd (no_run refl)
over_arguments name.Serve untold no_run no_serve no_newlog no_newjournal no_newledger no_growjournal no_copyjournal no_copyledger no_show no_lmk = absurd (no_serve refl)
over_arguments name.NewLog untold no_run no_serve no_newlog no_newjournal no_newledger no_growjournal no_copyjournal no_copyledger no_show no_lmk = absurd (no_newlog refl)
over_arguments name.NewJournal untold no_run no_serve no_newlog no_newjournal no_newledger no_growjournal no_copyjournal no_copyledger no_show no_lmk = absurd (no_newjournal refl)
over_arguments name.NewLedger untold no_run no_serve no_newlog no_newjournal no_newledger no_growjournal no_copyjournal no_copyledger no_show no_lmk = absurd (no_newledger refl)
over_arguments name.GrowJournal untold no_run no_serve no_newlog no_newjournal no_newledger no_growjournal no_copyjournal no_copyledger no_show no_lmk = absurd (no_growjournal refl)
over_arguments name.CopyJournal untold no_run no_serve no_newlog no_newjournal no_newledger no_growjournal no_copyjournal no_copyledger no_show no_lmk = absurd (no_copyjournal refl)
over_arguments name.CopyLedger untold no_run no_serve no_newlog no_newjournal no_newledger no_growjournal no_copyjournal no_copyledger no_show no_lmk = absurd (no_copyledger refl)
over_arguments name.Show untold no_run no_serve no_newlog no_newjournal no_newledger no_growjournal no_copyjournal no_copyledger no_show no_lmk = absurd (no_show refl)
over_arguments name.Lmk untold no_run no_serve no_newlog no_newjournal no_newledger no_growjournal no_copyjournal no_copyledger no_show no_lmk = absurd (no_lmk refl)
over_arguments _ untold no_run no_serve no_newlog no_newjournal no_newledger no_growjournal no_copyjournal no_copyledger no_show no_lmk = tt

pub command_done : {D : Type 0} (meaning : DiskMeaning D) (s : Scene D) (command : CommandName) (asked : Written) → IsOverArguments command
    → HasNoMessage command → HasLeftInput s.streams (IsCommandDone asked s.streams.output_before s.streams.output_after)
    → IsDoneUntold meaning s command asked
command_done meaning s name.Run asked over none done = absurd over
command_done meaning s name.Serve asked over none done = absurd over
command_done meaning s name.NewLog asked over none done = absurd over
command_done meaning s name.NewJournal asked over none done = absurd over
command_done meaning s name.NewLedger asked over none done = absurd over
command_done meaning s name.GrowJournal asked over none done = absurd over
command_done meaning s name.CopyJournal asked over none done = absurd over
command_done meaning s name.CopyLedger asked over none done = absurd over
command_done meaning s name.Show asked over none done = absurd over
command_done meaning s name.Lmk asked over none done = absurd over
command_done meaning s name.Mac asked over none done = absurd none
command_done meaning s name.Data asked over none done = absurd none
command_done meaning s _ asked over none done = done

pub command_not_done : {D : Type 0} (meaning : DiskMeaning D) (s : Scene D) (command : CommandName) (asked : Written) (why : Fault) → IsOverArguments command
    → HasNoMessage command → HasLeftInput s.streams (IsCommandNotDone asked s.streams.output_before why s.streams.output_after)
    → IsNotDoneUntold meaning s command asked why
command_not_done meaning s name.Run asked why over none not_done = absurd over
command_not_done meaning s name.Serve asked why over none not_done = absurd over
command_not_done meaning s name.NewLog asked why over none not_done = absurd over
command_not_done meaning s name.NewJournal asked why over none not_done = absurd over
command_not_done meaning s name.NewLedger asked why over none not_done = absurd over
command_not_done meaning s name.GrowJournal asked why over none not_done = absurd over
command_not_done meaning s name.CopyJournal asked why over none not_done = absurd over
command_not_done meaning s name.CopyLedger asked why over none not_done = absurd over
command_not_done meaning s name.Show asked why over none not_done = absurd over
command_not_done meaning s name.Lmk asked why over none not_done = absurd over
command_not_done meaning s name.Mac asked why over none not_done = absurd none
command_not_done meaning s name.Data asked why over none not_done = absurd none
command_not_done meaning s _ asked why over none not_done = not_done

pub untold_done : {D : Type 0} (meaning : DiskMeaning D) (s : Scene D) (command : CommandName) (asked : Written) → TellsNothing command
    → IsUntold s (IsDoneUntold meaning s command asked) → IsDoneBy meaning s command asked
untold_done meaning s name.Find asked untold done = absurd untold
untold_done meaning s name.Issue asked untold done = absurd untold
untold_done meaning s _ asked untold done = done

pub untold_not_done : {D : Type 0} (meaning : DiskMeaning D) (s : Scene D) (command : CommandName) (asked : Written) (why : Fault) → TellsNothing command
    → IsUntold s (IsNotDoneUntold meaning s command asked why) → IsNotDoneBy meaning s command asked why
untold_not_done meaning s name.Find asked why untold not_done = absurd untold
untold_not_done meaning s name.Issue asked why untold not_done = absurd untold
untold_not_done meaning s _ asked why untold not_done = not_done

-- a command that is neither of the two tells nothing
pub tells_nothing : (command : CommandName) → command ≢ name.Find → command ≢ name.Issue → TellsNothing command
tells_nothing name.Find no_find no_issue = absurd (no_find refl)
tells_nothing name.Issue no_find no_issue = absurd (no_issue refl)
tells_nothing _ no_find no_issue = tt

-- a command that is neither of these two has no TEXT
pub no_message : (command : CommandName) → command ≢ name.Mac → command ≢ name.Data → HasNoMessage command
no_message name.Mac no_mac no_data = absurd (no_mac refl)
no_message name.Data no_mac no_data = absurd (no_data refl)
no_message _ no_mac no_data = tt
