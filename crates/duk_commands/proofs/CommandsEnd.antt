-- How a command ends whose lines are known before any of them is written.
use Rattle.std.proofs.Common.{◌≡◌, ℕ, List, Result, Ok, Err, IfErr, OnOk, inr}
use Rattle.duk_io.specs.Known.{Known}
use Rattle.duk_io.specs.Sink.{IsCut, IsWritten}
use Rattle.duk_commands.specs.Answer.{Command, IsDone, IsNotDone}
use Rattle.duk_commands.specs.declared.fault.Fault.{Fault}
use Rattle.duk_commands.specs.declared.fault.Fault.TheVariants.{WriteFailed}

pub done : {V : Type 0} (command : Command) (text : List ℕ) (ended : Result V Fault) (old new : Known) → command.writes text
    → OnOk ended (IsWritten old new text) → OnOk ended (IsDone command old new)
done command text (Ok value) old new asked written = record { text = text; asked = asked; written = written }
done command text (Err why) old new asked written = tt

pub not_done : {V : Type 0} (command : Command) (text : List ℕ) (ended : Result V Fault) (old new : Known) → command.begins text
    → IfErr ended (λ why. (why ≡ WriteFailed) × IsCut old new text) → IfErr ended (λ why. IsNotDone command why old new)
not_done command text (Ok value) old new begun cut = tt
not_done command text (Err why) old new begun cut = inr (cut.0, record { text = text; asked = begun; cut = cut.1 })
