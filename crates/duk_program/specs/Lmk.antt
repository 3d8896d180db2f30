-- What `lmk` comes to (this project's own, over what is made of components).
use Rattle.std.specs.Prelude.{◌≡◌, ◌⊎◌, Bool, List, None, Option, Some, codes, false, true, ℕ}
use Rattle.duk_arguments.specs.Request.{Written, flag_in, text_in, texts_in, value_in}
use Rattle.duk_commands.specs.HandedOn.{HasFailed, HasHandedOn}
use Rattle.duk_commands.specs.declared.fault.Fault.TheVariants.{OutOfMemory, WriteFailed}
use Rattle.duk_components.specs.Blocks.{IsBlockRefused, IsBlockText, Wrapped, wrapped}
use Rattle.duk_components.specs.Components.{IsLmkRefused, IsLmkText}
use Rattle.duk_components.specs.NewComponent.{IsNewRefused, IsNewText}
use Rattle.duk_components.specs.declared.fault.ComponentFault.{ComponentFault}
use Rattle.duk_io.specs.Known.{Known}
use Rattle.duk_io.specs.Sink.{IsCut, IsUntouched, IsWritten}
use Rattle.duk_program.specs.declared.fault.Fault.{Fault}
use Rattle.duk_program.specs.declared.fault.Fault.TheVariants as fault

-- the components of a request
abbrev pub components_in : Written → List (List ℕ)
components_in asked = texts_in (codes "COMPONENT") asked

-- a key, and the others of a request that are for its key block
abbrev pub wrapped_in : List ℕ → Written → Wrapped
wrapped_in key asked = wrapped key (text_in (codes "fields") asked) (text_in (codes "pad") asked)

-- the text of components, where there is a key with that of its key block
abbrev pub IsValuesText : Option (List ℕ) → Written → List ℕ → Type 0
IsValuesText None asked text = IsLmkText (components_in asked) text
IsValuesText (Some key) asked text = IsBlockText (components_in asked) (wrapped_in key asked) text

abbrev pub AreValuesRefused : Option (List ℕ) → Written → ComponentFault → Type 0
AreValuesRefused None asked why = IsLmkRefused (components_in asked) why
AreValuesRefused (Some key) asked why =
    IsBlockRefused (components_in asked) (wrapped_in key asked) why

-- the text that is asked for: that of a new component, or of components
abbrev pub IsTextBy : Bool → Written → List ℕ → Type 0
IsTextBy true asked text = IsNewText (components_in asked) text
IsTextBy false asked text = IsValuesText (value_in (codes "key") asked) asked text

abbrev pub IsRefusedBy : Bool → Written → ComponentFault → Type 0
IsRefusedBy true asked why = IsNewRefused (components_in asked) why
IsRefusedBy false asked why = AreValuesRefused (value_in (codes "key") asked) asked why

-- the text that a request asks for
abbrev pub IsAskedText : Written → List ℕ → Type 0
IsAskedText asked text = IsTextBy (flag_in (codes "new") asked) asked text

-- why there is none
abbrev pub IsAskedRefused : Written → ComponentFault → Type 0
IsAskedRefused asked why = IsRefusedBy (flag_in (codes "new") asked) asked why

-- the same as a fault of the program; memory may be refused at any time
abbrev pub IsLmkFault : Written → Fault → Type 0
IsLmkFault asked why = (why ≡ fault.Command OutOfMemory)
    ⊎ ((cause : ComponentFault) × (why ≡ fault.Lmk cause) × IsAskedRefused asked cause)

-- the lines are written
pub record IsLmkPrinted (asked : Written) (old new : Known) : Type 0 where
  pub text : List ℕ
  pub asked_for : IsAskedText asked text
  pub written : IsWritten old new text

-- nothing is printed, for this reason
pub record IsLmkRefusedWhole (asked : Written) (old : Known) (why : Fault) (new : Known) : Type 0 where
  pub refused : IsLmkFault asked why
  pub no_output : IsUntouched old new

-- the lines are begun, and a write failed
pub record IsLmkPrintedInPart (asked : Written) (old new : Known) : Type 0 where
  pub text : List ℕ
  pub asked_for : IsAskedText asked text
  pub cut : IsCut old new text

-- why the lines are not written
abbrev pub IsLmkNotPrinted : Written → Known → Fault → Known → Type 0
IsLmkNotPrinted asked old why new = IsLmkRefusedWhole asked old why new
    ⊎ ((why ≡ fault.Command WriteFailed) × IsLmkPrintedInPart asked old new)

-- the lines are written, and handed on
abbrev pub HasPrintedLmk : Written → Known → Known → Type 0
HasPrintedLmk asked old = HasHandedOn (IsLmkPrinted asked old)

-- why they are not
abbrev pub HasNotPrintedLmk : Written → Known → Fault → Known → Type 0
HasNotPrintedLmk asked old =
    HasFailed (IsLmkPrinted asked old) (IsLmkNotPrinted asked old) (fault.Command WriteFailed)
