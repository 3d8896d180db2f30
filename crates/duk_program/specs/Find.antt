-- What `find` does for a request (this project's own, over what it makes of its arguments).
use Rattle.std.specs.Prelude.{◌≡◌, ◌⊎◌, List, None, Some, codes, false, true, ℕ}
use Rattle.duk_arguments.specs.Request.{Written, flag_in, text_in, value_in}
use Rattle.duk_commands.specs.Answer.{Streams, streams}
use Rattle.duk_commands.specs.HandedOn.{HasFailed, HasHandedOn}
use Rattle.duk_io.specs.Sink.{IsUntouched}
use Rattle.duk_program.specs.Commands.{IsKeyOf}
use Rattle.duk_program.specs.Message.{HasUnreadText, IsSomeMessage}
use Rattle.duk_program.specs.declared.fault.Fault.{Fault}
use Rattle.duk_program.specs.declared.fault.Fault.TheVariants as fault
use Rattle.duk_commands.specs.Find.{FindArguments, IsFindDone, IsFindFailed}
use Rattle.duk_commands.specs.declared.find_fault.FindFault.{FindFault}
use Rattle.duk_commands.specs.declared.find_fault.FindFault.TheVariants.{WriteFailed}
use Rattle.duk_commands.specs.declared.sought.Clue.{Clue}
use Rattle.duk_commands.specs.declared.sought.Clue.TheVariants as clue
use Rattle.duk_service.specs.Files.{FileKnown}
use Rattle.duk_service.specs.Serve.{Serving}

-- what a request says of what is sought: a TEXT of these bytes, of which it is the MAC, a PAN, of whose
-- PIN block, or a block in clear; else it is a frame
abbrev pub IsClueIn : Written → List ℕ → Clue → Type 0
IsClueIn asked message (clue.Mac text hex) = (flag_in (codes "text") asked ≡ true)
    × (text.now ≡ message) × (hex ≡ flag_in (codes "hex") asked)
IsClueIn asked message (clue.PinBlock pan) = (flag_in (codes "text") asked ≡ false)
    × (value_in (codes "pan") asked ≡ Some pan.now)
IsClueIn asked message (clue.Ciphertext clear) = (flag_in (codes "text") asked ≡ false)
    × (value_in (codes "pan") asked ≡ None) × (value_in (codes "clear") asked ≡ Some clear.now)
IsClueIn asked message clue.Frame = (flag_in (codes "text") asked ≡ false)
    × (value_in (codes "pan") asked ≡ None) × (value_in (codes "clear") asked ≡ None)

-- the arguments of `find` are those of a request
pub record AreFindArguments (asked : Written) (message : List ℕ) (arguments : FindArguments)
    : Type 0 where
  pub key : IsKeyOf (text_in (codes "BDK") asked) (flag_in (codes "initial") asked) arguments.given
  pub what : arguments.what ≡ text_in (codes "WHAT") asked
  pub clue : IsClueIn asked message arguments.clue
  pub from : arguments.from ≡ value_in (codes "from") asked
  pub window : arguments.window ≡ value_in (codes "window") asked

-- what is sought is found, and the line is written
abbrev pub HasFound : Written → List ℕ → Streams → Type 0
HasFound asked message s =
    (arguments : FindArguments) × AreFindArguments asked message arguments × IsFindDone arguments s

-- or not, for this reason
abbrev pub HasNotFound : Written → List ℕ → FindFault → Streams → Type 0
HasNotFound asked message why s = (arguments : FindArguments)
    × AreFindArguments asked message arguments × IsFindFailed arguments why s

-- what is found is written, with the progress before it, and it is handed on
abbrev pub HasFoundOver : Written → List ℕ → Streams → Type 0
HasFoundOver asked message s = HasHandedOn (λ written. HasFound asked message
    (streams s.output_before written s.fault_before s.fault_after)) s.output_after

-- why it is not
pub record HasNotFoundOver (asked : Written) (message : List ℕ) (s : Streams) (why : Fault)
    : Type 0 where
  pub cause : FindFault
  pub why_is : why ≡ fault.Find cause
  pub failed : HasFailed (λ written. HasFound asked message
      (streams s.output_before written s.fault_before s.fault_after))
      (λ cause written. HasNotFound asked message cause
      (streams s.output_before written s.fault_before s.fault_after)) WriteFailed cause s.output_after

-- the search is done, over the bytes of its TEXT where it has one
pub record HasFoundIt (held : List ℕ → FileKnown) (v : Serving) (asked : Written) (s : Streams)
    : Type 0 where
  pub message : List ℕ
  pub read : IsSomeMessage held v.input_before v.input_after (value_in (codes "text") asked) message
  pub found : HasFoundOver asked message s

-- its TEXT is not read, and nothing is told
pub record HasNoClue (held : List ℕ → FileKnown) (v : Serving) (asked : Written) (s : Streams)
    (why : Fault) : Type 0 where
  pub text : HasUnreadText held v (value_in (codes "text") asked) why
  pub no_note : IsUntouched s.fault_before s.fault_after

-- it is read, and the search is not done
pub record HasNotFoundRead (held : List ℕ → FileKnown) (v : Serving) (asked : Written) (s : Streams)
    (why : Fault) : Type 0 where
  pub message : List ℕ
  pub read : IsSomeMessage held v.input_before v.input_after (value_in (codes "text") asked) message
  pub not_found : HasNotFoundOver asked message s why

-- why the search is not done
abbrev pub HasNotFoundIt : (List ℕ → FileKnown) → Serving → Written → Streams → Fault → Type 0
HasNotFoundIt held v asked s why = HasNoClue held v asked s why ⊎ HasNotFoundRead held v asked s why
