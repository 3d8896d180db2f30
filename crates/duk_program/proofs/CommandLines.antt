-- What the command of a request is that makes all its lines before it writes any.
use Rattle.std.proofs.Common.{◌≡◌, Bool, Err, IfErr, IfOk, List, Ok, Result, false, inl, inr, refl, true, ℕ}
use Rattle.std.specs.Prelude.{codes}
use Rattle.duk_arguments.specs.Request.{Written, flag_in, text_in}
use Rattle.duk_arguments.specs.declared.name.CommandName.{CommandName}
use Rattle.duk_arguments.specs.declared.name.CommandName.TheVariants as name
use Rattle.duk_commands.specs.Answer.{Command, IsDone, IsNotDone}
use Rattle.duk_commands.specs.declared.fault.Fault.{Fault}
use Rattle.duk_commands.specs.declared.key_argument.KeyArgument.{KeyArgument}
use Rattle.duk_io.specs.Known.{Known}
use Rattle.duk_program.specs.Commands.{IsKeyOf, command_by, keyed, message_by, request_by}
use Rattle.duk_program.specs.inner.Commands.{IsOverMessage, MakesLines}

begun_by : (reverse : Bool) (asked : Written) (key : KeyArgument) (text : List ℕ) → (request_by reverse asked key).writes text
    → (request_by reverse asked key).begins text
begun_by true asked key text is = is
begun_by false asked key text is = is

-- a text that it writes is one that it may have begun
pub begun : (command : CommandName) (asked : Written) (text : List ℕ) → MakesLines command → (command_by command asked).writes text
    → (command_by command asked).begins text
begun name.Run asked text makes is = absurd makes
begun name.Serve asked text makes is = absurd makes
begun name.NewLog asked text makes is = absurd makes
begun name.NewJournal asked text makes is = absurd makes
begun name.NewLedger asked text makes is = absurd makes
begun name.GrowJournal asked text makes is = absurd makes
begun name.CopyJournal asked text makes is = absurd makes
begun name.CopyLedger asked text makes is = absurd makes
begun name.Find asked text makes is = absurd makes
begun name.Show asked text makes is = absurd makes
begun name.Lmk asked text makes is = absurd makes
begun name.Issue asked text makes is = absurd makes
begun name.Walk asked text makes is = absurd makes
begun name.Request asked text makes is =
    (is.0, is.1, begun_by (flag_in (codes "reverse") asked) asked is.0 text is.2)
begun _ asked text makes is = is

-- a command over its TEXT does with that what it does with these bytes
pub by_message : (command : CommandName) (asked : Written) → IsOverMessage command
    → command_by command asked ≡ message_by command asked (text_in (codes "TEXT") asked)
by_message name.Mac asked over = refl
by_message name.Data asked over = refl
by_message _ asked over = absurd over

-- what a command over a key does is what it does over the key that has the text
module _ (text : List ℕ) (initial : Bool) (over : KeyArgument → Command) (key : KeyArgument) (is : IsKeyOf text initial key) where
  pub lines : {L : Type 0} (bytes : L → List ℕ) (made : Result L Fault) → IfOk made (λ it. (over key).writes (bytes it))
      → IfOk made (λ it. (keyed text initial over).writes (bytes it))
  lines bytes (Ok it) writes = (key, is, writes)
  lines bytes (Err why) writes = tt

  pub refused : {L : Type 0} (made : Result L Fault) → IfErr made (over key).refuses → IfErr made (keyed text initial over).refuses
  refused (Ok it) refuses = tt
  refused (Err why) refuses = (key, is, refuses)

  pub done : (old new : Known) → IsDone (over key) old new → IsDone (keyed text initial over) old new
  done old new it = record { text = it.text; asked = (key, is, it.asked); written = it.written }

  pub not_done : (why : Fault) (old new : Known) → IsNotDone (over key) why old new → IsNotDone (keyed text initial over) why old new
  not_done why old new (inl it) = inl (record { cause = (key, is, it.cause); no_output = it.no_output })
  not_done why old new (inr it) = inr (it.0, record { text = it.1.text; asked = (key, is, it.1.asked); cut = it.1.cut })
