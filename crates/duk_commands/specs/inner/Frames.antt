-- What only private functions and proofs say beside `Frames.antt`: this project's own.
use Rattle.std.specs.Prelude.{◌≡◌, ℕ, Bool, List}
use Rattle.duk_commands.specs.Frames.{HasItsMac, IsTold, IsToldOf, is_refusal, told_line}
use Rattle.duk_commands.specs.declared.asked.Asked.{Asked}
use Rattle.duk_commands.specs.declared.fault.Fault.{Fault}
use Rattle.duk_commands.specs.declared.fault.Fault.TheVariants.{AnswerRefused, BadMac, NotMine}
use Rattle.duk_commands.specs.declared.start.Start.{Start}
use Rattle.duk_commands.specs.declared.told.Told.{Told}
use Rattle.duk_tree.specs.Derivation.{transaction_key_of}

-- the transaction key of a number
abbrev pub key_of : Start → List ℕ
key_of start = transaction_key_of start.initial start.ksn.iksn start.ksn.counter

-- the bytes tell of what was asked, and this is their line, which is that of a refusal or not
pub record IsToldLine (start : Start) (asked : Asked) (bytes : List ℕ) (refused : Bool)
    (text : List ℕ) : Type 0 where
  pub told : Told
  pub is_told : IsTold bytes told
  pub told_of : IsToldOf asked told
  pub has_its_mac : HasItsMac (key_of start) bytes told
  pub refused_is : refused ≡ is_refusal told
  pub text_is : text ≡ told_line told

-- the bytes tell of something else
pub record IsOther (asked : Asked) (bytes : List ℕ) : Type 0 where
  pub told : Told
  pub is_told : IsTold bytes told
  pub of_other : ¬ IsToldOf asked told

-- the bytes tell of what was asked, with another MAC
pub record IsForged (start : Start) (asked : Asked) (bytes : List ℕ) : Type 0 where
  pub told : Told
  pub is_told : IsTold bytes told
  pub told_of : IsToldOf asked told
  pub other_mac : ¬ HasItsMac (key_of start) bytes told

-- why the bytes are refused: the first of these
abbrev pub IsToldRefused : Start → Asked → List ℕ → Fault → Type 0
IsToldRefused start asked bytes AnswerRefused = (told : Told) → ¬ IsTold bytes told
IsToldRefused start asked bytes NotMine = IsOther asked bytes
IsToldRefused start asked bytes BadMac = IsForged start asked bytes
IsToldRefused start asked bytes fault = ⊥
