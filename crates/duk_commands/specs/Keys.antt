-- What `derive` with its options and `initial` make of their arguments (this project's own, over
-- the keys of ANSI X9.24-1:2009 annex A).
use Rattle.std.specs.Prelude.{◌≡◌, ℕ, Bool, true, false, List, [], ◌∷◌, ◌++◌, codes, Some, IsSome}
use Rattle.hex.specs.Hex.{encode_upper}
use Rattle.duk_commands.specs.Answer.{Command, command_of}
use Rattle.duk_commands.specs.Fault.{fault_rank}
use Rattle.duk_commands.specs.Lines.{named_line, text_line}
use Rattle.duk_commands.specs.declared.fault.Fault.{Fault}
use Rattle.duk_commands.specs.declared.fault.Fault.TheVariants.{BdkRefused, IksnRefused}
use Rattle.duk_commands.specs.declared.key_argument.KeyArgument.{KeyArgument}
use Rattle.duk_data.specs.DataKeys.{request_data_key_of, response_data_key_of}
use Rattle.duk_io.specs.FirstFault.{IsFirst}
use Rattle.duk_mac.specs.CheckValue.{check_value_of}
use Rattle.duk_tdes.specs.KeyText.{double_key_of_text}
use Rattle.duk_commands.specs.Start.{IsStart, IsStartRefused}
use Rattle.duk_tree.specs.Derivation.{initial_key_of, node_key, pin_key_of, request_key_of, response_key_of, transaction_key_of}
use Rattle.duk_tree.specs.Path.{path_of, value_of}
use Rattle.duk_tree.specs.Serial.{Serial, iksn_of_text, serial_bytes}

-- the line of a node of the key tree: its key serial number and its key
abbrev pub step_line : List ℕ → ℕ → List ℕ → List ℕ
step_line initial iksn path =
    text_line (codes "step")
    (encode_upper (serial_bytes (record { iksn = iksn; counter = value_of path })) ++ codes " "
    ++ encode_upper (node_key initial iksn path))

-- the derivation step by step: the lines of the nodes on the way to this one, and its own
abbrev pub step_lines : List ℕ → ℕ → List ℕ → List ℕ
step_lines initial iksn [] = []
step_lines initial iksn (place ∷ parent) =
    step_lines initial iksn parent ++ step_line initial iksn (place ∷ parent)

-- those lines, where they are asked for
abbrev pub trace_lines : Bool → List ℕ → Serial → List ℕ
trace_lines false initial serial = []
trace_lines true initial serial = step_lines initial serial.iksn (path_of serial.counter)

-- the keys of the two MACs of a transaction key
abbrev pub mac_lines : List ℕ → List ℕ
mac_lines key = named_line (codes "mac-request") (request_key_of key)
    ++ named_line (codes "mac-response") (response_key_of key)

-- the keys for the data of a request and of a response
abbrev pub data_key_lines : List ℕ → List ℕ
data_key_lines key = named_line (codes "data-request") (request_data_key_of key)
    ++ named_line (codes "data-response") (response_data_key_of key)

-- both, where they are asked for
abbrev pub other_lines : Bool → List ℕ → List ℕ
other_lines false key = []
other_lines true key = mac_lines key ++ data_key_lines key

-- the initial key, the transaction key and its PIN variant
abbrev pub three_lines : List ℕ → List ℕ → List ℕ
three_lines initial key = named_line (codes "initial") initial ++ named_line (codes "key") key
    ++ named_line (codes "pin") (pin_key_of key)

-- all lines of a number
abbrev pub derived_lines : Bool → Bool → List ℕ → Serial → List ℕ
derived_lines trace all initial serial =
    let key = transaction_key_of initial serial.iksn serial.counter in
    trace_lines trace initial serial ++ three_lines initial key ++ other_lines all key

-- the arguments give a terminal's initial key and number, and this is the text of their lines
pub record IsDerivedText (given : KeyArgument) (ksn : List ℕ) (trace all : Bool) (text : List ℕ)
    : Type 0 where
  pub initial : List ℕ
  pub serial : Serial
  pub start : IsStart given ksn initial serial
  pub text_is : text ≡ derived_lines trace all initial serial

-- `derive` with its options
abbrev pub derived_of : KeyArgument → List ℕ → Bool → Bool → Command
derived_of given ksn trace all =
    command_of (IsDerivedText given ksn trace all) (IsStartRefused given ksn)

-- what the arguments of `initial` must meet, or else are refused with this fault
abbrev pub MeetsInitial : List ℕ → List ℕ → Fault → Type 0
MeetsInitial bdk iksn BdkRefused = IsSome (double_key_of_text bdk)
MeetsInitial bdk iksn IksnRefused = IsSome (iksn_of_text iksn)
MeetsInitial bdk iksn fault = Unit {0}

-- why they are refused: the first of the faults, in their order, whose condition they do not meet
abbrev pub IsInitialRefused : List ℕ → List ℕ → Fault → Type 0
IsInitialRefused bdk iksn =
    IsFirst fault_rank (MeetsInitial bdk iksn) (λ fault. ¬ MeetsInitial bdk iksn fault)

-- the initial key, and its check value
abbrev pub initial_lines : List ℕ → List ℕ
initial_lines key = named_line (codes "initial") key ++ named_line (codes "kcv") (check_value_of key)

-- the arguments are a base derivation key and an initial key serial number, and this is the text of
-- their lines
pub record IsInitialText (bdk iksn text : List ℕ) : Type 0 where
  pub key : List ℕ
  pub number : ℕ
  pub key_read : double_key_of_text bdk ≡ Some key
  pub iksn_read : iksn_of_text iksn ≡ Some number
  pub text_is : text ≡ initial_lines (initial_key_of key number)

-- the command `initial`
abbrev pub initial_of : List ℕ → List ℕ → Command
initial_of bdk iksn = command_of (IsInitialText bdk iksn) (IsInitialRefused bdk iksn)
