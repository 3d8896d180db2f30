-- What `registers` makes of its arguments (this project's own, over the future key registers of
-- ANSI X9.24-1:2009 annex A).
use Rattle.std.specs.Prelude.{◌≡◌, ◌⊎◌, ◌-◌, ℕ, zero, suc, List, [], ◌++◌, codes, decimal}
use Rattle.hex.specs.Hex.{encode_upper}
use Rattle.duk_commands.specs.Answer.{Command, command_of}
use Rattle.duk_commands.specs.Lines.{text_line}
use Rattle.duk_commands.specs.declared.key_argument.KeyArgument.{KeyArgument}
use Rattle.duk_regs.specs.Registers.{IsEmptyAt, lowest_place}
use Rattle.duk_commands.specs.Start.{IsStart, IsStartRefused}
use Rattle.duk_tree.specs.Derivation.{transaction_key_of}
use Rattle.duk_tree.specs.Frontier.{IsInFrontier}
use Rattle.duk_tree.specs.Serial.{Serial, serial_bytes}

-- a register by its bit place of the counter, and by the standard's number: that of place p is
-- Future Key Register #(21 - p)
abbrev pub register_name : ℕ → List ℕ
register_name place = decimal place ++ codes " " ++ decimal (21 - place) ++ codes " "

-- the line of a register that holds the key of a node: the node's key serial number, and its key
abbrev pub held_line : List ℕ → ℕ → ℕ → ℕ → List ℕ
held_line initial iksn place node =
    text_line (codes "register")
    (register_name place ++ encode_upper (serial_bytes (record { iksn = iksn; counter = node }))
    ++ codes " " ++ encode_upper (transaction_key_of initial iksn node))

-- the line of a register that holds no key
abbrev pub empty_line : ℕ → List ℕ
empty_line place = text_line (codes "register") (register_name place ++ codes "empty")

-- the node of the frontier whose lowest one bit is at this place has the register
pub record IsHeldLine (initial : List ℕ) (serial : Serial) (place : ℕ) (line : List ℕ)
    : Type 0 where
  pub node : ℕ
  pub is_in_frontier : IsInFrontier serial.counter node
  pub is_at : lowest_place node ≡ place
  pub line_is : line ≡ held_line initial serial.iksn place node

-- there is no such node, and the register is empty
pub record IsEmptyLine (serial : Serial) (place : ℕ) (line : List ℕ) : Type 0 where
  pub is_empty : IsEmptyAt serial.counter place
  pub line_is : line ≡ empty_line place

-- the line of the register of a place, in the terminal whose next number this is
abbrev pub IsRegisterLine : List ℕ → Serial → ℕ → List ℕ → Type 0
IsRegisterLine initial serial place line =
    IsHeldLine initial serial place line ⊎ IsEmptyLine serial place line

-- the lines of the registers below a place, from that of place 0 on
abbrev pub AreRegisterLines : List ℕ → Serial → ℕ → List ℕ → Type 0
AreRegisterLines initial serial zero text = text ≡ []
AreRegisterLines initial serial (suc place) text = (before line : List ℕ)
    × AreRegisterLines initial serial place before × IsRegisterLine initial serial place line
    × (text ≡ before ++ line)

-- the arguments give a terminal's initial key and number, and this is the text of the lines of its
-- 21 registers
pub record IsRegistersText (given : KeyArgument) (ksn text : List ℕ) : Type 0 where
  pub initial : List ℕ
  pub serial : Serial
  pub start : IsStart given ksn initial serial
  pub lines : AreRegisterLines initial serial 21 text

-- the command `registers`
abbrev pub registers_of : KeyArgument → List ℕ → Command
registers_of given ksn = command_of (IsRegistersText given ksn) (IsStartRefused given ksn)
