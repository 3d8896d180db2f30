-- What the second cell of a till keeps: a format of this project's own.
use Rattle.std.specs.Prelude.{◌≡◌, ℕ, List, [], ◌∷◌, ◌++◌, Option, Some, None, replicate}
use Rattle.byteorder.specs.Endian.{big_bytes}
use Rattle.duk_frame.specs.declared.code.Code.{Code}
use Rattle.duk_frame.specs.declared.code.Code.TheVariants as code
use Rattle.duk_store.specs.Cell.{Kept}
use Rattle.duk_tree.specs.Serial.{Serial, serial_bytes}
use Rattle.duk_till.specs.Last.{AreLastFields, number_of}
use Rattle.duk_till.specs.declared.last.Last.{Last}
use Rattle.duk_till.specs.declared.last.Last.TheVariants.{Open, Approved, Declined, Undone}

-- the byte of a state
abbrev pub state_byte : Last → ℕ
state_byte (Open ksn amount) = 1
state_byte (Approved ksn amount) = 2
state_byte (Declined ksn why) = 3
state_byte (Undone ksn) = 4

-- the amount, which is zero where a state has none
abbrev pub amount_in : Last → ℕ
amount_in (Open ksn amount) = amount
amount_in (Approved ksn amount) = amount
amount_in (Declined ksn why) = 0
amount_in (Undone ksn) = 0

-- a code as a number
abbrev pub code_byte : Code → ℕ
code_byte code.Approved = 0
code_byte code.NoCard = 14
code_byte code.WrongPin = 55
code_byte code.OverLimit = 51
code_byte code.Unreadable = 30

-- the code of a declined purchase as a number, and else zero
abbrev pub decline_byte : Last → ℕ
decline_byte (Declined ksn why) = code_byte why
decline_byte _ = 0

-- these parts of a body: 81 hexadecimal, which begins no image of a terminal, the byte of the state,
-- the key serial number, the amount in four bytes, and the code
abbrev pub head_bytes : ℕ → Serial → ℕ → ℕ → List ℕ
head_bytes state ksn amount code =
    0x81 ∷ state ∷ (serial_bytes ksn ++ (big_bytes 4 amount ++ code ∷ []))

-- the body of a last purchase: its parts in 17 bytes, and 486 zero bytes
abbrev pub last_bytes : Last → List ℕ
last_bytes last =
    head_bytes (state_byte last) (number_of last) (amount_in last) (decline_byte last)
    ++ replicate 486 0

-- what a cell keeps of it: nothing before the first purchase
abbrev pub kept_of : Option Last → Kept
kept_of None = None
kept_of (Some last) = Some (last_bytes last)

-- the bytes are the body of this last purchase
pub record IsLastBody (body : List ℕ) (last : Last) : Type 0 where
  pub fields : AreLastFields last
  pub laid_out : body ≡ last_bytes last
