-- What keys are for, as the headers of their key blocks say it: the usages and modes of ANSI
-- X9.143, of which this project has three.
use Rattle.std.specs.Prelude.{◌≡◌, ℕ, List, [], ◌∷◌, Contains, length, codes}
use Rattle.duk_block.specs.declared.fault.KeyFault.{KeyFault}
use Rattle.duk_block.specs.declared.fault.KeyFault.TheVariants as fault
use Rattle.duk_block.specs.declared.header.Header.{Header}
use Rattle.duk_block.specs.declared.key_use.KeyUse.{KeyUse}
use Rattle.duk_block.specs.declared.key_use.KeyUse.TheVariants.{BaseDerivationKey, InitialKey, PinEncryption}
use Rattle.duk_block.specs.Faults.{IsFirstFault}
use Rattle.duk_block.specs.KeyBlock.{WrapsOther}

-- the key usage: B0 for a base derivation key, B1 for an initial DUKPT key, P0 for PIN encryption
abbrev pub usage_of : KeyUse → List ℕ
usage_of BaseDerivationKey = codes "B0"
usage_of InitialKey = codes "B1"
usage_of PinEncryption = codes "P0"

-- the modes of use that it may have here: X for derivation, E for encipherment, B for both ways, N
-- for no restriction
abbrev pub modes_of : KeyUse → List ℕ
modes_of BaseDerivationKey = codes "XN"
modes_of InitialKey = codes "XN"
modes_of PinEncryption = codes "EBN"

-- a header says that its key is for this use: the usage, algorithm T (TDES), and one of the modes
pub record IsHeaderFor (key_use : KeyUse) (header : Header) : Type 0 where
  pub usage : header.usage ≡ usage_of key_use
  pub algorithm : header.algorithm ∷ [] ≡ codes "T"
  pub mode : Contains (modes_of key_use) header.mode

-- the mode of use in a header that this project writes: X for keys that others are derived from, B
-- for PIN encryption
abbrev pub written_mode : KeyUse → ℕ
written_mode BaseDerivationKey = 0x58
written_mode InitialKey = 0x58
written_mode PinEncryption = 0x42

-- the header that this project writes for a key of this use, with version 00 and exportability N
-- (not): B0TX00N, B1TX00N and P0TB00N
abbrev pub header_for : KeyUse → Header
header_for key_use =
    record {
      usage = usage_of key_use;
      algorithm = 0x54;
      mode = written_mode key_use;
      version = codes "00";
      exportability = 0x4E;
    }

-- a header and a key for this use, of either length
abbrev pub IsKeyFor : KeyUse → Header → List ℕ → Type 0
IsKeyFor key_use header key = IsHeaderFor key_use header

-- a header and a double-length key for this use: base derivation keys and initial keys have 16
-- bytes
pub record IsDoubleKeyFor (key_use : KeyUse) (header : Header) (key : List ℕ) : Type 0 where
  pub header_is : IsHeaderFor key_use header
  pub length_is : length key ≡ 16

-- why a text has no key for a use: it is no key block, and this is its first fault, or it is one of
-- another key
abbrev pub HasNoKeyFor : (Header → List ℕ → Type 0) → List ℕ → List ℕ → KeyFault → Type 0
HasNoKeyFor IsForUse protection_key text (fault.Block why) = IsFirstFault text protection_key why
HasNoKeyFor IsForUse protection_key text fault.WrongUse = WrapsOther IsForUse protection_key text
