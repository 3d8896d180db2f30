-- What `find` looks for, as it is read.
use Rattle.std.proofs.Common.{ℕ, List, subst}
use Rattle.hex.proofs.HexLemmas.{decode_of-same}
use Rattle.duk_block.specs.Hexadecimal.{IsHexadecimal}
use Rattle.duk_commands.specs.Sought.{HasMac, MeetsWhat}
use Rattle.duk_commands.specs.declared.sought.Clue.TheVariants as clue
use Rattle.duk_tree.specs.Serial.{Serial}

-- the bytes that a text writes are no frame with a MAC, and so the text is none
pub no_frame : (what bytes : List ℕ) → IsHexadecimal what bytes → ((ksn : Serial) (mac : List ℕ) → ¬ HasMac bytes ksn mac)
    → ¬ MeetsWhat what clue.Frame
no_frame what bytes read none is =
    none is.1 is.2 (subst (λ b. HasMac b is.1 is.2) (decode_of-same what is.0 bytes is.3 read) is.4)
