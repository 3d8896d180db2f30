-- What unwrapping answers for which text: this project's own.
use Rattle.std.specs.Prelude.{◌≡◌, ◌↔◌, ℕ, List, Result, Ok, Err}
use Rattle.duk_tdes.specs.declared.key.KeyBytes.{KeyBytes}
use Rattle.duk_block.specs.declared.header.Header.{Header}
use Rattle.duk_block.specs.declared.fault.BlockFault.{BlockFault}
use Rattle.duk_block.specs.Faults.{IsFirstFault}
use Rattle.duk_block.specs.KeyBlock.{Wraps}
use Rattle.duk_tdes.specs.KeyBytes.{key_from}

-- where the text is a key block within the limits, its header and key are the answer
abbrev pub ReadsKeyBlocks : Result (Header × KeyBytes) BlockFault → List ℕ → List ℕ → Type 0
ReadsKeyBlocks answer text protection_key =
    (header : Header) (key : List ℕ) → Wraps protection_key text header key
    → answer ≡ Ok (header, key_from key)

-- a fault is the answer exactly where it is the text's first
abbrev pub RefusesFirstFaults : Result (Header × KeyBytes) BlockFault → List ℕ → List ℕ → Type 0
RefusesFirstFaults answer text protection_key =
    (fault : BlockFault) → (answer ≡ Err fault) ↔ IsFirstFault text protection_key fault
