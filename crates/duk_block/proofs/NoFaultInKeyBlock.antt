-- A key block within the limits has no fault.
use Rattle.std.proofs.Common.{ℕ, List, ◌++◌, refl, subst}
use Rattle.std.specs.List.{All}
use Rattle.hex.proofs.HexLemmas.{decode_of-ok}
use Rattle.duk_block.specs.declared.header.Header.{Header}
use Rattle.duk_block.specs.declared.fault.BlockFault.{BlockFault}
use Rattle.duk_block.specs.declared.fault.BlockFault.TheVariants.{Length, Version, HeaderField, OptionalBlock, Hex, Mac, Payload, PadLength}
use Rattle.duk_block.specs.Faults.{HasPayload, Meets}
use Rattle.duk_block.specs.HeaderText.{IsPrintable}
use Rattle.duk_block.specs.KeyBlock.{IsKeyBlock, IsWithinLimits, payload_of}
use Rattle.duk_block.proofs.TextPlaces.{count_at, fields_at, version_at}

pub all_met : (text protection_key : List ℕ) (header : Header) (key : List ℕ) → IsWithinLimits text → (block : IsKeyBlock text protection_key header key)
    → HasPayload text protection_key (payload_of key block.padding) → (fault : BlockFault) → Meets text protection_key fault
all_met text protection_key header key limits block opened Length = record { limits = limits; written = (version_at text protection_key header key block).1 }
all_met text protection_key header key limits block opened Version = (version_at text protection_key header key block).0
all_met text protection_key header key limits block opened HeaderField =
    let P : List ℕ → Type 0 = All IsPrintable in (
      subst P (fields_at text protection_key header key block) block.header_is.printable,
      (_, count_at text protection_key header key block),
    )
all_met text protection_key header key limits block opened OptionalBlock = (opened.parts.sealed_part, opened.parts.sealed_part_is)
all_met text protection_key header key limits block opened Hex =
    (opened.parts.sealed_part, opened.parts.sealed_part_is, (decode_of-ok opened.parts.sealed_part (opened.ciphertext ++ opened.mac) opened.parts.sealed_part_is_read).1)
all_met text protection_key header key limits block opened Mac = (payload_of key block.padding, opened)
all_met text protection_key header key limits block opened Payload =
    (payload_of key block.padding, key, opened, record { padding = block.padding; key_is = block.key_is; payload_is = refl })
all_met text protection_key header key limits block opened PadLength = tt
