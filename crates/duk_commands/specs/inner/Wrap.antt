-- What only private functions and proofs say beside `Wrap.antt`: this project's own.
use Rattle.std.specs.Prelude.{ℕ, List}
use Rattle.duk_block.specs.HeaderText.{IsHeader}
use Rattle.duk_block.specs.KeyBlock.{FitsKeyBlock}
use Rattle.duk_block.specs.declared.fault.BlockFault.{BlockFault}
use Rattle.duk_block.specs.declared.fault.BlockFault.TheVariants.{HeaderField, PadLength}
use Rattle.duk_block.specs.declared.header.Header.{Header}
use Rattle.duk_tdes.specs.declared.key.KeyBytes.{KeyBytes}
use Rattle.duk_commands.specs.Wrap.{Wrapping}

-- a key, with this header and this padding, under this protection key
abbrev pub wrapping : KeyBytes → Header → KeyBytes → List ℕ → Wrapping
wrapping protection_key header key padding =
    record { protection_key = protection_key; header = header; key = key; padding = padding }

-- why a key block is not written, of a key and padding of these lengths: a field that cannot be
-- printed, and then padding that does not fit
abbrev pub IsWrapFault : Header → ℕ → ℕ → BlockFault → Type 0
IsWrapFault header key padding HeaderField = ¬ IsHeader header
IsWrapFault header key padding PadLength = IsHeader header × ¬ FitsKeyBlock key padding
IsWrapFault header key padding _ = ⊥
