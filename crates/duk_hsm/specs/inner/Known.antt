-- What only private functions and proofs say of what was made beforehand with a transaction key:
-- this project's own.
use Rattle.std.specs.Prelude.{◌≡◌, ℕ, List, Option, Some, None, ⊤}
use Rattle.std.specs.Option.{option_map}
use Rattle.duk_mac.specs.Retail.{retail_of}
use Rattle.duk_pin.specs.PinBlock.{IsPinBlock, pin_block}
use Rattle.duk_tdes.specs.KeyBytes.{bytes_of}
use Rattle.duk_tdes.specs.Tdes.{tdes_decrypted, tdes_encrypted}
use Rattle.duk_tdes.specs.declared.key.KeyBytes.{KeyBytes}
use Rattle.duk_tree.specs.Derivation.{pin_key_of, request_key_of}
use Rattle.duk_hsm.specs.declared.known.Known.{Known}
use Rattle.duk_hsm.specs.declared.pin_block.Translation.{Translation}

-- the block of the PIN in a deciphered block, enciphered under the zone key
pub record IsPinUnder (zone clear pan translated : List ℕ) : Type 0 where
  pub pin : List ℕ
  pub pin_is : IsPinBlock pin pan clear
  pub translated_is : translated ≡ tdes_encrypted zone (pin_block pin pan)

-- what a deciphered block is translated to, which is nothing where it is the block of no PIN
abbrev pub IsTranslationOf : List ℕ → List ℕ → List ℕ → Option (List ℕ) → Type 0
IsTranslationOf zone clear pan None = (pin : List ℕ) → ¬ IsPinBlock pin pan clear
IsTranslationOf zone clear pan (Some translated) = IsPinUnder zone clear pan translated

-- the block under the zone key, where one is held
abbrev pub under : Option KeyBytes → List ℕ → Option (List ℕ)
under zone block = option_map (λ zone. tdes_encrypted (bytes_of zone) block) zone

-- where a PIN block was translated, it was from this transaction key to this zone key
abbrev pub IsTranslatedWith : List ℕ → Option KeyBytes → Option Translation → Type 0
IsTranslatedWith key _ None = ⊤
IsTranslatedWith key None (Some translation) = ⊤
IsTranslatedWith key (Some zone) (Some translation) =
    IsTranslationOf (bytes_of zone) (tdes_decrypted (pin_key_of key) translation.asked.block)
    translation.asked.pan translation.translated

-- it was made with this key and this zone key
pub record IsMadeWith (key : List ℕ) (zone : Option KeyBytes) (known : Known) : Type 0 where
  pub mac_is : known.mac ≡ retail_of (request_key_of key) known.text
  pub translation_is : IsTranslatedWith key zone known.translation

-- where anything was made, it was made with these
abbrev pub IsKnown : List ℕ → Option KeyBytes → Option Known → Type 0
IsKnown key _ None = ⊤
IsKnown key held (Some known) = IsMadeWith key held known
