-- An issuer that decides by a table of cards: this project's own, over the PIN blocks of ISO 9564-1
-- format 0.
use Rattle.std.specs.Prelude.{ℕ, List, Option, Some, None, find, nat_lt, if◌then◌else◌}
use Rattle.std.specs.Str.{bytes_eq}
use Rattle.duk_frame.specs.declared.code.Code.{Code}
use Rattle.duk_frame.specs.declared.code.Code.TheVariants.{Approved, NoCard, WrongPin, OverLimit, Unreadable}
use Rattle.duk_pin.specs.PinBlock.{pin_in_block}
use Rattle.duk_tdes.specs.Tdes.{tdes_decrypted}
use Rattle.duk_pin.specs.declared.card.Card.{Card}

-- the cards that an issuer knows, and the zone key under which PIN blocks come to it
pub record CardTable : Type 0 where
  pub zone : List ℕ
  pub cards : List Card

-- the first card with this PAN
abbrev pub card_of : List ℕ → List Card → Option Card
card_of pan cards = find (λ card. bytes_eq card.pan pan) cards

-- the code of a card for a PIN that was read and an amount
abbrev pub card_code : Card → List ℕ → ℕ → Code
card_code card pin amount =
    let covered = if nat_lt card.limit amount then OverLimit else Approved in
    if bytes_eq card.pin pin then covered else WrongPin

-- the code of a card for what a block gave
abbrev pub read_code : Card → Option (List ℕ) → ℕ → Code
read_code card None amount = Unreadable
read_code card (Some pin) amount = card_code card pin amount

-- the code for the card that was found
abbrev pub found_code : Option Card → Option (List ℕ) → ℕ → Code
found_code None pin amount = NoCard
found_code (Some card) pin amount = read_code card pin amount

-- the decision: 14 if no card has the PAN; 30 if the block, deciphered under the zone key, is that
-- of no PIN under the PAN; 55 if the PIN is not that of the first such card; 51 if the amount is
-- above its limit; else 00
abbrev pub table_decision : CardTable → List ℕ → ℕ → List ℕ → Code
table_decision table pan amount block =
    found_code (card_of pan table.cards) (pin_in_block pan (tdes_decrypted table.zone block)) amount
