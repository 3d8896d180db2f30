-- Where the reading of a key block stops after its header.
use Rattle.std.proofs.Common.{◌≡◌, ◌<◌, ◌+◌, inl, inr, ℕ, List, length, drop, subst, length-drop, arith}
use Rattle.std.specs.List.{AllPass}
use Rattle.hex.specs.Hex.{is_hex_digit}
use Rattle.duk_block.specs.Faults.{HasCount, HasSealedPart, IsFirstFault}
use Rattle.duk_block.specs.Optional.{Leaves}
use Rattle.duk_block.specs.declared.fault.BlockFault.TheVariants.{Hex, OptionalBlock}
use Rattle.duk_show.specs.Block.{IsAfterOptionalBlocks, IsSealedStop}
use Rattle.duk_show.specs.Hexadecimal.{IsNoDigitAt}
use Rattle.duk_show.specs.inner.Block.{ArePassed, IsSealedPart, MetBefore, StopsAfterBlocks}
use Rattle.duk_show.proofs.BlockOrder.{count_same, met_sealed}
use Rattle.duk_show.proofs.OptionalBlocks.{leaves_same}

-- the optional blocks of a text, by their number
leaves_of : (text sealed_part : List ℕ) (count : ℕ) → HasCount text count → HasSealedPart text sealed_part → Leaves count (drop 16 text) sealed_part
leaves_of text sealed_part count is has =
    subst (λ (n : ℕ). Leaves n (drop 16 text) sealed_part) (count_same text has.count count has.count_is is) has.leaves

-- one of the optional blocks is none
pub stops_at_optional : (text : List ℕ) (count place : ℕ) → HasCount text count → MetBefore text OptionalBlock → StopsAfterBlocks text count place
    → ((rest : List ℕ) → ¬ Leaves count (drop 16 text) rest)
    → ((key : List ℕ) → IsFirstFault text key OptionalBlock) × IsAfterOptionalBlocks text place
stops_at_optional text count place is met stops none = (
  λ key. record { fails = λ has. none has.0 (leaves_of text has.0 count is has.1); earlier_met = met key },
  record {
    count = count;
    optional_blocks = stops.blocks;
    count_is = is;
    each = stops.each;
    laid_out = stops.laid_out;
    place_is = stops.place_is;
    no_more = inr (stops.fewer, stops.no_more);
  },
)

module _ (text : List ℕ) (count place : ℕ) (before after : List ℕ) (blocks : List (List ℕ)) (is : HasCount text count) (all : length blocks ≡ count) (passed : ArePassed text blocks place before after) where
  leaves : Leaves count (drop 16 text) (drop place text)
  leaves = record { optional_blocks = blocks; laid_out = passed.laid_out; count_is = all; each = passed.each }

  rest_is : (sealed_part : List ℕ) → HasSealedPart text sealed_part → sealed_part ≡ drop place text
  rest_is sealed_part has = leaves_same count (drop 16 text) sealed_part (drop place text) (leaves_of text sealed_part count is has) leaves

  pub has_sealed_part : IsSealedPart (drop place text) → HasSealedPart text (drop place text)
  has_sealed_part sealed = record { count = count; count_is = is; leaves = leaves; least = sealed.least; whole = sealed.whole }

  -- what follows the optional blocks is too short, or not whole
  pub stops_at_sealed : MetBefore text OptionalBlock → ¬ IsSealedPart (drop place text)
      → ((key : List ℕ) → IsFirstFault text key OptionalBlock) × IsAfterOptionalBlocks text place
  stops_at_sealed met wrong = (
    λ key. record {
      fails = λ has. wrong (subst IsSealedPart (rest_is has.0 has.1) (record { least = has.1.least; whole = has.1.whole }));
      earlier_met = met key;
    },
    record {
      count = count;
      optional_blocks = blocks;
      count_is = is;
      each = passed.each;
      laid_out = passed.laid_out;
      place_is = passed.place_is;
      no_more = inl all;
    },
  )

  -- a character of it is no digit
  pub stops_at_digit : (offset : ℕ) → MetBefore text OptionalBlock → IsSealedPart (drop place text) → offset < length (drop place text)
      → IsNoDigitAt (drop place text) offset → ((key : List ℕ) → IsFirstFault text key Hex) × IsSealedStop text (place + offset)
  stops_at_digit offset met sealed inside no_digit =
      let has = has_sealed_part sealed in (
        λ key. record {
          fails = λ found.
              let digits : AllPass is_hex_digit (drop place text) = subst (AllPass is_hex_digit) (rest_is found.0 found.1) found.2 in
              cc (digits offset 0 inside, no_digit.no_digit inside);
          earlier_met = met_sealed text met (drop place text) has key;
        },
        record {
          sealed_part = drop place text;
          offset = offset;
          sealed_part_is = has;
          offset_is = no_digit;
          place_is = omega (arith, length-drop place text, passed.within);
        },
      )
