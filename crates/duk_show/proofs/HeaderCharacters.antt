-- The characters of a header's fields.
use Rattle.std.proofs.Common.{◌≡◌, ◌<◌, ◌≤◌, ◌+◌, ◌-◌, zero, suc, ◌/◌, ◌%◌, ◌∷◌, [], ℕ, List, length, take, drop, get_or, inl, inr, slice_index, ap, sym, subst, ◌∙◌, arith}
use Rattle.std.specs.Char.{IsAsciiDigit}
use Rattle.std.proofs.lemmas.Bool.{cases_lt}
use Rattle.std.proofs.lemmas.List.{get_or-drop, get_or-take, length-drop, length-take-le}
use Rattle.std.proofs.lemmas.List.Elements.{All-from_get_or}
use Rattle.duk_block.specs.Faults.{HasCount, HasFields, HasLength, HasVersion, IsFirstFault, Meets}
use Rattle.duk_block.specs.HeaderText.{IsPrintable}
use Rattle.duk_block.specs.declared.fault.BlockFault.TheVariants.{HeaderField}
use Rattle.duk_show.proofs.BlockOrder.{met_fields}
use Rattle.duk_show.specs.Block.{IsFieldCharacter, IsWrongCharacterAt}

-- a character by its place in a range of the text
at : (text : List ℕ) (start count i : ℕ) → i < count → get_or (take count (drop start text)) i 0 ≡ get_or text (start + i) 0
at text start count i below = get_or-take count (drop start text) i 0 below ∙ get_or-drop start text i 0

-- characters that are right at all places are lawful fields
pub fields_right : (text : List ℕ) → 16 ≤ length text → ((place : ℕ) → 5 ≤ place → place < 14 → IsFieldCharacter place (slice_index text place)) → HasFields text
fields_right text size right =
    All-from_get_or IsPrintable (take 7 (drop 5 text)) 0 (λ i below.
    let seven : length (take 7 (drop 5 text)) ≡ 7 = length-take-le 7 (drop 5 text) (omega (arith, length-drop 5 text)) in
    let inside : i < 7 = omega (arith, below, seven) in
    subst IsPrintable (sym (at text 5 7 i inside)) ((right (5 + i) (omega arith) (omega arith)).printable (omega arith)))

-- the digits of a number are digits
digit_at : (text : List ℕ) (count place i : ℕ) → HasCount text count → place ≡ 12 + i → i < 2 → IsAsciiDigit (slice_index text place)
digit_at text count place i is where_is below =
    let here : get_or text (12 + i) 0 ≡ get_or ((0x30 + count / 10) ∷ (0x30 + count % 10) ∷ []) i 0 =
    sym (at text 12 2 i below) ∙ ap (λ (digits : List ℕ). get_or digits i 0) is.written in
    subst IsAsciiDigit (sym (ap (λ (n : ℕ). get_or text n 0) where_is ∙ here)) (one_of_two count i is.below below)
  where
    one_of_two : (count i : ℕ) → count < 100 → i < 2 → IsAsciiDigit (get_or ((0x30 + count / 10) ∷ (0x30 + count % 10) ∷ []) i 0)
    one_of_two count zero small below = (omega arith, omega arith)
    one_of_two count (suc zero) small below = (omega arith, omega arith)
    one_of_two count (suc (suc i)) small below = absurd (omega arith)

-- one that is wrong at its place is not
pub fields_wrong : (text key : List ℕ) (place : ℕ) → 16 ≤ length text → IsWrongCharacterAt text place → ¬ Meets text key HeaderField
fields_wrong text key place size is met = elim (cases_lt place 12) [
  | inl below ↦
      let first = is.first in
      let i = place - 5 in
      let there : 5 + i ≡ place = omega arith in
      let seven : length (take 7 (drop 5 text)) ≡ 7 = length-take-le 7 (drop 5 text) (omega (arith, length-drop 5 text)) in
      let printable : IsPrintable (slice_index text place) =
      subst IsPrintable (at text 5 7 i (omega arith) ∙ ap (λ (n : ℕ). get_or text n 0) there) (met.0 i 0 (omega (arith, seven))) in
      is.wrong (record { printable = λ h. printable; digit = λ h. absurd (omega arith) })
  | inr above ↦
      let last = is.last in
      is.wrong (record {
        printable = λ h. absurd (omega arith);
        digit = λ h. digit_at text met.1.0 place (place - 12) met.1.1 (omega arith) (omega arith);
      })
]

-- the first wrong character is the first fault
pub first_wrong : (text : List ℕ) (place : ℕ) → HasLength text → HasVersion text → IsWrongCharacterAt text place → (key : List ℕ) → IsFirstFault text key HeaderField
first_wrong text place has_length has_version is key = record {
  fails = fields_wrong text key place (omega (arith, has_length.limits.least)) is;
  earlier_met = met_fields text has_length has_version key;
}
