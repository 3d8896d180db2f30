-- The order of the faults of a key block, whatever the key is.
use Rattle.std.proofs.Common.{◌≡◌, ◌<◌, ◌+◌, ◌/◌, ◌%◌, ◌∷◌, [], ℕ, List, length, take, get_or, ap, sym, ◌∙◌, arith}
use Rattle.duk_block.specs.Faults.{HasFields, HasCount, HasLength, HasSealedPart, HasVersion}
use Rattle.duk_block.specs.declared.fault.BlockFault.TheVariants.{Length, Version, HeaderField, OptionalBlock, Hex, Mac, Payload, PadLength}
use Rattle.duk_show.specs.inner.Block.{MetBefore}

-- a text whose header is lawful meets what comes before the optional blocks
pub met_header : (text : List ℕ) → HasLength text → HasVersion text → HasFields text → (count : ℕ) → HasCount text count → MetBefore text OptionalBlock
met_header text size version fields count is key Length below = size
met_header text size version fields count is key Version below = version
met_header text size version fields count is key HeaderField below = (fields, (count, is))
met_header text size version fields count is key OptionalBlock below = absurd (omega arith)
met_header text size version fields count is key Hex below = absurd (omega arith)
met_header text size version fields count is key Mac below = absurd (omega arith)
met_header text size version fields count is key Payload below = absurd (omega arith)
met_header text size version fields count is key PadLength below = absurd (omega arith)

-- one that begins so meets what comes before the fields
pub met_fields : (text : List ℕ) → HasLength text → HasVersion text → MetBefore text HeaderField
met_fields text size version key Length below = size
met_fields text size version key Version below = version
met_fields text size version key HeaderField below = absurd (omega arith)
met_fields text size version key OptionalBlock below = absurd (omega arith)
met_fields text size version key Hex below = absurd (omega arith)
met_fields text size version key Mac below = absurd (omega arith)
met_fields text size version key Payload below = absurd (omega arith)
met_fields text size version key PadLength below = absurd (omega arith)

-- and with a sealed part what comes before its digits
pub met_sealed : (text : List ℕ) → MetBefore text OptionalBlock → (sealed_part : List ℕ) → HasSealedPart text sealed_part → MetBefore text Hex
met_sealed text met sealed_part is key Length below = met key Length (omega arith)
met_sealed text met sealed_part is key Version below = met key Version (omega arith)
met_sealed text met sealed_part is key HeaderField below = met key HeaderField (omega arith)
met_sealed text met sealed_part is key OptionalBlock below = (sealed_part, is)
met_sealed text met sealed_part is key Hex below = absurd (omega arith)
met_sealed text met sealed_part is key Mac below = absurd (omega arith)
met_sealed text met sealed_part is key Payload below = absurd (omega arith)
met_sealed text met sealed_part is key PadLength below = absurd (omega arith)

-- one character in front
pub take_one : (text : List ℕ) (character : ℕ) → 0 < length text → get_or text 0 0 ≡ character → take 1 text ≡ character ∷ []
take_one [] character some same = absurd (omega arith)
take_one (first ∷ text) character some same = ap (λ (one : ℕ). one ∷ []) same

two_same : (a b : ℕ) → a < 100 → b < 100 → 0x30 + a / 10 ≡ 0x30 + b / 10 → 0x30 + a % 10 ≡ 0x30 + b % 10 → a ≡ b
two_same a b small other tens ones = omega (arith, small, other, tens, ones)

-- two characters write one number
pub count_same : (text : List ℕ) (a b : ℕ) → HasCount text a → HasCount text b → a ≡ b
count_same text a b one other =
    let same = sym one.written ∙ other.written in
    two_same a b one.below other.below (ap (λ (digits : List ℕ). get_or digits 0 0) same) (ap (λ (digits : List ℕ). get_or digits 1 0) same)
