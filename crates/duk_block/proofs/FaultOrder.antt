-- The order of the faults.
use Rattle.std.proofs.Common.{◌≡◌, ℕ, zero, suc, ◌+◌, List, refl, sym, ap, subst, ◌∙◌, ◌++◌, inl, inr, arith}
use Rattle.std.proofs.lemmas.Bool.{cases_lt}
use Rattle.hex.proofs.HexLemmas.{decode_of-ok}
use Rattle.duk_block.specs.declared.fault.BlockFault.{BlockFault}
use Rattle.duk_block.specs.declared.fault.BlockFault.TheVariants.{Length, Version, HeaderField, OptionalBlock, Hex, Mac, Payload, PadLength}
use Rattle.duk_block.specs.Faults.{HasSealedPart, HasPayload, IsFirstFault, Meets, rank}
use Rattle.duk_block.specs.inner.Faults.{HasHeader, MetBefore}
use Rattle.duk_block.specs.declared.header.Header.{Header}
use Rattle.std.specs.List.{All}
use Rattle.duk_block.specs.HeaderText.{IsPrintable}

fault_of : ℕ → BlockFault
fault_of zero = Length
fault_of (suc zero) = Version
fault_of (suc (suc zero)) = HeaderField
fault_of (suc (suc (suc zero))) = OptionalBlock
fault_of (suc (suc (suc (suc zero)))) = Hex
fault_of (suc (suc (suc (suc (suc zero))))) = Mac
fault_of (suc (suc (suc (suc (suc (suc zero)))))) = Payload
fault_of (suc (suc (suc (suc (suc (suc (suc n))))))) = PadLength

fault_of-rank : (fault : BlockFault) → fault_of (rank fault) ≡ fault
unfolding fault_of
fault_of-rank Length = refl
fault_of-rank Version = refl
fault_of-rank HeaderField = refl
fault_of-rank OptionalBlock = refl
fault_of-rank Hex = refl
fault_of-rank Mac = refl
fault_of-rank Payload = refl
fault_of-rank PadLength = refl

pub rank_same : (a b : BlockFault) → rank a ≡ rank b → a ≡ b
rank_same a b same = sym (fault_of-rank a) ∙ ap fault_of same ∙ fault_of-rank b

pub met_next : (text key : List ℕ) (limit next : BlockFault) → rank next ≡ rank limit + 1 → MetBefore text key limit → Meets text key limit → MetBefore text key next
met_next text key limit next follows before here earlier below =
    elim (cases_lt (rank earlier) (rank limit)) [
      | inl lower ↦ before earlier lower
      | inr upper ↦
          let P : BlockFault → Type 0 = Meets text key in
          subst P (rank_same limit earlier (omega arith)) here
    ]

pub met_before_version : (text key : List ℕ) → Meets text key Length → MetBefore text key Version
met_before_version text key here = met_next text key Length Version refl (λ earlier below. absurd (omega arith)) here

pub met_before_field : (text key : List ℕ) → Meets text key Length → Meets text key Version → MetBefore text key HeaderField
met_before_field text key first second = met_next text key Version HeaderField refl (met_before_version text key first) second

pub met_before_optional : (text key : List ℕ) (header : Header) (count : ℕ) → HasHeader text header count → MetBefore text key OptionalBlock
met_before_optional text key header count has =
    let P : List ℕ → Type 0 = All IsPrintable in
    met_next text key HeaderField OptionalBlock refl (met_before_field text key has.length_is has.version_is) (subst P has.fields_are has.header_is.printable, (count, has.count_is))

pub met_before_hex : (text key : List ℕ) (header : Header) (count : ℕ) → HasHeader text header count → (sealed_part : List ℕ) → HasSealedPart text sealed_part → MetBefore text key Hex
met_before_hex text key header count has sealed_part of_sealed_part =
    met_next text key OptionalBlock Hex refl (met_before_optional text key header count has) (sealed_part, of_sealed_part)

-- there is one first fault
pub IsFirstFault-same : (text key : List ℕ) (a b : BlockFault) → IsFirstFault text key a → IsFirstFault text key b → a ≡ b
IsFirstFault-same text key a b first other =
    elim (cases_lt (rank a) (rank b)) [
      | inl below ↦ absurd (first.fails (other.earlier_met a below))
      | inr above ↦ elim (cases_lt (rank b) (rank a)) [
        | inl below ↦ absurd (other.fails (first.earlier_met b below))
        | inr equal ↦ rank_same a b (omega arith)
      ]
    ]

pub met_before_payload : (text key : List ℕ) (header : Header) (count : ℕ) → HasHeader text header count → (payload : List ℕ) → HasPayload text key payload → MetBefore text key Payload
met_before_payload text key header count has payload opened =
    let parts = opened.parts in
    let read = decode_of-ok parts.sealed_part (opened.ciphertext ++ opened.mac) parts.sealed_part_is_read in
    met_next text key Mac Payload refl
    (met_next text key Hex Mac refl (met_before_hex text key header count has parts.sealed_part parts.sealed_part_is) (parts.sealed_part, parts.sealed_part_is, read.1))
    (payload, opened)
