-- The CMAC of bytes is a block.
use Rattle.std.proofs.Common.{◌≡◌, ◌≢◌, Bool, true, false, if◌then◌else◌, ℕ, zero, suc, ◌/◌, ◌%◌, ◌<◌, ◌≤◌, ◌-◌, ◌^◌, List, [], ◌∷◌, length, take, drop, replicate, lit<, refl, sym, subst, inl, inr, ◌==◌, length-append, length-drop, arith}
use Rattle.std.specs.Int.{w64, to_be_bytes}
use Rattle.std.specs.List.{All}
use Rattle.std.proofs.lemmas.Bool.{cases_lt, eqb-true, eqb-false}
use Rattle.std.proofs.lemmas.List.{length-take-le, length-replicate}
use Rattle.std.proofs.lemmas.List.Elements.{All-nil, All-cons, All-append, All-replicate, All-take, All-drop}
use Rattle.duk_des.specs.Block.{IsBlock}
use Rattle.duk_tdes.specs.Blocks.{blocks_of}
use Rattle.duk_tdes.specs.Key.{xor_bytes}
use Rattle.duk_tdes.specs.Tdes.{tdes_encrypted}
use Rattle.duk_mac.specs.Chain.{chained, zero_block}
use Rattle.duk_mac.specs.Cmac.{cmac_of, doubled, first_subkey, last_block, with_last_masked, padded, second_subkey}
use Rattle.duk_mac.proofs.LastBlockMasked.{masked-more, masked-one}

abbrev IsByte : ℕ → Type 0
IsByte byte = byte < 2 ^ 8

-- what the laws of TDES say of blocks under one key
pub record MakesBlocks (key : List ℕ) : Type 0 where
  pub cipher : (block : List ℕ) → IsBlock block → IsBlock (tdes_encrypted key block)
  pub sum : (block mask : List ℕ) → IsBlock block → IsBlock mask → IsBlock (xor_bytes block mask)

block_of_eight : (a b c d e f g h : ℕ) → IsByte a → IsByte b → IsByte c → IsByte d → IsByte e → IsByte f → IsByte g → IsByte h
    → IsBlock (a ∷ b ∷ c ∷ d ∷ e ∷ f ∷ g ∷ h ∷ [])
block_of_eight a b c d e f g h pa pb pc pd pe pf pg ph = record {
  eight = refl;
  bytes_fit =
      All-cons IsByte a (b ∷ c ∷ d ∷ e ∷ f ∷ g ∷ h ∷ []) pa
      (All-cons IsByte b (c ∷ d ∷ e ∷ f ∷ g ∷ h ∷ []) pb
      (All-cons IsByte c (d ∷ e ∷ f ∷ g ∷ h ∷ []) pc
      (All-cons IsByte d (e ∷ f ∷ g ∷ h ∷ []) pd
      (All-cons IsByte e (f ∷ g ∷ h ∷ []) pe
      (All-cons IsByte f (g ∷ h ∷ []) pf
      (All-cons IsByte g (h ∷ []) pg
      (All-cons IsByte h [] ph (All-nil IsByte))))))));
}

byte_of : (n : ℕ) → IsByte (n % 256)
byte_of n = omega arith

IsBlock-to_be_bytes : (n : ℕ) → IsBlock (to_be_bytes w64 n)
IsBlock-to_be_bytes n =
    block_of_eight (n / 2 ^ 56 % 256) (n / 2 ^ 48 % 256) (n / 2 ^ 40 % 256) (n / 2 ^ 32 % 256) (n / 2 ^ 24 % 256) (n / 2 ^ 16 % 256) (n / 2 ^ 8 % 256) (n % 256)
    (byte_of (n / 2 ^ 56)) (byte_of (n / 2 ^ 48)) (byte_of (n / 2 ^ 40)) (byte_of (n / 2 ^ 32)) (byte_of (n / 2 ^ 24)) (byte_of (n / 2 ^ 16)) (byte_of (n / 2 ^ 8)) (byte_of n)

IsBlock-doubled : (block : List ℕ) → IsBlock (doubled block)
unfolding doubled
IsBlock-doubled block = IsBlock-to_be_bytes _

IsBlock-zero_block : IsBlock zero_block
IsBlock-zero_block = record { eight = refl; bytes_fit = All-replicate IsByte 8 0 (lit< tt) }

IsBlock-padded : (part : List ℕ) → length part < 8 → All IsByte part → IsBlock (padded part)
IsBlock-padded part short fit =
    let zeros : List ℕ = replicate (7 - length part) 0 in
    record {
      eight = omega (arith, length-append part (0x80 ∷ zeros), length-replicate {A = ℕ} (7 - length part) 0);
      bytes_fit = All-append IsByte part (0x80 ∷ zeros) fit (All-cons IsByte 0x80 zeros (lit< tt) (All-replicate IsByte (7 - length part) 0 (lit< tt)));
    }

-- by whether the last block is whole
last_by : (key block : List ℕ) → MakesBlocks key → length block ≤ 8 → All IsByte block → (whole : Bool) → (length block == 8) ≡ whole
    → IsBlock (if whole then xor_bytes block (first_subkey key) else xor_bytes (padded block) (second_subkey key))
last_by key block makes short fit true is =
    let is_block : IsBlock block = record { eight = eqb-true (length block) 8 is; bytes_fit = fit } in
    makes.sum block (first_subkey key) is_block (IsBlock-doubled (tdes_encrypted key zero_block))
last_by key block makes short fit false is =
    let other : length block ≢ 8 = eqb-false (length block) 8 is in
    makes.sum (padded block) (second_subkey key) (IsBlock-padded block (omega arith) fit) (IsBlock-doubled (first_subkey key))

IsBlock-last_block : (key block : List ℕ) → MakesBlocks key → length block ≤ 8 → All IsByte block → IsBlock (last_block key block)
IsBlock-last_block key block makes short fit = last_by key block makes short fit (length block == 8) refl

-- one block is left
chained-one : (key chain rest : List ℕ) → MakesBlocks key → length rest ≤ 8 → IsBlock chain → All IsByte rest
    → IsBlock (chained (tdes_encrypted key) chain (with_last_masked key (blocks_of rest)))
chained-one key chain rest makes short is_chain fit =
    let P : List (List ℕ) → Type 0 = λ blocks. IsBlock (chained (tdes_encrypted key) chain blocks) in
    let last : List ℕ = last_block key rest in
    subst P (sym (masked-one key rest short))
    (makes.cipher (xor_bytes chain last) (makes.sum chain last is_chain (IsBlock-last_block key rest makes short fit)))

-- at most so many bytes are left
IsBlock-chained : (key : List ℕ) → MakesBlocks key → (most : ℕ) (chain rest : List ℕ) → length rest ≤ most → IsBlock chain → All IsByte rest
    → IsBlock (chained (tdes_encrypted key) chain (with_last_masked key (blocks_of rest)))
IsBlock-chained key makes zero chain rest within is_chain fit = chained-one key chain rest makes (omega arith) is_chain fit
IsBlock-chained key makes (suc most) chain rest within is_chain fit =
    elim (cases_lt 8 (length rest)) [
      | inr short ↦ chained-one key chain rest makes short is_chain fit
      | inl long ↦
          let P : List (List ℕ) → Type 0 = λ blocks. IsBlock (chained (tdes_encrypted key) chain blocks) in
          let first : List ℕ = take 8 rest in
          let is_first : IsBlock first = record { eight = length-take-le 8 rest (omega arith); bytes_fit = All-take IsByte 8 rest fit } in
          let next : List ℕ = tdes_encrypted key (xor_bytes chain first) in
          subst P (sym (masked-more key rest long))
          (IsBlock-chained key makes most next (drop 8 rest) (omega (arith, length-drop 8 rest)) (makes.cipher (xor_bytes chain first) (makes.sum chain first is_chain is_first)) (All-drop IsByte 8 rest fit))
    ]

pub IsBlock-cmac_of : (key : List ℕ) → MakesBlocks key → (message : List ℕ) → All IsByte message → IsBlock (cmac_of key message)
unfolding cmac_of
IsBlock-cmac_of key makes message fit = IsBlock-chained key makes (length message) zero_block message (omega arith) IsBlock-zero_block fit
