-- The steps of a derivation in lanes, a block of data in each.
use Rattle.std.proofs.Common.{◌≡◌, ◌<◌, ◌^◌, ◌==◌, if◌then◌else◌, ℕ, Bool, true, false, List, [], ◌∷◌, ◌++◌, length, lit<, refl, sym, ap, ap₂, inl, inr, subst, ◌∙◌, append-nil}
use Rattle.std.specs.List.{All}
use Rattle.std.proofs.lemmas.List.Elements.{All-nil, All-cons}
use Rattle.duk_des.specs.Block.{IsBlock}
use Rattle.duk_lanes.specs.Words.{wide_lane}
use Rattle.duk_tdes.specs.Tdes.{IsTdesLength}
use Rattle.duk_mac.specs.Cmac.{cmac_of}
use Rattle.duk_block.specs.Derived.{derivation_data, derivation_step, derived_key}
use Rattle.duk_group.specs.Blocks.{block_of, message_in}

abbrev IsByte : ℕ → Type 0
IsByte byte = byte < 2 ^ 8

four_fit : (a b c d : ℕ) (rest : List ℕ) → IsByte a → IsByte b → IsByte c → IsByte d → All IsByte rest → All IsByte (a ∷ b ∷ c ∷ d ∷ rest)
four_fit a b c d rest pa pb pc pd fit =
    All-cons IsByte a (b ∷ c ∷ d ∷ rest) pa (All-cons IsByte b (c ∷ d ∷ rest) pb (All-cons IsByte c (d ∷ rest) pc (All-cons IsByte d rest pd fit)))

data_is_a_block : (double : Bool) (counter low : ℕ) → IsByte counter → IsByte low
    → IsBlock (counter ∷ 0x00 ∷ low ∷ 0x00 ∷ (if double then 0x00 ∷ 0x00 ∷ 0x00 ∷ 0x80 ∷ [] else 0x00 ∷ 0x01 ∷ 0x00 ∷ 0xC0 ∷ []))
data_is_a_block true counter low small small_low = record {
  eight = refl;
  bytes_fit = four_fit counter 0x00 low 0x00 (0x00 ∷ 0x00 ∷ 0x00 ∷ 0x80 ∷ []) small (lit< tt) small_low (lit< tt)
      (four_fit 0x00 0x00 0x00 0x80 [] (lit< tt) (lit< tt) (lit< tt) (lit< tt) (All-nil IsByte));
}
data_is_a_block false counter low small small_low = record {
  eight = refl;
  bytes_fit = four_fit counter 0x00 low 0x00 (0x00 ∷ 0x01 ∷ 0x00 ∷ 0xC0 ∷ []) small (lit< tt) small_low (lit< tt)
      (four_fit 0x00 0x01 0x00 0xC0 [] (lit< tt) (lit< tt) (lit< tt) (lit< tt) (All-nil IsByte));
}

-- for a usage whose first byte is zero, as those of enciphering and of MACs
pub IsBlock-derivation_data : (counter low size : ℕ) → IsByte counter → IsByte low → IsBlock (derivation_data counter (0x00 ∷ low ∷ []) size)
IsBlock-derivation_data counter low size small small_low = data_is_a_block (size == 16) counter low small small_low

-- the MAC of a lane's block of data is a step
pub step_in_lane : (i counter low size : ℕ) (key result input : List ℕ) (gathered made : List (List ℕ)) → IsByte counter → IsByte low → size ≡ length key
    → input ≡ derivation_data counter (0x00 ∷ low ∷ []) size
    → (IsBlock input → block_of wide_lane i gathered ≡ input)
    → block_of wide_lane i made ≡ cmac_of key (message_in wide_lane i (gathered ∷ []))
    → result ≡ block_of wide_lane i made
    → result ≡ derivation_step (0x00 ∷ low ∷ []) key counter
step_in_lane i counter low size key result input gathered made small small_low size_is data_is in_lane mac_is result_is =
    let P : List ℕ → Type 0 = IsBlock in
    let is_block : IsBlock input = subst P (sym data_is) (IsBlock-derivation_data counter low size small small_low) in
    result_is
    ∙ mac_is
    ∙ ap (cmac_of key) (append-nil (block_of wide_lane i gathered) ∙ in_lane is_block ∙ data_is ∙ ap (derivation_data counter (0x00 ∷ low ∷ [])) size_is)

-- the steps make the key, two of them or three by its length
pub joined_steps : (usage key result first second third : List ℕ) (size : ℕ) → size ≡ length key → IsTdesLength (length key)
    → (size ≡ 16 → result ≡ first ++ second)
    → (size ≡ 24 → result ≡ first ++ second ++ third)
    → first ≡ derivation_step usage key 1
    → second ≡ derivation_step usage key 2
    → third ≡ derivation_step usage key 3
    → (length key ≡ 16 → derived_key usage key ≡ derivation_step usage key 1 ++ derivation_step usage key 2)
    → (length key ≡ 24 → derived_key usage key ≡ derivation_step usage key 1 ++ derivation_step usage key 2 ++ derivation_step usage key 3)
    → result ≡ derived_key usage key
joined_steps usage key result first second third size size_is either two three is_first is_second is_third double triple =
    elim either [
      | inl is_double ↦ two (size_is ∙ is_double) ∙ ap₂ (λ (a b : List ℕ). a ++ b) is_first is_second ∙ sym (double is_double)
      | inr is_triple ↦
          three (size_is ∙ is_triple)
          ∙ ap₂ (λ (a b : List ℕ). a ++ b) (ap₂ (λ (a b : List ℕ). a ++ b) is_first is_second) is_third
          ∙ sym (triple is_triple)
    ]
