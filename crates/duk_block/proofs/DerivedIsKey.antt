-- A derived key is a TDES key.
use Rattle.std.proofs.Common.{Bool, true, false, if◌then◌else◌, ◌==◌, ℕ, ◌<◌, ◌^◌, List, [], ◌∷◌, ◌++◌, length, lit<, sym, subst, inl, inr, length-append, arith}
use Rattle.std.specs.List.{All}
use Rattle.std.proofs.lemmas.List.Elements.{All-nil, All-cons, All-append}
use Rattle.duk_des.specs.Block.{IsBlock}
use Rattle.duk_mac.specs.Cmac.{cmac_of}
use Rattle.duk_tdes.specs.Tdes.{IsTdesKey}
use Rattle.duk_block.specs.Derived.{algorithm_and_length, derivation_data, derivation_step, derived_key, encryption_usage, mac_usage}
use Rattle.duk_block.proofs.DerivedKeyByLength.{derived_key-double, derived_key-triple}

abbrev IsByte : ℕ → Type 0
IsByte byte = byte < 2 ^ 8

two_fit : (a b : ℕ) → IsByte a → IsByte b → All IsByte (a ∷ b ∷ [])
two_fit a b pa pb = All-cons IsByte a (b ∷ []) pa (All-cons IsByte b [] pb (All-nil IsByte))

pub encryption_usage_fits : All IsByte encryption_usage
encryption_usage_fits = two_fit 0x00 0x00 (lit< tt) (lit< tt)

pub mac_usage_fits : All IsByte mac_usage
mac_usage_fits = two_fit 0x00 0x01 (lit< tt) (lit< tt)

algorithm_fits : (double : Bool) → All IsByte (if double then 0x00 ∷ 0x00 ∷ 0x00 ∷ 0x80 ∷ [] else 0x00 ∷ 0x01 ∷ 0x00 ∷ 0xC0 ∷ [])
algorithm_fits true = All-append IsByte (0x00 ∷ 0x00 ∷ []) (0x00 ∷ 0x80 ∷ []) (two_fit 0x00 0x00 (lit< tt) (lit< tt)) (two_fit 0x00 0x80 (lit< tt) (lit< tt))
algorithm_fits false = All-append IsByte (0x00 ∷ 0x01 ∷ []) (0x00 ∷ 0xC0 ∷ []) (two_fit 0x00 0x01 (lit< tt) (lit< tt)) (two_fit 0x00 0xC0 (lit< tt) (lit< tt))

derivation_data_fits : (counter : ℕ) (usage : List ℕ) (size : ℕ) → IsByte counter → All IsByte usage → All IsByte (derivation_data counter usage size)
derivation_data_fits counter usage size small fit =
    let algorithm : List ℕ = algorithm_and_length size in
    All-cons IsByte counter (usage ++ 0x00 ∷ algorithm) small
    (All-append IsByte usage (0x00 ∷ algorithm) fit (All-cons IsByte 0x00 algorithm (lit< tt) (algorithm_fits (size == 16))))

two_blocks : (a b : List ℕ) → IsBlock a → IsBlock b → IsTdesKey (a ++ b)
two_blocks a b of_a of_b = record {
  length_is = inl (omega (arith, length-append a b, of_a.eight, of_b.eight));
  bytes_fit = All-append IsByte a b of_a.bytes_fit of_b.bytes_fit;
}

three_blocks : (a b c : List ℕ) → IsBlock a → IsBlock b → IsBlock c → IsTdesKey (a ++ b ++ c)
three_blocks a b c of_a of_b of_c = record {
  length_is = inr (omega (arith, length-append (a ++ b) c, length-append a b, of_a.eight, of_b.eight, of_c.eight));
  bytes_fit = All-append IsByte (a ++ b) c (All-append IsByte a b of_a.bytes_fit of_b.bytes_fit) of_c.bytes_fit;
}

-- the law of MACs under the protection key gives it
pub IsTdesKey-derived_key : (usage key : List ℕ) → ((message : List ℕ) → All IsByte message → IsBlock (cmac_of key message)) → IsTdesKey key → All IsByte usage
    → IsTdesKey (derived_key usage key)
IsTdesKey-derived_key usage key is_block is_key fit =
    let P : List ℕ → Type 0 = IsTdesKey in
    let size = length key in
    let first : IsBlock (derivation_step usage key 1) = is_block (derivation_data 1 usage size) (derivation_data_fits 1 usage size (lit< tt) fit) in
    let second : IsBlock (derivation_step usage key 2) = is_block (derivation_data 2 usage size) (derivation_data_fits 2 usage size (lit< tt) fit) in
    let third : IsBlock (derivation_step usage key 3) = is_block (derivation_data 3 usage size) (derivation_data_fits 3 usage size (lit< tt) fit) in
    elim is_key.length_is [
      | inl double ↦ subst P (sym (derived_key-double usage key double)) (two_blocks (derivation_step usage key 1) (derivation_step usage key 2) first second)
      | inr triple ↦ subst P (sym (derived_key-triple usage key triple)) (three_blocks (derivation_step usage key 1) (derivation_step usage key 2) (derivation_step usage key 3) first second third)
    ]
