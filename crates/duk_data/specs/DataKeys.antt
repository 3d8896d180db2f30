-- The keys of a transaction that encipher data (ANSI X9.24-1:2009 annex A.4.1).
use Rattle.std.specs.Prelude.{ℕ, List, [], ◌∷◌, ◌++◌}
use Rattle.duk_tdes.specs.Key.{xor_bytes}
use Rattle.duk_tdes.specs.Tdes.{first_key, second_key, tdes_encrypted}
use Rattle.duk_tree.specs.Derivation.{both_halves}

-- the data key of a variant of the transaction key: each half of the variant, enciphered by TDES
-- under the variant itself
abbrev pub data_key_of : List ℕ → List ℕ
data_key_of variant =
    tdes_encrypted variant (first_key variant) ++ tdes_encrypted variant (second_key variant)

-- the key that enciphers the data of a request, or of both ways: that of the variant with
-- 0000000000FF0000 in both halves
abbrev pub request_data_key_of : List ℕ → List ℕ
request_data_key_of key =
    data_key_of (xor_bytes key (both_halves (0 ∷ 0 ∷ 0 ∷ 0 ∷ 0 ∷ 0xFF ∷ 0 ∷ 0 ∷ [])))

-- the key that enciphers the data of a response: that of the variant with 000000FF00000000
abbrev pub response_data_key_of : List ℕ → List ℕ
response_data_key_of key =
    data_key_of (xor_bytes key (both_halves (0 ∷ 0 ∷ 0 ∷ 0xFF ∷ 0 ∷ 0 ∷ 0 ∷ 0 ∷ [])))
