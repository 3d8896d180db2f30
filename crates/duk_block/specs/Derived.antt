-- The keys derived from a key block protection key (ANSI X9.143, key derivation binding method for
-- TDES).
use Rattle.std.specs.Prelude.{ℕ, List, [], ◌∷◌, ◌++◌, length, ◌==◌, if◌then◌else◌}
use Rattle.std.specs.List.{flat_map}
use Rattle.duk_mac.specs.Cmac.{cmac_of}

-- the usage of a key that enciphers payloads
abbrev pub encryption_usage : List ℕ
encryption_usage = 0x00 ∷ 0x00 ∷ []

-- the usage of a key that makes MACs
abbrev pub mac_usage : List ℕ
mac_usage = 0x00 ∷ 0x01 ∷ []

-- the algorithm, TDES with two keys or with three, and the length of the derived key in bits
abbrev pub algorithm_and_length : ℕ → List ℕ
algorithm_and_length size =
    if size == 16 then 0x00 ∷ 0x00 ∷ 0x00 ∷ 0x80 ∷ [] else 0x00 ∷ 0x01 ∷ 0x00 ∷ 0xC0 ∷ []

-- the data of one derivation step: counter, usage, a separator, algorithm and length
abbrev pub derivation_data : ℕ → List ℕ → ℕ → List ℕ
derivation_data counter usage size = counter ∷ usage ++ 0x00 ∷ algorithm_and_length size

-- one derivation step, eight bytes of the derived key
abbrev pub derivation_step : List ℕ → List ℕ → ℕ → List ℕ
derivation_step usage protection_key counter =
    cmac_of protection_key (derivation_data counter usage (length protection_key))

-- the counters of the steps, one for each eight bytes of the key
abbrev pub counters : ℕ → List ℕ
counters size = if size == 16 then 1 ∷ 2 ∷ [] else 1 ∷ 2 ∷ 3 ∷ []

-- the derived key, of the protection key's length: the CMACs of the steps one after the other
unfoldable pub derived_key : List ℕ → List ℕ → List ℕ
derived_key usage protection_key =
    flat_map (derivation_step usage protection_key) (counters (length protection_key))
