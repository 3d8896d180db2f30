-- The keys of DUKPT with double-length keys (ANSI X9.24-1:2009 annex A).
use Rattle.std.specs.Prelude.{ℕ, List, [], ◌∷◌, ◌++◌, take}
use Rattle.duk_des.specs.Des.{des_encrypted}
use Rattle.duk_tdes.specs.Key.{xor_bytes}
use Rattle.duk_tdes.specs.Tdes.{first_key, second_key, tdes_encrypted}
use Rattle.duk_tree.specs.Serial.{Serial, iksn_bytes, low_bytes}
use Rattle.duk_tree.specs.Path.{value_of, path_of}

-- a mask of eight bytes over both halves of a key (this project's own word)
abbrev pub both_halves : List ℕ → List ℕ
both_halves mask = mask ++ mask

-- C0C0C0C000000000 over both halves: the mask for the right half of an initial key and the left
-- half of a derived key
abbrev pub derivation_mask : List ℕ
derivation_mask = both_halves (0xC0 ∷ 0xC0 ∷ 0xC0 ∷ 0xC0 ∷ 0 ∷ 0 ∷ 0 ∷ 0 ∷ [])

-- the initial key: the first eight bytes of the initial key serial number, enciphered under the
-- base derivation key and, for the right half, under that key with the mask
unfoldable pub initial_key_of : List ℕ → ℕ → List ℕ
initial_key_of bdk iksn =
    let first_eight = take 8 (iksn_bytes iksn) in
    tdes_encrypted bdk first_eight ++ tdes_encrypted (xor_bytes bdk derivation_mask) first_eight

-- the crypto_register, masked with the right half of a key before and after its encipherment under
-- the left half
unfoldable pub half_step_of : List ℕ → List ℕ → List ℕ
half_step_of key crypto_register =
    xor_bytes (second_key key)
    (des_encrypted (first_key key) (xor_bytes (second_key key) crypto_register))

-- the Non-reversible Key Generation Process: the right half under the key itself, the left half
-- under the key with the mask
unfoldable pub step_of : List ℕ → List ℕ → List ℕ
step_of key crypto_register =
    half_step_of (xor_bytes key derivation_mask) crypto_register ++ half_step_of key crypto_register

-- the key of a node: the initial key at the root, and else a step from the parent's key with the
-- node's own key serial number
abbrev pub node_key : List ℕ → ℕ → List ℕ → List ℕ
node_key initial iksn [] = initial
node_key initial iksn (place ∷ parent) =
    step_of (node_key initial iksn parent)
    (low_bytes (record { iksn = iksn; counter = value_of (place ∷ parent) }))

-- the transaction key of a counter, under the initial key of its terminal
abbrev pub transaction_key_of : List ℕ → ℕ → ℕ → List ℕ
transaction_key_of initial iksn counter = node_key initial iksn (path_of counter)

-- the transaction key of a key serial number, under the base derivation key
abbrev pub derived_key_of : List ℕ → Serial → List ℕ
derived_key_of bdk serial =
    transaction_key_of (initial_key_of bdk serial.iksn) serial.iksn serial.counter

-- the variant of a transaction key that enciphers PINs: 00000000000000FF in both halves
abbrev pub pin_key_of : List ℕ → List ℕ
pin_key_of key = xor_bytes key (both_halves (0 ∷ 0 ∷ 0 ∷ 0 ∷ 0 ∷ 0 ∷ 0 ∷ 0xFF ∷ []))

-- the variant that authenticates requests (message authentication, request or both ways):
-- 000000000000FF00
abbrev pub request_key_of : List ℕ → List ℕ
request_key_of key = xor_bytes key (both_halves (0 ∷ 0 ∷ 0 ∷ 0 ∷ 0 ∷ 0 ∷ 0xFF ∷ 0 ∷ []))

-- the variant that authenticates responses (message authentication, response): 00000000FF000000
abbrev pub response_key_of : List ℕ → List ℕ
response_key_of key = xor_bytes key (both_halves (0 ∷ 0 ∷ 0 ∷ 0 ∷ 0xFF ∷ 0 ∷ 0 ∷ 0 ∷ []))
