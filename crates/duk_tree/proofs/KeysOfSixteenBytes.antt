-- The keys of the tree are keys of sixteen bytes, as far as the ciphers below make blocks of
-- blocks.
use Rattle.std.proofs.Common.{◌≡◌, ℕ, ◌<◌, ◌≤◌, ◌^◌, true, List, [], ◌∷◌, ◌++◌, length, take, drop, refl, arith, ltb}
use Rattle.std.specs.List.{All, list_all}
use Rattle.std.proofs.lemmas.Bool.Decides.{nat_tests}
use Rattle.std.proofs.lemmas.List.{length-take-le, length-drop}
use Rattle.std.proofs.lemmas.List.Elements.{All-take, All-drop, All-weaker}
use Rattle.std.proofs.lemmas.List.Sums.{AllPass-from_list_all}
use Rattle.duk_des.specs.Block.{IsBlock}
use Rattle.duk_des.specs.Des.{des_encrypted}
use Rattle.duk_tdes.specs.Key.{IsKey, xor_bytes}
use Rattle.duk_tdes.specs.Tdes.{IsTdesKey, first_key, second_key, tdes_encrypted}
use Rattle.duk_tree.specs.Serial.{Serial, serial_bytes, iksn_bytes, low_bytes}
use Rattle.duk_tree.specs.Path.{value_of}
use Rattle.duk_tree.specs.Derivation.{derivation_mask, initial_key_of, half_step_of, step_of, node_key}
use Rattle.duk_tree.proofs.SerialBytes.{length-serial_bytes, serial_bytes_fit}

-- what the crates below say of keys and blocks
pub record Below : Type 0 where
  pub cipher_block : (key block : List ℕ) → IsBlock key → IsBlock block → IsBlock (des_encrypted key block)
  pub tdes_block : (key block : List ℕ) → IsTdesKey key → IsBlock block → IsBlock (tdes_encrypted key block)
  pub masked : (size : ℕ) (key mask : List ℕ) → IsKey size key → IsKey size mask → IsKey size (xor_bytes key mask)
  pub double : (key : List ℕ) → IsKey 16 key → IsTdesKey key
  pub first : (key : List ℕ) → IsTdesKey key → IsBlock (first_key key)
  pub second : (key : List ℕ) → IsTdesKey key → IsBlock (second_key key)
  pub joined : (left right : List ℕ) → IsBlock left → IsBlock right → IsKey 16 (left ++ right)

as_key : {block : List ℕ} → IsBlock block → IsKey 8 block
as_key is_block = record { size_is = is_block.eight; bytes_fit = is_block.bytes_fit }

as_block : {key : List ℕ} → IsKey 8 key → IsBlock key
as_block is_key = record { eight = is_key.size_is; bytes_fit = is_key.bytes_fit }

-- a literal list of bytes fits
literal_fits : (bytes : List ℕ) → list_all (λ byte. ltb byte 256) bytes ≡ true → All (λ byte. byte < 2 ^ 8) bytes
literal_fits bytes test =
    All-weaker (λ byte. ltb byte 256 ≡ true) (λ byte. byte < 2 ^ 8) (λ byte small. grind (arith, nat_tests)) bytes (AllPass-from_list_all (λ byte. ltb byte 256) bytes test)

pub IsKey-literal : (bytes : List ℕ) → length bytes ≡ 16 → list_all (λ byte. ltb byte 256) bytes ≡ true → IsKey 16 bytes
IsKey-literal bytes sixteen test = record { size_is = sixteen; bytes_fit = literal_fits bytes test }

mask_is_key : IsKey 16 derivation_mask
mask_is_key = IsKey-literal derivation_mask refl refl

eight_of_serial : (start : ℕ) (serial : Serial) → start ≤ 2 → IsBlock (take 8 (drop start (serial_bytes serial)))
eight_of_serial start serial within =
    let bytes = serial_bytes serial in
    let fit = serial_bytes_fit serial in
    record {
      eight = length-take-le 8 (drop start bytes) (omega (arith, length-drop start bytes, length-serial_bytes serial));
      bytes_fit = All-take (λ byte. byte < 2 ^ 8) 8 (drop start bytes) (All-drop (λ byte. byte < 2 ^ 8) start bytes fit);
    }

pub IsKey-initial_key_of : Below → (bdk : List ℕ) (iksn : ℕ) → IsKey 16 bdk → IsKey 16 (initial_key_of bdk iksn)
unfolding initial_key_of
IsKey-initial_key_of below bdk iksn is_key =
    let first_eight = take 8 (iksn_bytes iksn) in
    let is_block : IsBlock first_eight = eight_of_serial 0 (record { iksn = iksn; counter = 0 }) (omega arith) in
    let is_masked = below.masked 16 bdk derivation_mask is_key mask_is_key in
    below.joined (tdes_encrypted bdk first_eight) (tdes_encrypted (xor_bytes bdk derivation_mask) first_eight)
    (below.tdes_block bdk first_eight (below.double bdk is_key) is_block)
    (below.tdes_block (xor_bytes bdk derivation_mask) first_eight (below.double (xor_bytes bdk derivation_mask) is_masked) is_block)

IsBlock-half_step_of : Below → (key crypto_register : List ℕ) → IsKey 16 key → IsBlock crypto_register → IsBlock (half_step_of key crypto_register)
unfolding half_step_of
IsBlock-half_step_of below key crypto_register is_key is_block =
    let right = as_key (below.second key (below.double key is_key)) in
    let input = as_block (below.masked 8 (second_key key) crypto_register right (as_key is_block)) in
    let output = below.cipher_block (first_key key) (xor_bytes (second_key key) crypto_register) (below.first key (below.double key is_key)) input in
    as_block (below.masked 8 (second_key key) (des_encrypted (first_key key) (xor_bytes (second_key key) crypto_register)) right (as_key output))

pub IsKey-step_of : Below → (key crypto_register : List ℕ) → IsKey 16 key → IsBlock crypto_register → IsKey 16 (step_of key crypto_register)
unfolding step_of
IsKey-step_of below key crypto_register is_key is_block =
    let masked = xor_bytes key derivation_mask in
    let is_masked = below.masked 16 key derivation_mask is_key mask_is_key in
    below.joined (half_step_of masked crypto_register) (half_step_of key crypto_register)
    (IsBlock-half_step_of below masked crypto_register is_masked is_block)
    (IsBlock-half_step_of below key crypto_register is_key is_block)

pub IsKey-node_key : Below → (initial : List ℕ) (iksn : ℕ) (path : List ℕ) → IsKey 16 initial → IsKey 16 (node_key initial iksn path)
IsKey-node_key below initial iksn [] is_key = is_key
IsKey-node_key below initial iksn (place ∷ parent) is_key =
    let serial : Serial = record { iksn = iksn; counter = value_of (place ∷ parent) } in
    IsKey-step_of below (node_key initial iksn parent) (low_bytes serial) (IsKey-node_key below initial iksn parent is_key) (eight_of_serial 2 serial (omega arith))
