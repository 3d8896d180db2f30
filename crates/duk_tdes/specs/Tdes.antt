-- Triple DES (NIST SP 800-67 section 3) over lists of bytes.
use Rattle.std.specs.Prelude.{◌≡◌, ◌⊎◌, ◌<◌, ◌^◌, ℕ, List, length, take, drop, ◌==◌, if◌then◌else◌}
use Rattle.std.specs.List.{All}
use Rattle.duk_des.specs.Des.{des_encrypted, des_decrypted}

-- a TDES key has 16 bytes, where K3 is K1, or 24, where each of the three single keys has its own
-- (section 3, keying options)
abbrev pub IsTdesLength : ℕ → Type 0
IsTdesLength size = (size ≡ 16) ⊎ (size ≡ 24)

-- K1 (section 3); of a key of 16 bytes it is the left half
abbrev pub first_key : List ℕ → List ℕ
first_key key = take 8 key

-- K2 (section 3); of a key of 16 bytes it is the right half
abbrev pub second_key : List ℕ → List ℕ
second_key key = take 8 (drop 8 key)

-- K3, which is K1 again in a key of 16 bytes (section 3, keying options)
abbrev pub third_key : List ℕ → List ℕ
third_key key = if length key == 16 then first_key key else take 8 (drop 16 key)

-- the forward cipher operation (section 3): encryption under K1, decryption under K2, encryption
-- under K3
unfoldable pub tdes_encrypted : List ℕ → List ℕ → List ℕ
tdes_encrypted key block =
    des_encrypted (third_key key) (des_decrypted (second_key key) (des_encrypted (first_key key) block))

-- the inverse cipher operation (section 3): decryption under K3, encryption under K2, decryption
-- under K1
unfoldable pub tdes_decrypted : List ℕ → List ℕ → List ℕ
tdes_decrypted key block =
    des_decrypted (first_key key) (des_encrypted (second_key key) (des_decrypted (third_key key) block))

-- the bytes of a TDES key of either length
pub record IsTdesKey (key : List ℕ) : Type 0 where
  pub length_is : IsTdesLength (length key)
  pub bytes_fit : All (λ byte. byte < 2 ^ 8) key
