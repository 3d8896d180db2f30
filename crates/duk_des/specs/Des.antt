-- DES on lists of bits (NIST SP 800-67 section 2): a key and a block are 64 bits each.
use Rattle.std.specs.Prelude.{ℕ, ◌+◌, ◌*◌, Bool, List, [], ◌∷◌, ◌++◌, take, drop, reverse, slice_index}
use Rattle.duk_des.specs.Bits.{xor_bits, bit, permute, bits_of, bits_of_bytes, digit, bytes_of_bits}
use Rattle.duk_des.specs.Tables.{initial_places, final_places, expansion_places, output_places, left_key_places, right_key_places, round_key_places, rotations, boxes}

-- Six bits select a row, by the first and the last, and a column, by the four between. The entry
-- there gives four bits.
abbrev pub substitute : List ℕ → List Bool → List Bool
substitute box bits =
    let row = 2 * digit (bit bits 1) + digit (bit bits 6) in
    let column =
    8 * digit (bit bits 2) + 4 * digit (bit bits 3) + 2 * digit (bit bits 4) + digit (bit bits 5) in
    bits_of 4 (slice_index box (16 * row + column))

-- each box on its six bits
abbrev pub substitute_all : List (List ℕ) → List Bool → List Bool
substitute_all [] bits = []
substitute_all (box ∷ rest) bits = substitute box (take 6 bits) ++ substitute_all rest (drop 6 bits)

-- the cipher function f of 32 bits and a round key: P(S1 to S8 of (E(right) xor key))
unfoldable pub cipher_function : List Bool → List Bool → List Bool
cipher_function right key =
    permute output_places (substitute_all boxes (xor_bits (permute expansion_places right) key))

-- the halves L and R of a block, 32 bits each
pub record Halves : Type 0 where
  pub left : List Bool
  pub right : List Bool

-- one round: L' = R, and R' = L xor f(R, K)
unfoldable pub round : Halves → List Bool → Halves
round halves key =
    record { left = halves.right; right = xor_bits halves.left (cipher_function halves.right key) }

-- a round for each of the keys, in their order
unfoldable pub rounds : List (List Bool) → Halves → Halves
rounds [] halves = halves
rounds (key ∷ keys) halves = rounds keys (round halves key)

-- a block enciphered or deciphered by round keys: IP, the rounds, the halves exchanged, and the
-- inverse of IP
unfoldable pub des_computation : List (List Bool) → List Bool → List Bool
des_computation keys block =
    let permuted = permute initial_places block in
    let halves = rounds keys (record { left = take 32 permuted; right = drop 32 permuted }) in
    permute final_places (halves.right ++ halves.left)

-- half of a key schedule, rotated left
abbrev pub rotate : ℕ → List Bool → List Bool
rotate count half = drop count half ++ take count half

-- the round keys, for the rotations that are left: C and D are rotated, and permuted choice 2 takes
-- 48 bits of both
unfoldable pub schedule : List ℕ → List Bool → List Bool → List (List Bool)
schedule [] c d = []
schedule (count ∷ counts) c d =
    permute round_key_places (rotate count c ++ rotate count d)
    ∷ schedule counts (rotate count c) (rotate count d)

-- the sixteen round keys K1 to K16 of a key; its eight parity bits are in none
unfoldable pub round_keys : List Bool → List (List Bool)
round_keys key = schedule rotations (permute left_key_places key) (permute right_key_places key)

-- round keys xored bit by bit, each with the one at its place
abbrev pub xor_keys : List (List Bool) → List (List Bool) → List (List Bool)
xor_keys [] masks = []
xor_keys (key ∷ keys) [] = []
xor_keys (key ∷ keys) (mask ∷ masks) = xor_bits key mask ∷ xor_keys keys masks

-- the cipher block of a block under a key
unfoldable pub encipher : List Bool → List Bool → List Bool
encipher key block = des_computation (round_keys key) block

-- the same with the round keys in reverse order
unfoldable pub decipher : List Bool → List Bool → List Bool
decipher key block = des_computation (reverse (round_keys key)) block

-- the cipher block of eight bytes under a key of eight bytes
unfoldable pub des_encrypted : List ℕ → List ℕ → List ℕ
des_encrypted key block = bytes_of_bits 8 (encipher (bits_of_bytes key) (bits_of_bytes block))

-- the block of eight bytes that a cipher block of eight bytes is deciphered to
unfoldable pub des_decrypted : List ℕ → List ℕ → List ℕ
des_decrypted key block = bytes_of_bits 8 (decipher (bits_of_bytes key) (bits_of_bytes block))
