-- Deciphering undoes enciphering: each round, all of them, and the permutations around them.
use Rattle.std.proofs.Common.{◌≡◌, ℕ, ◌*◌, Bool, true, false, List, [], ◌∷◌, ◌++◌, length, take, drop, reverse, refl, sym, ap, ◌∙◌, length-append, arith}
use mathlib.Core.Bool.{xor}
use Rattle.std.proofs.Math.Seq.{take-append_seam, drop-append_seam}
use Rattle.std.proofs.lemmas.List.{reverse-append, reverse-reverse, take-append-drop}
use Rattle.duk_des.specs.Bits.{xor_bits, permute, bits_of_bytes, bytes_of_bits}
use Rattle.duk_des.specs.Block.{IsBlock}
use Rattle.duk_des.specs.Des.{Halves, cipher_function, round, rounds, des_computation, round_keys, encipher, decipher, des_encrypted, des_decrypted}
use Rattle.duk_des.specs.Tables.{initial_places, final_places}
use Rattle.duk_des.proofs.BitsOfNumbers.{length-bits_of_bytes, bits_of_bytes-bytes_of_bits, bytes_of_bits-bits_of_bytes, block_of_bits}
use Rattle.duk_des.proofs.SideBySide.{consed}
use Rattle.duk_des.proofs.LiteralLists.{is_spelled}
use Rattle.duk_des.proofs.BitsOfXor.{length-xor_bits}

-- two halves of 32 bits
pub record IsHalves (halves : Halves) : Type 0 where
  left_is : length halves.left ≡ 32
  right_is : length halves.right ≡ 32

-- the halves exchanged
abbrev pub exchanged : Halves → Halves
exchanged halves = record { left = halves.right; right = halves.left }

xor-cancels : (a b : Bool) → xor (xor a b) b ≡ a
unfolding xor
xor-cancels true true = refl
xor-cancels true false = refl
xor-cancels false true = refl
xor-cancels false false = refl

xor_bits-cancels : (a b : List Bool) → length a ≡ length b → xor_bits (xor_bits a b) b ≡ a
xor_bits-cancels [] b h = refl
xor_bits-cancels (x ∷ xs) [] h = absurd (omega arith)
xor_bits-cancels (x ∷ xs) (y ∷ ys) h = consed (xor-cancels x y) (xor_bits-cancels xs ys (omega arith))

length-cipher_function : (right key : List Bool) → length (cipher_function right key) ≡ 32
unfolding cipher_function
length-cipher_function right key = refl

IsHalves-round : (halves : Halves) (key : List Bool) → IsHalves halves → IsHalves (round halves key)
unfolding round
IsHalves-round halves key h = record {
  left_is = h.right_is;
  right_is = length-xor_bits halves.left (cipher_function halves.right key) (h.left_is ∙ sym (length-cipher_function halves.right key)) ∙ h.left_is;
}

IsHalves-rounds : (keys : List (List Bool)) (halves : Halves) → IsHalves halves → IsHalves (rounds keys halves)
unfolding rounds
IsHalves-rounds [] halves h = h
IsHalves-rounds (key ∷ keys) halves h = IsHalves-rounds keys (round halves key) (IsHalves-round halves key h)

-- a round with the same key undoes a round, with the halves exchanged
round-exchanged : (halves : Halves) (key : List Bool) → IsHalves halves → round (exchanged (round halves key)) key ≡ exchanged halves
unfolding round
round-exchanged halves key h =
    ap (λ left. let found : Halves = record { left = halves.right; right = left } in found)
    (xor_bits-cancels halves.left (cipher_function halves.right key) (h.left_is ∙ sym (length-cipher_function halves.right key)))

rounds-append : (keys more : List (List Bool)) (halves : Halves) → rounds (keys ++ more) halves ≡ rounds more (rounds keys halves)
unfolding rounds
rounds-append [] more halves = refl
rounds-append (key ∷ keys) more halves = rounds-append keys more (round halves key)

-- the rounds in reverse order undo the rounds
rounds-reverse : (keys : List (List Bool)) (halves : Halves) → IsHalves halves → rounds (reverse keys) (exchanged (rounds keys halves)) ≡ exchanged halves
unfolding rounds
rounds-reverse [] halves h = refl
rounds-reverse (key ∷ keys) halves h =
    ap (λ order. rounds order (exchanged (rounds keys (round halves key)))) (reverse-append (key ∷ []) keys)
    ∙ rounds-append (reverse keys) (key ∷ []) (exchanged (rounds keys (round halves key)))
    ∙ ap (λ found. round found key) (rounds-reverse keys (round halves key) (IsHalves-round halves key h))
    ∙ round-exchanged halves key h

initial-final : (bits : List Bool) → length bits ≡ 64 → permute initial_places (permute final_places bits) ≡ bits
initial-final bits h = sym (is_spelled false 64 bits h)

final-initial : (bits : List Bool) → length bits ≡ 64 → permute final_places (permute initial_places bits) ≡ bits
final-initial bits h = sym (is_spelled false 64 bits h)

-- the two halves of 64 bits, and the last permutation of both, exchanged
abbrev pub split : List Bool → Halves
split bits = record { left = take 32 bits; right = drop 32 bits }

abbrev pub finished : Halves → List Bool
finished halves = permute final_places (halves.right ++ halves.left)

split-joined : (halves : Halves) → IsHalves halves → split (halves.right ++ halves.left) ≡ exchanged halves
split-joined halves h =
    ap (λ (n : ℕ). let found : Halves = record { left = take n (halves.right ++ halves.left); right = drop n (halves.right ++ halves.left) } in found) (sym h.right_is)
    ∙ ap (λ (left : List Bool). let found : Halves = record { left = left; right = drop (length halves.right) (halves.right ++ halves.left) } in found) (take-append_seam halves.right halves.left)
    ∙ ap (λ (right : List Bool). let found : Halves = record { left = halves.right; right = right } in found) (drop-append_seam halves.right halves.left)

des_computation-reverse : (keys : List (List Bool)) (block : List Bool) → length block ≡ 64 → des_computation (reverse keys) (des_computation keys block) ≡ block
unfolding des_computation
des_computation-reverse keys block h =
    let start : Halves = split (permute initial_places block) in
    let start_is : IsHalves start = record { left_is = refl; right_is = refl } in
    let halves : Halves = rounds keys start in
    let halves_are : IsHalves halves = IsHalves-rounds keys start start_is in
    ap (λ bits. finished (rounds (reverse keys) (split bits)))
    (initial-final (halves.right ++ halves.left) (length-append halves.right halves.left ∙ omega (arith, halves_are.left_is, halves_are.right_is)))
    ∙ ap (λ found. finished (rounds (reverse keys) found)) (split-joined halves halves_are)
    ∙ ap finished (rounds-reverse keys start start_is)
    ∙ ap (permute final_places) (take-append-drop 32 (permute initial_places block))
    ∙ final-initial block h

-- the permutations between two computations undo one another
pub next_computation : (keys : List (List Bool)) (halves : Halves) → IsHalves halves → des_computation keys (finished halves) ≡ finished (rounds keys (exchanged halves))
unfolding des_computation
next_computation keys halves h =
    ap (λ bits. finished (rounds keys (split bits)))
    (initial-final (halves.right ++ halves.left) (length-append halves.right halves.left ∙ omega (arith, h.left_is, h.right_is)))
    ∙ ap (λ found. finished (rounds keys found)) (split-joined halves h)

-- three computations, one after the other, from the halves of the initial permutation
pub three_computations : (first second third : List (List Bool)) (block : List Bool)
    → des_computation third (des_computation second (des_computation first block))
    ≡ finished (rounds third (exchanged (rounds second (exchanged (rounds first (split (permute initial_places block)))))))
unfolding des_computation
three_computations first second third block =
    let start : Halves = split (permute initial_places block) in
    let one : Halves = rounds first start in
    let one_is : IsHalves one = IsHalves-rounds first start (record { left_is = refl; right_is = refl }) in
    let two : Halves = rounds second (exchanged one) in
    let two_is : IsHalves two = IsHalves-rounds second (exchanged one) (record { left_is = one_is.right_is; right_is = one_is.left_is }) in
    ap (des_computation third) (next_computation second one one_is)
    ∙ next_computation third two two_is

pub decipher-encipher : (key block : List Bool) → length block ≡ 64 → decipher key (encipher key block) ≡ block
unfolding encipher decipher
decipher-encipher key block h = des_computation-reverse (round_keys key) block h

pub encipher-decipher : (key block : List Bool) → length block ≡ 64 → encipher key (decipher key block) ≡ block
unfolding encipher decipher
encipher-decipher key block h =
    ap (λ keys. des_computation keys (des_computation (reverse (round_keys key)) block)) (sym (reverse-reverse (round_keys key)))
    ∙ des_computation-reverse (reverse (round_keys key)) block h

pub length-des_computation : (keys : List (List Bool)) (block : List Bool) → length (des_computation keys block) ≡ 64
unfolding des_computation
length-des_computation keys block = refl

length-encipher : (key block : List Bool) → length (encipher key block) ≡ 64
unfolding encipher
length-encipher key block = length-des_computation (round_keys key) block

length-decipher : (key block : List Bool) → length (decipher key block) ≡ 64
unfolding decipher
length-decipher key block = length-des_computation (reverse (round_keys key)) block

-- the bits of a block, and the block that they spell
length-block_bits : (block : List ℕ) → IsBlock block → length (bits_of_bytes block) ≡ 64
length-block_bits block h = length-bits_of_bytes block ∙ ap (λ n. n * 8) h.eight

block-bits : (block : List ℕ) → IsBlock block → bytes_of_bits 8 (bits_of_bytes block) ≡ block
block-bits block h = ap (λ n. bytes_of_bits n (bits_of_bytes block)) (sym h.eight) ∙ bytes_of_bits-bits_of_bytes block h.bytes_fit

pub decrypted-encrypted : (key block : List ℕ) → IsBlock block → des_decrypted key (des_encrypted key block) ≡ block
unfolding des_encrypted des_decrypted
decrypted-encrypted key block h =
    let key_bits = bits_of_bytes key in
    let bits = bits_of_bytes block in
    ap (λ cipher. bytes_of_bits 8 (decipher key_bits cipher)) (bits_of_bytes-bytes_of_bits 8 (encipher key_bits bits) (length-encipher key_bits bits))
    ∙ ap (bytes_of_bits 8) (decipher-encipher key_bits bits (length-block_bits block h))
    ∙ block-bits block h

pub encrypted-decrypted : (key block : List ℕ) → IsBlock block → des_encrypted key (des_decrypted key block) ≡ block
unfolding des_encrypted des_decrypted
encrypted-decrypted key block h =
    let key_bits = bits_of_bytes key in
    let bits = bits_of_bytes block in
    ap (λ plain. bytes_of_bits 8 (encipher key_bits plain)) (bits_of_bytes-bytes_of_bits 8 (decipher key_bits bits) (length-decipher key_bits bits))
    ∙ ap (bytes_of_bits 8) (encipher-decipher key_bits bits (length-block_bits block h))
    ∙ block-bits block h

pub IsBlock-encrypted : (key block : List ℕ) → IsBlock (des_encrypted key block)
unfolding des_encrypted
IsBlock-encrypted key block = block_of_bits (encipher (bits_of_bytes key) (bits_of_bytes block))

pub IsBlock-decrypted : (key block : List ℕ) → IsBlock (des_decrypted key block)
unfolding des_decrypted
IsBlock-decrypted key block = block_of_bits (decipher (bits_of_bytes key) (bits_of_bytes block))
