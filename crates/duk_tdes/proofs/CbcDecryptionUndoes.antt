-- CBC under one key, undone block by block.
use Rattle.std.proofs.Common.{◌≡◌, ℕ, zero, suc, ◌*◌, ◌<◌, ◌^◌, List, [], ◌++◌, length, take, drop, sym, ap, ◌∙◌, subst, length-drop, length-append, arith}
use Rattle.std.specs.List.{All}
use Rattle.std.proofs.lemmas.List.{take_at, drop_at, length-take-le, take-append-drop, nil_from_length}
use Rattle.std.proofs.lemmas.List.Elements.{All-nil, All-append, All-take, All-drop}
use Rattle.duk_des.specs.Block.{IsBlock}
use Rattle.duk_tdes.specs.Cbc.{cbc_encrypted, cbc_decrypted}
use Rattle.duk_tdes.specs.Key.{xor_bytes}
use Rattle.duk_tdes.specs.Tdes.{tdes_encrypted, tdes_decrypted}
use Rattle.duk_tdes.proofs.FirstBlock.{cbc_encrypted-more, cbc_encrypted-none, cbc_decrypted-more, cbc_decrypted-none}
use Rattle.duk_tdes.proofs.XorOfBlocks.{IsBlock-xor_bytes, xor_bytes-xor_bytes}

abbrev IsByte : ℕ → Type 0
IsByte byte = byte < 2 ^ 8

-- so many blocks of bytes
pub record AreBlocks (count : ℕ) (bytes : List ℕ) : Type 0 where
  pub count_is : length bytes ≡ 8 * count
  pub fit : All IsByte bytes

-- what one key's cipher is known to do
pub record Undoes (there back : List ℕ → List ℕ) : Type 0 where
  pub undone : (block : List ℕ) → IsBlock block → back (there block) ≡ block
  pub block : (block : List ℕ) → IsBlock block → IsBlock (there block)

first_block : (count : ℕ) (bytes : List ℕ) → AreBlocks (suc count) bytes → IsBlock (take 8 bytes)
first_block count bytes are = record {
  eight = length-take-le 8 bytes (omega arith);
  bytes_fit = All-take IsByte 8 bytes are.fit;
}

other_blocks : (count : ℕ) (bytes : List ℕ) → AreBlocks (suc count) bytes → AreBlocks count (drop 8 bytes)
other_blocks count bytes are = record {
  count_is = omega (arith, length-drop 8 bytes);
  fit = All-drop IsByte 8 bytes are.fit;
}

joined_blocks : (count : ℕ) (block bytes : List ℕ) → IsBlock block → AreBlocks count bytes → AreBlocks (suc count) (block ++ bytes)
joined_blocks count block bytes is are = record {
  count_is = omega (arith, length-append block bytes);
  fit = All-append IsByte block bytes is.bytes_fit are.fit;
}

no_blocks : (bytes : List ℕ) → bytes ≡ [] → AreBlocks 0 bytes
no_blocks bytes none = record { count_is = ap length none; fit = rw none (All-nil IsByte) }

pub cipher_blocks : (key : List ℕ) → Undoes (tdes_encrypted key) (tdes_decrypted key) → (count : ℕ) (before bytes : List ℕ) → IsBlock before → AreBlocks count bytes → AreBlocks count (cbc_encrypted key before bytes)
cipher_blocks key undoes zero before bytes of_before of_bytes = no_blocks (cbc_encrypted key before bytes) (cbc_encrypted-none key before bytes (omega arith))
cipher_blocks key undoes (suc count) before bytes of_before of_bytes =
    let cipher : List ℕ = tdes_encrypted key (xor_bytes (take 8 bytes) before) in
    let of_cipher : IsBlock cipher = undoes.block (xor_bytes (take 8 bytes) before) (IsBlock-xor_bytes (take 8 bytes) before (first_block count bytes of_bytes) of_before) in
    let rest : List ℕ = cbc_encrypted key cipher (drop 8 bytes) in
    let P : List ℕ → Type 0 = AreBlocks (suc count) in
    subst P (sym (cbc_encrypted-more key before bytes (omega arith)))
    (joined_blocks count cipher rest of_cipher (cipher_blocks key undoes count cipher (drop 8 bytes) of_cipher (other_blocks count bytes of_bytes)))

pub plain_blocks : (key : List ℕ) → Undoes (tdes_decrypted key) (tdes_encrypted key) → (count : ℕ) (before bytes : List ℕ) → IsBlock before → AreBlocks count bytes → AreBlocks count (cbc_decrypted key before bytes)
plain_blocks key undoes zero before bytes of_before of_bytes = no_blocks (cbc_decrypted key before bytes) (cbc_decrypted-none key before bytes (omega arith))
plain_blocks key undoes (suc count) before bytes of_before of_bytes =
    let first = first_block count bytes of_bytes in
    let plain : List ℕ = xor_bytes (tdes_decrypted key (take 8 bytes)) before in
    let of_plain : IsBlock plain = IsBlock-xor_bytes (tdes_decrypted key (take 8 bytes)) before (undoes.block (take 8 bytes) first) of_before in
    let P : List ℕ → Type 0 = AreBlocks (suc count) in
    subst P (sym (cbc_decrypted-more key before bytes (omega arith)))
    (joined_blocks count plain (cbc_decrypted key (take 8 bytes) (drop 8 bytes)) of_plain (plain_blocks key undoes count (take 8 bytes) (drop 8 bytes) first (other_blocks count bytes of_bytes)))

-- a block in front is deciphered by itself
cbc_decrypted-append : (key before block rest : List ℕ) → length block ≡ 8 → cbc_decrypted key before (block ++ rest) ≡ xor_bytes (tdes_decrypted key block) before ++ cbc_decrypted key block rest
cbc_decrypted-append key before block rest eight =
    cbc_decrypted-more key before (block ++ rest) (omega (arith, length-append block rest))
    ∙ ap (λ first. xor_bytes (tdes_decrypted key first) before ++ cbc_decrypted key first (drop 8 (block ++ rest))) (take_at block rest 8 eight)
    ∙ ap (λ after. xor_bytes (tdes_decrypted key block) before ++ cbc_decrypted key block after) (drop_at block rest 8 eight)

-- a block in front is enciphered first
cbc_encrypted-append : (key before block rest : List ℕ) → length block ≡ 8 → cbc_encrypted key before (block ++ rest) ≡ tdes_encrypted key (xor_bytes block before) ++ cbc_encrypted key (tdes_encrypted key (xor_bytes block before)) rest
cbc_encrypted-append key before block rest eight =
    cbc_encrypted-more key before (block ++ rest) (omega (arith, length-append block rest))
    ∙ ap (λ first. tdes_encrypted key (xor_bytes first before) ++ cbc_encrypted key (tdes_encrypted key (xor_bytes first before)) (drop 8 (block ++ rest))) (take_at block rest 8 eight)
    ∙ ap (λ after. tdes_encrypted key (xor_bytes block before) ++ cbc_encrypted key (tdes_encrypted key (xor_bytes block before)) after) (drop_at block rest 8 eight)

pub cbc_decrypted-cbc_encrypted : (key : List ℕ) → Undoes (tdes_encrypted key) (tdes_decrypted key) → (count : ℕ) (before bytes : List ℕ) → IsBlock before → AreBlocks count bytes → cbc_decrypted key before (cbc_encrypted key before bytes) ≡ bytes
cbc_decrypted-cbc_encrypted key undoes zero before bytes of_before of_bytes =
    let none = cbc_encrypted-none key before bytes (omega arith) in
    cbc_decrypted-none key before (cbc_encrypted key before bytes) (ap length none) ∙ sym (nil_from_length bytes (omega arith))
cbc_decrypted-cbc_encrypted key undoes (suc count) before bytes of_before of_bytes =
    let first = first_block count bytes of_bytes in
    let sum : List ℕ = xor_bytes (take 8 bytes) before in
    let of_sum : IsBlock sum = IsBlock-xor_bytes (take 8 bytes) before first of_before in
    let cipher : List ℕ = tdes_encrypted key sum in
    let of_cipher : IsBlock cipher = undoes.block sum of_sum in
    let rest : List ℕ = cbc_encrypted key cipher (drop 8 bytes) in
    ap (cbc_decrypted key before) (cbc_encrypted-more key before bytes (omega arith))
    ∙ cbc_decrypted-append key before cipher rest of_cipher.eight
    ∙ ap (λ block. xor_bytes block before ++ cbc_decrypted key cipher rest) (undoes.undone sum of_sum)
    ∙ ap (λ block. block ++ cbc_decrypted key cipher rest) (xor_bytes-xor_bytes (take 8 bytes) before (first.eight ∙ sym of_before.eight))
    ∙ ap (λ plain. take 8 bytes ++ plain) (cbc_decrypted-cbc_encrypted key undoes count cipher (drop 8 bytes) of_cipher (other_blocks count bytes of_bytes))
    ∙ take-append-drop 8 bytes

pub cbc_encrypted-cbc_decrypted : (key : List ℕ) → Undoes (tdes_decrypted key) (tdes_encrypted key) → (count : ℕ) (before bytes : List ℕ) → IsBlock before → AreBlocks count bytes → cbc_encrypted key before (cbc_decrypted key before bytes) ≡ bytes
cbc_encrypted-cbc_decrypted key undoes zero before bytes of_before of_bytes =
    let none = cbc_decrypted-none key before bytes (omega arith) in
    cbc_encrypted-none key before (cbc_decrypted key before bytes) (ap length none) ∙ sym (nil_from_length bytes (omega arith))
cbc_encrypted-cbc_decrypted key undoes (suc count) before bytes of_before of_bytes =
    let first = first_block count bytes of_bytes in
    let sum : List ℕ = tdes_decrypted key (take 8 bytes) in
    let of_sum : IsBlock sum = undoes.block (take 8 bytes) first in
    let plain : List ℕ = xor_bytes sum before in
    let of_plain : IsBlock plain = IsBlock-xor_bytes sum before of_sum of_before in
    let rest : List ℕ = cbc_decrypted key (take 8 bytes) (drop 8 bytes) in
    let again : tdes_encrypted key (xor_bytes plain before) ≡ take 8 bytes = ap (tdes_encrypted key) (xor_bytes-xor_bytes sum before (of_sum.eight ∙ sym of_before.eight)) ∙ undoes.undone (take 8 bytes) first in
    ap (cbc_encrypted key before) (cbc_decrypted-more key before bytes (omega arith))
    ∙ cbc_encrypted-append key before plain rest of_plain.eight
    ∙ ap (λ cipher. cipher ++ cbc_encrypted key cipher rest) again
    ∙ ap (λ ciphers. take 8 bytes ++ ciphers) (cbc_encrypted-cbc_decrypted key undoes count (take 8 bytes) (drop 8 bytes) first (other_blocks count bytes of_bytes))
    ∙ take-append-drop 8 bytes
