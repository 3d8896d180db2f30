-- The blocks and keys of lanes, as bits and as bytes.
use Rattle.std.proofs.Common.{◌≡◌, ℕ, ◌<◌, ◌^◌, lit<, Bool, false, List, [], ◌∷◌, ◌++◌, length, get_or, bit_xor, refl, sym, ap, ap₂, ◌∙◌, arith}
use Rattle.std.specs.Bool.{xor}
use Rattle.std.proofs.lemmas.List.Elements.{All-replicate}
use Rattle.duk_des.specs.Bits.{xor_bits, bits_of_bytes, bytes_of_bits}
use Rattle.duk_des.specs.Block.{IsBlock}
use Rattle.duk_des.specs.Des.{encipher, decipher, des_encrypted, des_decrypted}
use Rattle.duk_mac.specs.Chain.{zero_block}
use Rattle.duk_tdes.specs.Key.{xor_bytes}
use Rattle.duk_tdes.specs.Tdes.{first_key, second_key, tdes_encrypted, tdes_decrypted}
use Rattle.duk_tree.specs.Derivation.{both_halves, half_step_of}
use Rattle.duk_lanes.specs.Lanes.{lane_of}
use Rattle.duk_group.specs.Blocks.{block_of, key_of}
use Rattle.duk_group.proofs.BitsAndBytes.{bits_of_bytes-bytes_of_bits, bytes_of_bits-bits_of_bytes, length-xor_bits, get_or-xor_bits}
use Rattle.duk_group.proofs.LaneWords.{length-lane_of, lane_of-is}
use Rattle.duk_group.proofs.SumsOfBlocks.{bytes_of_bits-xor_bits}

-- the block of zeros
pub zeros_are_a_block : IsBlock zero_block
zeros_are_a_block = record { eight = refl; bytes_fit = All-replicate (λ byte. byte < 2 ^ 8) 8 0 (lit< tt) }

-- sums of bytes beside sums of bytes
xor_bytes-append : (a b c d : List ℕ) → length a ≡ length b → xor_bytes (a ++ c) (b ++ d) ≡ xor_bytes a b ++ xor_bytes c d
xor_bytes-append [] [] c d same = refl
xor_bytes-append [] (y ∷ b) c d same = absurd (omega arith)
xor_bytes-append (x ∷ a) [] c d same = absurd (omega arith)
xor_bytes-append (x ∷ a) (y ∷ b) c d same = ap (λ rest. bit_xor x y ∷ rest) (xor_bytes-append a b c d (omega arith))

module _ {L : Type 0} (lane : L → ℕ → Bool) (i : ℕ) where
  pub bits_of_block : (words : List L) → length words ≡ 64 → bits_of_bytes (block_of lane i words) ≡ lane_of lane i words
  unfolding block_of
  bits_of_block words long = bits_of_bytes-bytes_of_bits 8 (lane_of lane i words) (length-lane_of lane i words ∙ long)

  -- bits that a block has in words are the block's bytes
  pub block_of-bits : (words : List L) (block : List ℕ) → IsBlock block → lane_of lane i words ≡ bits_of_bytes block → block_of lane i words ≡ block
  unfolding block_of
  block_of-bits words block is_block bits =
      ap (bytes_of_bits 8) bits
      ∙ ap (λ n. bytes_of_bits n (bits_of_bytes block)) (sym is_block.eight)
      ∙ bytes_of_bits-bits_of_bytes block is_block.bytes_fit

  pub block_of-encrypted : (words key block : List L) → length key ≡ 64 → length block ≡ 64
      → lane_of lane i words ≡ encipher (lane_of lane i key) (lane_of lane i block)
      → block_of lane i words ≡ des_encrypted (block_of lane i key) (block_of lane i block)
  unfolding block_of des_encrypted
  block_of-encrypted words key block long_key long_block bits =
      ap (bytes_of_bits 8) bits
      ∙ sym (ap (λ k. bytes_of_bits 8 (encipher k (bits_of_bytes (block_of lane i block)))) (bits_of_block key long_key)
      ∙ ap (λ b. bytes_of_bits 8 (encipher (lane_of lane i key) b)) (bits_of_block block long_block))

  pub block_of-decrypted : (words key block : List L) → length key ≡ 64 → length block ≡ 64
      → lane_of lane i words ≡ decipher (lane_of lane i key) (lane_of lane i block)
      → block_of lane i words ≡ des_decrypted (block_of lane i key) (block_of lane i block)
  unfolding block_of des_decrypted
  block_of-decrypted words key block long_key long_block bits =
      ap (bytes_of_bits 8) bits
      ∙ sym (ap (λ k. bytes_of_bits 8 (decipher k (bits_of_bytes (block_of lane i block)))) (bits_of_block key long_key)
      ∙ ap (λ b. bytes_of_bits 8 (decipher (lane_of lane i key) b)) (bits_of_block block long_block))

  -- a lane whose bits are sums holds the sum of the blocks
  pub block_of-sum : (words block other : List L) → length words ≡ 64 → length block ≡ 64 → length other ≡ 64
      → ((p : ℕ) → p < 64 → get_or (lane_of lane i words) p false ≡ xor (get_or (lane_of lane i block) p false) (get_or (lane_of lane i other) p false))
      → block_of lane i words ≡ xor_bytes (block_of lane i block) (block_of lane i other)
  unfolding block_of
  block_of-sum words block other long long_block long_other each =
      let same : length (lane_of lane i block) ≡ length (lane_of lane i other) = omega (arith, length-lane_of lane i block, length-lane_of lane i other) in
      let wide : length words ≡ length (xor_bits (lane_of lane i block) (lane_of lane i other)) = omega (arith, length-xor_bits _ _ same, length-lane_of lane i block) in
      ap (bytes_of_bits 8)
      (lane_of-is lane i words (xor_bits (lane_of lane i block) (lane_of lane i other)) wide
      (λ p h. each p (omega arith) ∙ sym (get_or-xor_bits _ _ p same (omega (arith, length-lane_of lane i block)))))
      ∙ bytes_of_bits-xor_bits 8 _ _ same

  -- the same where the other bits are those of one mask
  pub block_of-masked : (words block : List L) (mask : List ℕ) → length words ≡ 64 → length block ≡ 64 → IsBlock mask → length (bits_of_bytes mask) ≡ 64
      → ((p : ℕ) → p < 64 → get_or (lane_of lane i words) p false ≡ xor (get_or (lane_of lane i block) p false) (get_or (bits_of_bytes mask) p false))
      → block_of lane i words ≡ xor_bytes (block_of lane i block) mask
  unfolding block_of
  block_of-masked words block mask long long_block is_block long_mask each =
      let same : length (lane_of lane i block) ≡ length (bits_of_bytes mask) = omega (arith, length-lane_of lane i block) in
      let wide : length words ≡ length (xor_bits (lane_of lane i block) (bits_of_bytes mask)) = omega (arith, length-xor_bits _ _ same, length-lane_of lane i block) in
      ap (bytes_of_bits 8)
      (lane_of-is lane i words (xor_bits (lane_of lane i block) (bits_of_bytes mask)) wide
      (λ p h. each p (omega arith) ∙ sym (get_or-xor_bits _ _ p same (omega (arith, length-lane_of lane i block)))))
      ∙ bytes_of_bits-xor_bits 8 _ _ same
      ∙ ap (λ bytes. xor_bytes (bytes_of_bits 8 (lane_of lane i block)) bytes)
      (ap (λ n. bytes_of_bits n (bits_of_bytes mask)) (sym is_block.eight) ∙ bytes_of_bits-bits_of_bytes mask is_block.bytes_fit)

  pub block_of-same : (words block : List L) → length words ≡ 64 → length block ≡ 64
      → ((p : ℕ) → p < 64 → get_or (lane_of lane i words) p false ≡ get_or (lane_of lane i block) p false)
      → block_of lane i words ≡ block_of lane i block
  unfolding block_of
  block_of-same words block long long_block each =
      ap (bytes_of_bits 8) (lane_of-is lane i words (lane_of lane i block) (omega (arith, length-lane_of lane i block)) (λ p h. each p (omega arith)))

  pub length-block_of : (words : List L) → length (block_of lane i words) ≡ 8
  unfolding block_of
  length-block_of words = refl

  pub length-key_of : (left right : List L) → length (key_of lane i left right) ≡ 16
  unfolding block_of
  length-key_of left right = refl

  pub first_key_of : (left right : List L) → first_key (key_of lane i left right) ≡ block_of lane i left
  unfolding block_of
  first_key_of left right = refl

  pub second_key_of : (left right : List L) → second_key (key_of lane i left right) ≡ block_of lane i right
  unfolding block_of
  second_key_of left right = refl

  pub tdes_encrypted-key_of : (left right : List L) (block : List ℕ)
      → tdes_encrypted (key_of lane i left right) block
      ≡ des_encrypted (block_of lane i left) (des_decrypted (block_of lane i right) (des_encrypted (block_of lane i left) block))
  unfolding tdes_encrypted block_of
  tdes_encrypted-key_of left right block = refl

  pub tdes_decrypted-key_of : (left right : List L) (block : List ℕ)
      → tdes_decrypted (key_of lane i left right) block
      ≡ des_decrypted (block_of lane i left) (des_encrypted (block_of lane i right) (des_decrypted (block_of lane i left) block))
  unfolding tdes_decrypted block_of
  tdes_decrypted-key_of left right block = refl

  -- one mask on both halves
  pub key_of-masked : (left right masked_left masked_right : List L) (mask : List ℕ) → length mask ≡ 8
      → block_of lane i masked_left ≡ xor_bytes (block_of lane i left) mask
      → block_of lane i masked_right ≡ xor_bytes (block_of lane i right) mask
      → key_of lane i masked_left masked_right ≡ xor_bytes (key_of lane i left right) (both_halves mask)
  key_of-masked left right masked_left masked_right mask eight is_left is_right =
      ap₂ (λ (left right : List ℕ). left ++ right) is_left is_right
      ∙ sym (xor_bytes-append (block_of lane i left) mask (block_of lane i right) mask (length-block_of left ∙ sym eight))

  pub half_step_of-key_of : (left right : List L) (register : List ℕ)
      → half_step_of (key_of lane i left right) register
      ≡ xor_bytes (block_of lane i right) (des_encrypted (block_of lane i left) (xor_bytes (block_of lane i right) register))
  unfolding half_step_of block_of
  half_step_of-key_of left right register = refl
