use Rattle.std.proofs.Common.{◌≡◌, ◌++◌, ℕ, List, length, take, sym, ap, ap₂, ◌∙◌}
use Rattle.duk_des.specs.Des.{des_decrypted, des_encrypted}
use Rattle.duk_tdes.specs.Key.{xor_bytes}
use Rattle.duk_tdes.specs.Tdes.{first_key, second_key, tdes_encrypted}
use Rattle.duk_tree.specs.Derivation.{derivation_mask, initial_key_of}
use Rattle.duk_tree.proofs.derivation.initial_key.Goals as goal

-- under a key of 16 bytes, by its halves
by_halves : ((key block : List ℕ) → length key ≡ 16 → tdes_encrypted key block ≡ des_encrypted (first_key key) (des_decrypted (second_key key) (des_encrypted (first_key key) block)))
    → (key left right block : List ℕ) → length key ≡ 16 → left ≡ first_key key → right ≡ second_key key
    → des_encrypted left (des_decrypted right (des_encrypted left block)) ≡ tdes_encrypted key block
by_halves double key left right block short is_left is_right = rw (is_left, is_right) (sym (double key block short))

pub returns : goal.returns
unfolding initial_key_of
returns c =
    let key = c.args.bdk.now in
    let masked = xor_bytes key derivation_mask in
    let short = c.tdes_key.ensures.size in
    let is_left : c.new-left.result ≡ first_key key = c.new-left.ensures ∙ c.bytes.ensures.bytes ∙ c.halves-left.ensures.left in
    let is_right : c.new-right.result ≡ second_key key = c.new-right.ensures ∙ c.bytes-2.ensures.bytes ∙ c.halves-left.ensures.right in
    let masked_left : c.masked.result ≡ first_key masked =
    c.masked.ensures ∙ ap (λ half. xor_bytes half (first_key derivation_mask)) is_left ∙ sym (c.masked_halves.ensures.first key derivation_mask) in
    let masked_right : c.masked-2.result ≡ second_key masked =
    c.masked-2.ensures ∙ ap (λ half. xor_bytes half (first_key derivation_mask)) is_right ∙ sym (c.masked_halves.ensures.second key derivation_mask) in
    let is_block = c.array_of-first_eight.ensures.bytes ∙ ap (take 8) c.bytes-3.ensures.bytes in
    c.join.ensures
    ∙ ap₂ (λ (left right : List ℕ). left ++ right)
    (c.triple_encrypt_both.ensures.first ∙ by_halves c.double_length.ensures key _ _ _ short is_left is_right ∙ ap (tdes_encrypted key) is_block)
    (c.triple_encrypt_both.ensures.second ∙ by_halves c.double_length.ensures masked _ _ _ (c.masked_halves.ensures.length key derivation_mask ∙ short) masked_left masked_right ∙ ap (tdes_encrypted masked) is_block)
