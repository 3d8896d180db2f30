-- The blocks of a lane's message, along a CMAC and along a chain of ciphers.
use Rattle.std.proofs.Common.{◌≡◌, ◌<◌, ◌≤◌, ◌+◌, ℕ, Bool, List, [], ◌∷◌, ◌++◌, length, get_or, set, map, take, drop, refl, sym, ap, ap₂, ◌∙◌, length-append, arith}
use Rattle.std.proofs.lemmas.List.{take_at, drop_at, drop_more, drop_all, take_all, take_more_set, drop-set-lt, append_assoc, append-nil}
use Rattle.std.proofs.lemmas.List.Concat.{flat_map-append}
use Rattle.duk_tdes.specs.Blocks.{blocks_of}
use Rattle.duk_tdes.specs.Cbc.{chained_ciphers, cbc_encrypted}
use Rattle.duk_tdes.specs.Key.{xor_bytes}
use Rattle.duk_tdes.specs.Tdes.{tdes_encrypted}
use Rattle.duk_mac.specs.Chain.{zero_block, chained}
use Rattle.duk_mac.specs.Cmac.{cmac_of, first_subkey, last_block, with_last_masked}
use Rattle.duk_group.specs.Blocks.{block_of, message_in}
use Rattle.duk_group.proofs.FilledBlocks.{first_block, no_blocks}
use Rattle.duk_group.proofs.LaneBlocks.{length-block_of}

-- a whole last block is masked with the first subkey
last_block-whole : (key block : List ℕ) → length block ≡ 8 → last_block key block ≡ xor_bytes block (first_subkey key)
last_block-whole key block eight = rw eight refl

module _ {L : Type 0} (lane : L → ℕ → Bool) (i : ℕ) where
  -- the blocks of a lane, one after another
  abbrev pub blocks_in : List (List L) → List (List ℕ)
  blocks_in blocks = map (block_of lane i) blocks

  pub blocks_of-message_in : (blocks : List (List L)) → blocks_of (message_in lane i blocks) ≡ blocks_in blocks
  blocks_of-message_in [] = no_blocks
  blocks_of-message_in (words ∷ blocks) =
      let block = block_of lane i words in
      let rest = message_in lane i blocks in
      let eight : length block ≡ 8 = length-block_of lane i words in
      first_block (block ++ rest) (omega (arith, length-append block rest))
      ∙ ap₂ (λ (first after : List ℕ). first ∷ blocks_of after) (take_at block rest 8 eight) (drop_at block rest 8 eight)
      ∙ ap (λ others. block ∷ others) (blocks_of-message_in blocks)

  module _ (key : List ℕ) (blocks : List (List L)) where
    -- what a chain comes to along the blocks that are left after so many
    abbrev pub mac_after : ℕ → List ℕ → List ℕ
    mac_after count chain = chained (tdes_encrypted key) chain (with_last_masked key (blocks_in (drop count blocks)))

    pub mac_at_start : mac_after 0 zero_block ≡ cmac_of key (message_in lane i blocks)
    unfolding cmac_of
    mac_at_start = ap (λ parts. chained (tdes_encrypted key) zero_block (with_last_masked key parts)) (sym (blocks_of-message_in blocks))

    pub mac_one_on : (count : ℕ) (chain : List ℕ) (d : List L) → count + 1 < length blocks
        → mac_after (count + 1) (tdes_encrypted key (xor_bytes chain (block_of lane i (get_or blocks count d)))) ≡ mac_after count chain
    unfolding with_last_masked
    mac_one_on count chain d more =
        let block = get_or blocks count d in
        let next = tdes_encrypted key (xor_bytes chain (block_of lane i block)) in
        let again = drop_more blocks (count + 1) d more in
        ap (λ rest. chained (tdes_encrypted key) next (with_last_masked key (blocks_in rest))) again
        ∙ sym (ap (λ rest. chained (tdes_encrypted key) chain (with_last_masked key (blocks_in rest))) (drop_more blocks count d (omega arith) ∙ ap (λ rest. block ∷ rest) again))

    pub mac_at_end : (count : ℕ) (chain : List ℕ) (d : List L) → count + 1 ≡ length blocks
        → tdes_encrypted key (xor_bytes chain (xor_bytes (block_of lane i (get_or blocks count d)) (first_subkey key))) ≡ mac_after count chain
    unfolding with_last_masked
    mac_at_end count chain d all =
        let block = get_or blocks count d in
        sym (
        ap (λ rest. chained (tdes_encrypted key) chain (with_last_masked key (blocks_in rest))) (drop_more blocks count d (omega arith) ∙ ap (λ rest. block ∷ rest) (drop_all (count + 1) blocks (omega arith)))
        ∙ ap (λ last. tdes_encrypted key (xor_bytes chain last)) (last_block-whole key (block_of lane i block) (length-block_of lane i block))
        )

  module _ (key : List ℕ) where
    -- what is done, and after it the ciphers of what is to be done
    abbrev pub ciphers_from : ℕ → List ℕ → List (List L) → List ℕ
    ciphers_from place before blocks = message_in lane i (take place blocks) ++ chained_ciphers key before (blocks_in (drop place blocks))

    pub ciphers_at_start : (initial_vector : List ℕ) (blocks : List (List L)) → ciphers_from 0 initial_vector blocks ≡ cbc_encrypted key initial_vector (message_in lane i blocks)
    unfolding cbc_encrypted
    ciphers_at_start initial_vector blocks = ap (chained_ciphers key initial_vector) (sym (blocks_of-message_in blocks))

    pub ciphers_one_on : (blocks : List (List L)) (place : ℕ) (before : List ℕ) (words d : List L) → place < length blocks
        → block_of lane i words ≡ tdes_encrypted key (xor_bytes (block_of lane i (get_or blocks place d)) before)
        → ciphers_from (place + 1) (block_of lane i words) (set blocks place words) ≡ ciphers_from place before blocks
    ciphers_one_on blocks place before words d below is =
        let done = message_in lane i (take place blocks) in
        let rest = blocks_in (drop (place + 1) blocks) in
        let cipher = block_of lane i words in
        ap₂ (λ (front back : List (List L)). message_in lane i front ++ chained_ciphers key cipher (blocks_in back)) (take_more_set blocks place words below) (drop-set-lt (place + 1) blocks place words (omega arith))
        ∙ ap (λ front. front ++ chained_ciphers key cipher rest) (flat_map-append (block_of lane i) (take place blocks) (words ∷ []))
        ∙ append_assoc done (cipher ++ []) (chained_ciphers key cipher rest)
        ∙ ap (λ block. done ++ (block ++ chained_ciphers key cipher rest)) (append-nil cipher)
        ∙ ap (λ block. done ++ (block ++ chained_ciphers key block rest)) is
        ∙ sym (ap (λ left. done ++ chained_ciphers key before (blocks_in left)) (drop_more blocks place d below))

    pub ciphers_at_end : (blocks : List (List L)) (place : ℕ) (before : List ℕ) → length blocks ≤ place → ciphers_from place before blocks ≡ message_in lane i blocks
    ciphers_at_end blocks place before all =
        ap₂ (λ (front back : List (List L)). message_in lane i front ++ chained_ciphers key before (blocks_in back)) (take_all place blocks all) (drop_all place blocks all)
        ∙ append-nil (message_in lane i blocks)
