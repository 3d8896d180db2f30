-- One lane's chain, one turn further along its message.
use Rattle.std.proofs.Common.{◌≡◌, ◌≤◌, ◌+◌, ◌*◌, ℕ, Bool, true, false, List, length, drop, refl, sym, ap, ◌∙◌, arith}
use Rattle.std.proofs.lemmas.List.{drop-drop, length-drop}
use Rattle.duk_des.specs.Block.{IsBlock}
use Rattle.duk_des.specs.Des.{des_encrypted, des_decrypted}
use Rattle.duk_tdes.specs.Blocks.{blocks_of}
use Rattle.duk_tdes.specs.Key.{xor_bytes}
use Rattle.duk_mac.specs.Chain.{zero_block, chained}
use Rattle.duk_mac.specs.Retail.{zero_filled, retail_of}
use Rattle.duk_group.specs.Blocks.{block_of, key_of}
use Rattle.duk_group.specs.declared.turns.Turn.{Turn}
use Rattle.duk_group.specs.inner.Messages.{blocks_after, IsNextBlock}
use Rattle.duk_group.proofs.NextBlocks.{no_block}

-- the chain from which the blocks that are left come to what all come to from zeros
pub record HasChain (key message : List ℕ) (count : ℕ) (chain : List ℕ) : Type 0 where
  pub is : chained (des_encrypted key) chain (blocks_after message count) ≡ chained (des_encrypted key) zero_block (blocks_of (zero_filled message))

module _ (key message : List ℕ) (count : ℕ) (turn : Turn) where
  pub chain_after : (goes : Bool) (chain next new : List ℕ) → turn.goes ≡ goes → IsNextBlock message count turn → HasChain key message count chain
      → (IsBlock turn.block → next ≡ des_encrypted key (xor_bytes chain turn.block))
      → (turn.goes ≡ true → new ≡ next)
      → (turn.goes ≡ false → new ≡ chain)
      → HasChain key message (count + 1) new
  chain_after true chain next new is found known stepped taken kept =
      let rest : drop (8 * (count + 1)) message ≡ drop 8 (drop (8 * count) message) =
      ap (λ n. drop n message) (omega arith) ∙ sym (drop-drop 8 (8 * count) message) in
      record {
        is =
            ap (λ chain. chained (des_encrypted key) chain (blocks_after message (count + 1))) (taken is ∙ stepped (found.is_block is))
            ∙ ap (λ rest. chained (des_encrypted key) (des_encrypted key (xor_bytes chain turn.block)) (blocks_of (zero_filled rest))) rest
            ∙ sym (ap (chained (des_encrypted key) chain) (found.goes is))
            ∙ known.is;
      }
  chain_after false chain next new is found known stepped taken kept =
      let none : length (drop (8 * count) message) ≡ 0 = omega (arith, found.stays is, length-drop (8 * count) message) in
      let none_after : length (drop (8 * (count + 1)) message) ≡ 0 = omega (arith, found.stays is, length-drop (8 * (count + 1)) message) in
      record {
        is =
            ap (chained (des_encrypted key) new) (no_block (drop (8 * (count + 1)) message) none_after)
            ∙ kept is
            ∙ sym (ap (chained (des_encrypted key) chain) (no_block (drop (8 * count) message) none))
            ∙ known.is;
      }

-- the chain after all blocks
pub chain_at_end : (key message : List ℕ) (count : ℕ) (chain : List ℕ) → length message ≤ 8 * count → HasChain key message count chain
    → chain ≡ chained (des_encrypted key) zero_block (blocks_of (zero_filled message))
chain_at_end key message count chain all known =
    let none : length (drop (8 * count) message) ≡ 0 = omega (arith, length-drop (8 * count) message) in
    sym (ap (chained (des_encrypted key) chain) (no_block (drop (8 * count) message) none)) ∙ known.is

pub chain_at_start : (key message : List ℕ) → HasChain key message 0 zero_block
chain_at_start key message = record { is = refl }

-- the MAC from the last chain
pub retail_of-key_of : {L : Type 0} (lane : L → ℕ → Bool) (i : ℕ) (left right : List L) (message : List ℕ)
    → retail_of (key_of lane i left right) message
    ≡ des_encrypted (block_of lane i left) (des_decrypted (block_of lane i right) (chained (des_encrypted (block_of lane i left)) zero_block (blocks_of (zero_filled message))))
unfolding retail_of block_of
retail_of-key_of lane i left right message = refl
