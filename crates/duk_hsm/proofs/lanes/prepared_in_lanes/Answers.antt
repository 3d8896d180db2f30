use Rattle.std.proofs.Common.{◌≡◌, ◌∙◌, ◌<◌, ℕ, List, [], Option, None, Some, IfSome, length, get_or, ap, ap₂, sym, subst, arith}
use Rattle.std.proofs.lemmas.List.{get_or_default}
use Rattle.duk_group.specs.Numbers.{bytes_at}
use Rattle.duk_group.specs.declared.transposed.TheConstants.{WIDTH}
use Rattle.duk_mac.specs.Retail.{retail_of}
use Rattle.duk_tdes.specs.Tdes.{tdes_decrypted}
use Rattle.duk_tree.specs.Derivation.{pin_key_of, request_key_of}
use Rattle.duk_hsm.specs.inner.Group.{asked_at}
use Rattle.duk_hsm.specs.declared.pin_block.PinBlock.{PinBlock}
use Rattle.duk_hsm.proofs.AskedNumbers.{asked_there}
use Rattle.duk_hsm.proofs.lanes.prepared_in_lanes.Goals as goal

-- the clear block of what is asked, from that of its lane
deciphered : (pin : Option PinBlock) (clear block key : List ℕ) → IfSome pin (λ pin. block ≡ pin.block)
    → clear ≡ tdes_decrypted (pin_key_of key) block
    → IfSome pin (λ pin. clear ≡ tdes_decrypted (pin_key_of key) pin.block)
deciphered None clear block key is clear_is = tt
deciphered (Some pin) clear block key is clear_is = clear_is ∙ ap (tdes_decrypted (pin_key_of key)) is

pub with-requires : goal.with-requires
with-requires c =
    let asked = c.args.asked.now in
    let i = c.loop-i.i in
    let within = c.loop-i-test.true in
    let lane : i < WIDTH = omega (arith, c.loop-i-test.true, c.requires.few) in
    let one : c.index-asked-i.result ≡ asked_at asked i = asked_there asked i c.index-asked-i.result within c.index-asked-i.is in
    let keys = c.make-made.result.keys in
    let room : i < length keys = omega (arith, c.make-made.ensures.size, lane) in
    let key : bytes_at keys i ≡ get_or keys i c.index-made-i.result = sym (get_or_default keys i c.index-made-i.result [] room) in
    record {
      mac_is =
          c.make-made.ensures.macs i lane
          ∙ ap₂ (λ (key text : List ℕ). retail_of (request_key_of key) text) key (c.texts_in.ensures i within ∙ sym (c.text.ensures ∙ ap (λ one. one.text) one));
      translation_is =
          c.translation_of.ensures (get_or keys i c.index-made-i.result) c.args.zone
          (subst (λ pin. IfSome pin (λ pin. bytes_at c.make-made.result.clears i ≡ tdes_decrypted (pin_key_of (get_or keys i c.index-made-i.result)) pin.block)) (sym (c.pin.ensures.value ∙ ap (λ one. one.pin) one))
          (deciphered (asked_at asked i).pin (bytes_at c.make-made.result.clears i) (bytes_at c.blocks_in.result i) (get_or keys i c.index-made-i.result) (c.blocks_in.ensures.value i within)
          (c.make-made.ensures.clears i lane (c.blocks_in.ensures.whole i within) ∙ ap (λ key. tdes_decrypted (pin_key_of key) (bytes_at c.blocks_in.result i)) key)))
          (c.cipher.ensures ∙ c.make-made.ensures.ciphers i lane);
    }
