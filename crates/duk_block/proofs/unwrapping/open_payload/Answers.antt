use Rattle.std.proofs.Common.{◌≡◌, ◌-◌, ◌/◌, ◌++◌, ℕ, List, length, take, drop, lit<, sym, ap, subst, ◌∙◌, refl, arith, length-drop, length-append}
use Rattle.std.specs.List.{AllPass, concat}
use Rattle.std.proofs.lemmas.Bool.{false≢true}
use Rattle.std.proofs.lemmas.List.{take-append-drop}
use Rattle.hex.specs.Hex.{is_hex_digit}
use Rattle.hex.proofs.HexLemmas.{decode_of-ok}
use Rattle.duk_block.specs.KeyBlock.{mac_of, ciphertext_of}
use Rattle.duk_block.specs.Faults.{HasSealedPart, HasParts}
use Rattle.duk_block.specs.Hexadecimal.{IsHexadecimal}
use Rattle.duk_block.specs.declared.fault.BlockFault.TheVariants.{Hex, Mac}
use Rattle.duk_block.proofs.FaultOrder.{met_next}
use Rattle.duk_block.proofs.OneSealedPart.{HasSealedPart-same, HasParts-same, sealed_part_after}
use Rattle.duk_block.proofs.unwrapping.open_payload.Goals as goal

-- the parts that reading and cutting gave
parts_of : (text sealed_part bytes ciphertext mac : List ℕ) (items : List ℕ) (n : ℕ) → HasSealedPart text sealed_part → IsHexadecimal sealed_part items → bytes ≡ items
    → ciphertext ≡ take n bytes → mac ≡ drop n bytes → length mac ≡ 8 → HasParts text (take (length text - length sealed_part) text) ciphertext mac
parts_of text sealed_part bytes ciphertext mac items n has read same front back eight =
    let P : List ℕ → Type 0 = IsHexadecimal sealed_part in
    record {
      sealed_part = sealed_part;
      sealed_part_is = has;
      front_is = sealed_part_after text sealed_part (omega (arith, has.least, ap length has.leaves.laid_out, length-drop 16 text, length-append (concat has.leaves.optional_blocks) sealed_part)) has;
      sealed_part_is_read = subst P (sym same ∙ sym (take-append-drop n bytes) ∙ ap (λ part. part ++ drop n bytes) (sym front) ∙ ap (λ part. ciphertext ++ part) (sym back)) read;
      mac_width = eight;
    }

pub returns-in_default-clause-refused : goal.returns-in_default-clause-refused
returns-in_default-clause-refused g c =
    let P : List ℕ → Type 0 = AllPass is_hex_digit in
    let none = c.in_default.ensures in
    record {
      fails = λ met. none (subst P (HasSealedPart-same c.args.text.now met.0 c.args.sealed_part.now met.1 c.requires.sealed_part) met.2);
      earlier_met = c.requires.met;
    }

pub split_at-requires : goal.split_at-requires
split_at-requires g c =
    let read = decode_of-ok c.args.sealed_part.now c.in-Some.bytes.items c.in-Some.ensures in
    omega (arith, read.2, ap length c.as_slice.ensures.value)

pub array_of-mac-requires : goal.array_of-mac-requires
array_of-mac-requires g c =
    let read = decode_of-ok c.args.sealed_part.now c.in-Some.bytes.items c.in-Some.ensures in
    (lit< tt, omega (arith, read.2, ap length c.as_slice.ensures.value, c.split_at.ensures.back_len))

pub returns-then-same_mac-clause-found : goal.returns-then-same_mac-clause-found
returns-then-same_mac-clause-found g c =
    let text = c.args.text.now in
    let sealed_part = c.args.sealed_part.now in
    let payload = c.decipher-payload.result.items in
    let ciphertext = c.split_at.result.0.now in
    let mac = c.array_of-mac.result in
    let same : c.block_mac.result ≡ mac = c.same_mac.ensures.0 c.if-same_mac.true in
    record {
      front = take (length text - length sealed_part) text;
      ciphertext = ciphertext;
      mac = mac;
      parts = parts_of c.args.text.now sealed_part c.as_slice.result.now ciphertext mac c.in-Some.bytes.items (length sealed_part / 2 - 8) c.requires.sealed_part c.in-Some.ensures c.as_slice.ensures.value
          c.split_at.ensures.front (c.array_of-mac.ensures.bytes ∙ c.split_at.ensures.back) c.array_of-mac.ensures.key.size_is;
      payload_is = c.decipher-payload.ensures.whole;
      authentic = sym same ∙ c.block_mac.ensures.mac ∙ ap (mac_of c.args.kbpk.now (take (length text - length sealed_part) text)) c.as_slice-2.ensures.value;
      enciphered = c.decipher-payload.ensures.payload;
    }

pub returns-then-same_mac-clause-length : goal.returns-then-same_mac-clause-length
returns-then-same_mac-clause-length g c =
    let read = decode_of-ok c.args.sealed_part.now c.in-Some.bytes.items c.in-Some.ensures in
    omega (arith, c.decipher-payload.ensures.width, c.split_at.ensures.front_len, c.requires.sealed_part.least)

pub returns-then-same_mac-clause-only : goal.returns-then-same_mac-clause-only
returns-then-same_mac-clause-only g c = λ payload other.
    let text = c.args.text.now in
    let key = c.args.kbpk.now in
    let sealed_part = c.args.sealed_part.now in
    let ciphertext = c.split_at.result.0.now in
    let mac = c.array_of-mac.result in
    let front : List ℕ = take (length text - length sealed_part) text in
    let parts : HasParts text front ciphertext mac =
    parts_of c.args.text.now sealed_part c.as_slice.result.now ciphertext mac c.in-Some.bytes.items (length sealed_part / 2 - 8) c.requires.sealed_part c.in-Some.ensures c.as_slice.ensures.value
    c.split_at.ensures.front (c.array_of-mac.ensures.bytes ∙ c.split_at.ensures.back) c.array_of-mac.ensures.key.size_is in
    let same = HasParts-same text other.front other.ciphertext other.mac front ciphertext mac other.parts parts in
    c.decipher-payload.ensures.only payload other.payload_is (sym same.ciphertexts ∙ other.enciphered ∙ ap (λ m. ciphertext_of key m payload) same.macs)

pub returns-else-same_mac-clause-refused : goal.returns-else-same_mac-clause-refused
returns-else-same_mac-clause-refused g c =
    let text = c.args.text.now in
    let key = c.args.kbpk.now in
    let sealed_part = c.args.sealed_part.now in
    let payload = c.decipher-payload.result.items in
    let ciphertext = c.split_at.result.0.now in
    let mac = c.array_of-mac.result in
    let front : List ℕ = take (length text - length sealed_part) text in
    let read = decode_of-ok sealed_part c.in-Some.bytes.items c.in-Some.ensures in
    let parts : HasParts text front ciphertext mac =
    parts_of c.args.text.now sealed_part c.as_slice.result.now ciphertext mac c.in-Some.bytes.items (length sealed_part / 2 - 8) c.requires.sealed_part c.in-Some.ensures c.as_slice.ensures.value
    c.split_at.ensures.front (c.array_of-mac.ensures.bytes ∙ c.split_at.ensures.back) c.array_of-mac.ensures.key.size_is in
    record {
      fails = λ met.
          let other = met.1 in
          let same = HasParts-same text other.front other.ciphertext other.mac front ciphertext mac other.parts parts in
          let enciphered : ciphertext ≡ ciphertext_of key mac met.0 =
          sym same.ciphertexts ∙ other.enciphered ∙ ap (λ m. ciphertext_of key m met.0) same.macs in
          let payloads : met.0 ≡ payload = c.decipher-payload.ensures.only met.0 other.payload_is enciphered in
          let macs : c.block_mac.result ≡ mac =
          c.block_mac.ensures.mac
          ∙ ap (mac_of key front) (c.as_slice-2.ensures.value ∙ sym payloads)
          ∙ ap (λ f. mac_of key f met.0) (sym same.fronts)
          ∙ sym other.authentic
          ∙ same.macs in
          false≢true (sym c.if-same_mac.false ∙ c.same_mac.ensures.1 macs);
      earlier_met = met_next text key Hex Mac refl c.requires.met (sealed_part, c.requires.sealed_part, read.1);
    }
