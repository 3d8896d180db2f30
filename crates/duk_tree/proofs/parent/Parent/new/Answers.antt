use Rattle.std.proofs.Common.{◌≡◌, ◌++◌, ℕ, List, arith, length, sym, ap, ap₂, subst, ◌∙◌}
use Rattle.std.proofs.lemmas.List.{take_all}
use Rattle.std.proofs.Math.Seq.{take-add}
use Rattle.duk_tdes.specs.Key.{xor_bytes}
use Rattle.duk_tdes.specs.Tdes.{first_key, second_key}
use Rattle.duk_tree.specs.Derivation.{derivation_mask}
use Rattle.duk_tree.specs.inner.Derivation.{AreHalves}
use Rattle.duk_tree.proofs.parent.Parent.new.Goals as goal

-- the halves of a key of sixteen bytes, joined
halves_joined : (key : List ℕ) → length key ≡ 16 → first_key key ++ second_key key ≡ key
halves_joined key sixteen = sym (take-add 8 8 key) ∙ take_all 16 key (omega (arith, sixteen))

-- the halves of a key, with and without the mask, are those of the key that they make
halves_of : (key left right masked_left masked_right : List ℕ) → left ++ right ≡ key → AreHalves key left right → AreHalves (xor_bytes key derivation_mask) masked_left masked_right
    → AreHalves (left ++ right) left right × AreHalves (xor_bytes (left ++ right) derivation_mask) masked_left masked_right
halves_of key left right masked_left masked_right same halves masked =
    (subst (λ key. AreHalves key left right) (sym same) halves, subst (λ key. AreHalves (xor_bytes key derivation_mask) masked_left masked_right) (sym same) masked)

pub invariant_of-result : goal.invariant_of-result
invariant_of-result c =
    let key = c.args.key.now in
    let is_left : c.new-left.result ≡ first_key key = c.new-left.ensures ∙ c.bytes.ensures.bytes ∙ c.halves-left.ensures.left in
    let is_right = c.halves-left.ensures.right in
    halves_of key _ _ _ _ (ap₂ (λ (left right : List ℕ). left ++ right) is_left is_right ∙ halves_joined key c.tdes_key.ensures.size)
    (record { left_is = is_left; right_is = is_right })
    (record {
      left_is =
          c.masked.ensures
          ∙ ap (λ left. xor_bytes left (first_key derivation_mask)) is_left
          ∙ sym (c.masked_halves.ensures.first key derivation_mask);
      right_is =
          c.xor.ensures
          ∙ ap (λ right. xor_bytes right c.to_be_bytes.result) is_right
          ∙ ap (xor_bytes (second_key key)) c.to_be_bytes.ensures
          ∙ sym (c.masked_halves.ensures.second key derivation_mask);
    })

pub returns : goal.returns
returns c =
    let is_left : c.new-left.result ≡ first_key c.args.key.now = c.new-left.ensures ∙ c.bytes.ensures.bytes ∙ c.halves-left.ensures.left in
    ap₂ (λ (left right : List ℕ). left ++ right) is_left c.halves-left.ensures.right ∙ halves_joined c.args.key.now c.tdes_key.ensures.size
