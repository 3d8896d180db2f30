use Rattle.std.proofs.Common.{map, refl, sym, ◌∙◌}
use Rattle.duk_des.specs.Des.{xor_keys}
use Rattle.duk_des.specs.inner.Words.{key_bits}
use Rattle.duk_des.proofs.SideBySide.{consed, both}
use Rattle.duk_des.proofs.LiteralLists.{is_spelled}
use Rattle.duk_des.proofs.RoundsOfWords.{no_key}
use Rattle.duk_des.proofs.words.round_keys.xor_keys.Goals as goal

pub returns : goal.returns
returns c =
    consed c.xor_key.ensures (consed c.xor_key-2.ensures (consed c.xor_key-3.ensures (consed c.xor_key-4.ensures (consed c.xor_key-5.ensures (consed c.xor_key-6.ensures (consed c.xor_key-7.ensures (consed c.xor_key-8.ensures (consed c.xor_key-9.ensures (consed c.xor_key-10.ensures (consed c.xor_key-11.ensures (consed c.xor_key-12.ensures (consed c.xor_key-13.ensures (consed c.xor_key-14.ensures (consed c.xor_key-15.ensures (consed c.xor_key-16.ensures refl)))))))))))))))
    ∙ sym (both (λ keys masks. xor_keys (map key_bits keys) (map key_bits masks)) (is_spelled no_key 16 c.args.keys.now c.told-keys) (is_spelled no_key 16 c.args.masks.now c.told-masks))
