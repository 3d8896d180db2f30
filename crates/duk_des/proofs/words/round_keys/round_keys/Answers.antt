use Rattle.std.proofs.Common.{drop, ◌∙◌}
use Rattle.duk_des.specs.Des.{schedule, round_keys}
use Rattle.duk_des.specs.Tables.{rotations}
use Rattle.duk_des.specs.inner.Words.{half_bits}
use Rattle.duk_des.proofs.SideBySide.{both}
use Rattle.duk_des.proofs.OneMoreRoundKey.{one_key, no_key}
use Rattle.duk_des.proofs.words.round_keys.round_keys.Goals as goal

-- the sixteen round keys in turn, with the halves from which they come
pub returns : goal.returns
unfolding round_keys
returns c =
    one_key 1 (drop 1 rotations) (half_bits c.choose_halves-c.result.0) (half_bits c.choose_halves-c.result.1) c.rotate-c.ensures.bits c.rotate-d.ensures.bits c.round_key.ensures
    (one_key 1 (drop 2 rotations) (half_bits c.rotate-c.result) (half_bits c.rotate-d.result) c.rotate-c-2.ensures.bits c.rotate-d-2.ensures.bits c.round_key-2.ensures
    (one_key 2 (drop 3 rotations) (half_bits c.rotate-c-2.result) (half_bits c.rotate-d-2.result) c.rotate-c-3.ensures.bits c.rotate-d-3.ensures.bits c.round_key-3.ensures
    (one_key 2 (drop 4 rotations) (half_bits c.rotate-c-3.result) (half_bits c.rotate-d-3.result) c.rotate-c-4.ensures.bits c.rotate-d-4.ensures.bits c.round_key-4.ensures
    (one_key 2 (drop 5 rotations) (half_bits c.rotate-c-4.result) (half_bits c.rotate-d-4.result) c.rotate-c-5.ensures.bits c.rotate-d-5.ensures.bits c.round_key-5.ensures
    (one_key 2 (drop 6 rotations) (half_bits c.rotate-c-5.result) (half_bits c.rotate-d-5.result) c.rotate-c-6.ensures.bits c.rotate-d-6.ensures.bits c.round_key-6.ensures
    (one_key 2 (drop 7 rotations) (half_bits c.rotate-c-6.result) (half_bits c.rotate-d-6.result) c.rotate-c-7.ensures.bits c.rotate-d-7.ensures.bits c.round_key-7.ensures
    (one_key 2 (drop 8 rotations) (half_bits c.rotate-c-7.result) (half_bits c.rotate-d-7.result) c.rotate-c-8.ensures.bits c.rotate-d-8.ensures.bits c.round_key-8.ensures
    (one_key 1 (drop 9 rotations) (half_bits c.rotate-c-8.result) (half_bits c.rotate-d-8.result) c.rotate-c-9.ensures.bits c.rotate-d-9.ensures.bits c.round_key-9.ensures
    (one_key 2 (drop 10 rotations) (half_bits c.rotate-c-9.result) (half_bits c.rotate-d-9.result) c.rotate-c-10.ensures.bits c.rotate-d-10.ensures.bits c.round_key-10.ensures
    (one_key 2 (drop 11 rotations) (half_bits c.rotate-c-10.result) (half_bits c.rotate-d-10.result) c.rotate-c-11.ensures.bits c.rotate-d-11.ensures.bits c.round_key-11.ensures
    (one_key 2 (drop 12 rotations) (half_bits c.rotate-c-11.result) (half_bits c.rotate-d-11.result) c.rotate-c-12.ensures.bits c.rotate-d-12.ensures.bits c.round_key-12.ensures
    (one_key 2 (drop 13 rotations) (half_bits c.rotate-c-12.result) (half_bits c.rotate-d-12.result) c.rotate-c-13.ensures.bits c.rotate-d-13.ensures.bits c.round_key-13.ensures
    (one_key 2 (drop 14 rotations) (half_bits c.rotate-c-13.result) (half_bits c.rotate-d-13.result) c.rotate-c-14.ensures.bits c.rotate-d-14.ensures.bits c.round_key-14.ensures
    (one_key 2 (drop 15 rotations) (half_bits c.rotate-c-14.result) (half_bits c.rotate-d-14.result) c.rotate-c-15.ensures.bits c.rotate-d-15.ensures.bits c.round_key-15.ensures
    (one_key 1 (drop 16 rotations) (half_bits c.rotate-c-15.result) (half_bits c.rotate-d-15.result) c.rotate-c-16.ensures.bits c.rotate-d-16.ensures.bits c.round_key-16.ensures
    (no_key (half_bits c.rotate-c-16.result) (half_bits c.rotate-d-16.result)))))))))))))))))
    ∙ both (schedule rotations) c.choose_halves-c.ensures.left c.choose_halves-c.ensures.right
