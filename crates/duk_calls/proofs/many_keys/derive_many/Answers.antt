use Rattle.std.proofs.Common.{◌≡◌, ◌*◌, ◌+◌, ◌-◌, length, take, drop, inl, inr, ap, ◌∙◌, length-drop, arith}
use Rattle.std.proofs.lemmas.Bool.{cases_lt}
use Rattle.std.proofs.lemmas.List.{length-take-le}
use Rattle.std.proofs.lemmas.Slice.{drop-put_mid}
use Rattle.duk_tree.specs.Derivation.{derived_key_of}
use Rattle.duk_tree.specs.Serial.{serial_of_bytes}
use Rattle.duk_calls.specs.Answer.{part_at}
use Rattle.duk_calls.proofs.Parts.{part_of_middle, part_before, part_within, drop_further, length-written}
use Rattle.duk_calls.proofs.many_keys.derive_many.Goals as goal

pub loop-done-preserved : goal.loop-done-preserved
loop-done-preserved c =
    let bdk = c.args.bdk.now in
    let ksns = c.args.ksns.now in
    let keys = c.loop-done.keys in
    let done = c.loop-done.done in
    let count = c.min.result in
    let part = c.write_group.new.keys in
    let k = 16 * (done + count) - 16 * done in
    let w = 10 * (done + count) - 10 * done in
    let long : length part ≡ k = omega arith in
    let read : length (take w (drop (10 * done) ksns)) ≡ w =
    length-take-le w (drop (10 * done) ksns) (omega (arith, length-drop (10 * done) ksns)) in
    record {
      within = omega arith;
      kept = length-written (16 * done) k keys part long (omega arith) ∙ c.loop-done.invariant.kept;
      below = λ p h.
          elim (cases_lt p done) [
            | inl l ↦ part_before 16 (16 * p) (16 * done) k keys part (omega arith) (omega arith) ∙ c.loop-done.invariant.below p l
            | inr l ↦
                part_within 16 (16 * done) (16 * (p - done)) (16 * p) k keys part (omega arith) (omega arith) (omega arith)
                ∙ c.write_group.ensures (p - done) (omega arith)
                ∙ ap (λ key. derived_key_of key (serial_of_bytes (part_at 10 (take w (drop (10 * done) ksns)) (p - done)))) c.double_key-bdk.ensures
                ∙ ap (λ bytes. derived_key_of bdk (serial_of_bytes bytes)) (part_of_middle 10 (10 * done) (10 * (p - done)) (10 * p) w ksns (omega arith) (omega arith))
          ];
      behind =
          drop-put_mid (16 * done) k keys part (16 * (done + count)) (omega arith) (omega arith) long
          ∙ drop_further (16 * done) (16 * count) (16 * (done + count)) keys c.args.keys.now (omega arith) c.loop-done.invariant.behind;
    }
