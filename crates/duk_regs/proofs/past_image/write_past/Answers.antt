use Rattle.std.proofs.Common.{◌≡◌, ◌+◌, ◌-◌, ◌*◌, ◌<◌, ◌∷◌, ◌++◌, length, take, drop, map, replicate, sym, ap, ◌∙◌, arith}
use Rattle.std.proofs.lemmas.List.{take-append-drop, take_all}
use Rattle.std.specs.List.{concat}
use Rattle.duk_tree.specs.Serial.{iksn_bytes}
use Rattle.duk_regs.proofs.PastWrittenAndRead.{place_written, zeros_left}
use Rattle.duk_regs.proofs.PiecesInARow.{length-put_mid, part_length}
use Rattle.duk_regs.proofs.past_image.write_past.Goals as goal

pub loop-place-preserved : goal.loop-place-preserved
loop-place-preserved c =
    let bytes = c.loop-place.bytes in
    let place = c.loop-place.place in
    let iksns = c.args.iksns.now in
    let part = c.copy_from_slice.new.self in
    let start = 1 + 10 * place in
    let within : place < length iksns = omega (arith, c.loop-place-test.true) in
    let below : place < 8 = omega (arith, c.requires) in
    let size : start + 10 - start ≡ 10 = omega arith in
    let after : 1 + 10 * (place + 1) ≡ 1 + 10 * place + 10 = omega arith in
    let is_part = c.copy_from_slice.ensures.after ∙ c.bytes.ensures.bytes ∙ ap iksn_bytes c.index-iksns-place.is in
    let is_10 : length part ≡ 10 = c.copy_from_slice.ensures.len ∙ part_length bytes start (start + 10 - start) (omega (arith, c.loop-place.invariant.is_81)) ∙ size in
    record {
      is_81 = length-put_mid start (start + 10 - start) bytes part (omega (arith, c.loop-place.invariant.is_81)) (is_10 ∙ sym size) ∙ c.loop-place.invariant.is_81;
      written = place_written iksns bytes part place (start + 10 - start) (1 + 10 * (place + 1)) c.index-iksns-place.result within c.loop-place.invariant.is_81 c.requires is_10 after is_part c.loop-place.invariant.written;
      zeros = zeros_left bytes part place (start + 10 - start) (1 + 10 * (place + 1)) below c.loop-place.invariant.is_81 size is_10 after c.loop-place.invariant.zeros;
    }

pub returns : goal.returns
returns c =
    let place = c.loop-place.place in
    let bytes = c.loop-place.bytes in
    let iksns = c.args.iksns.now in
    let end : place ≡ length iksns = omega arith in
    sym (take-append-drop (1 + 10 * place) bytes)
    ∙ ap (λ front. front ++ drop (1 + 10 * place) bytes) c.loop-place.invariant.written
    ∙ ap (λ rest. length iksns ∷ (concat (map iksn_bytes (take place iksns)) ++ rest)) (c.loop-place.invariant.zeros ∙ ap (λ n. replicate (10 * (8 - n)) 0) end)
    ∙ ap (λ front. length iksns ∷ (concat (map iksn_bytes front) ++ replicate (10 * (8 - length iksns)) 0)) (take_all place iksns (omega arith))
