use Rattle.std.proofs.Common.{[], ◌∷◌, ◌++◌, ◌≤◌, ◌≡◌, ◌+◌, ◌-◌, ◌*◌, ◌<◌, ℕ, List, length, take, replicate, refl, sym, ap, ◌∙◌, arith}
use Rattle.std.proofs.lemmas.List.{take_all}
use Rattle.byteorder.specs.Endian.{big_bytes}
use Rattle.duk_tree.specs.Serial.{iksn_bytes}
use Rattle.duk_regs.specs.Image.{present_bytes}
use Rattle.duk_regs.proofs.ImageWrittenAndRead.{header_written, header_length, register_written, register_length, present_more, rest_gone, more_16}
use Rattle.duk_regs.proofs.PiecesInARow.{part_length}
use borrow.Rule.Slice.PartMut.{put_mid}
use Rattle.duk_regs.proofs.image.write_present.Goals as goal

pub loop-place-init : goal.loop-place-init
loop-place-init c =
    let serial = c.copy_from_slice.new.self in
    let counter = c.write_u24.new.buf in
    let is_serial : serial ≡ iksn_bytes c.args.iksn = c.copy_from_slice.ensures.after ∙ c.bytes.ensures.bytes in
    let is_counter : counter ≡ big_bytes 3 c.args.counter =
    c.write_u24.ensures ∙ ap (λ rest. big_bytes 3 c.args.counter ++ rest) (rest_gone 11 3 (put_mid 1 10 (2 ∷ replicate 349 0) serial)) in
    let ten : length serial ≡ 10 = c.copy_from_slice.ensures.len in
    let three : length counter ≡ 3 = ap length is_counter in
    record {
      is_350 = header_length (replicate 349 0) serial counter refl ten three;
      written = header_written (replicate 349 0) serial counter refl ten three
          ∙ ap (λ serial. 2 ∷ (serial ++ counter)) is_serial
          ∙ ap (λ counter. 2 ∷ (iksn_bytes c.args.iksn ++ counter)) is_counter;
      are_16 = λ place below. absurd (omega arith);
    }

pub loop-place-preserved : goal.loop-place-preserved
loop-place-preserved c =
    let image = c.loop-place.image in
    let place = c.loop-place.place in
    let registers = c.args.registers.now in
    let bytes = c.copy_from_slice-in-loop-place.new.self in
    let start = 14 + 16 * place in
    let within : place < length registers = omega (arith, c.type_inv.registers, c.loop-place-test.true) in
    let is_register = c.copy_from_slice-in-loop-place.ensures.after ∙ c.bytes-in-loop-place.ensures.bytes in
    let inside : start + 16 ≤ 350 = omega (arith, c.type_inv.registers) in
    let size : start + 16 - start ≡ 16 = omega arith in
    let is_16 : length bytes ≡ 16 = c.copy_from_slice-in-loop-place.ensures.len ∙ part_length image start (start + 16 - start) (omega arith) ∙ size in
    record {
      is_350 = register_length image bytes start (start + 16 - start) c.loop-place.invariant.is_350 (omega arith) (is_16 ∙ sym size);
      written =
          register_written image bytes start (start + 16 - start) (14 + 16 * (place + 1)) c.loop-place.invariant.is_350 inside is_16 (omega arith)
          ∙ ap (λ front. front ++ bytes) c.loop-place.invariant.written
          ∙ ap (λ register. 2 ∷ (present_bytes (record { iksn = c.args.iksn; counter = c.args.counter; registers = take place registers; past = [] }) ++ register)) is_register
          ∙ ap (λ rest. 2 ∷ rest) (sym (present_more c.args.iksn c.args.counter place registers c.index-registers-place.result within));
      are_16 = more_16 registers place c.index-registers-place.result within (sym (ap length is_register) ∙ is_16) c.loop-place.invariant.are_16;
    }

pub returns-clause-present : goal.returns-clause-present
returns-clause-present c =
    let end : c.loop-place.place ≡ 21 = omega arith in
    let whole : take (14 + 16 * c.loop-place.place) c.loop-place.image ≡ c.loop-place.image = take_all (14 + 16 * c.loop-place.place) c.loop-place.image (omega (arith, c.loop-place.invariant.is_350)) in
    let all : take c.loop-place.place c.args.registers.now ≡ c.args.registers.now = take_all c.loop-place.place c.args.registers.now (omega arith) in
    sym whole ∙ c.loop-place.invariant.written ∙ ap (λ (registers : List (List ℕ)). 2 ∷ present_bytes (record { iksn = c.args.iksn; counter = c.args.counter; registers = registers; past = [] })) all
