use Rattle.std.proofs.Common.{ℕ, List, [], ◌∷◌, ◌++◌, drop, length, replicate, refl, ◌≡◌, arith, ap, ◌∙◌}
use Rattle.std.proofs.lemmas.List.{length-append, length-drop, length-replicate}
use Rattle.duk_regs.specs.Image.{present_bytes}
use Rattle.duk_regs.proofs.ImageWrittenAndRead.{parts_written}
use Rattle.duk_regs.proofs.PiecesInARow.{part_length}
use Rattle.duk_regs.proofs.image.write_image.Goals as goal

pub returns-clause-image : goal.returns-clause-image
returns-clause-image c =
    let present = c.copy_from_slice.new.self in
    let past = c.copy_from_slice-2.new.self in
    let zeros : List ℕ = replicate 431 0 in
    let is_350 : length present ≡ 350 = c.copy_from_slice.ensures.len in
    let is_81 : length past ≡ 81 = c.copy_from_slice-2.ensures.len ∙ part_length (present ++ drop 350 zeros) 350 81 (omega (arith, length-append present (drop 350 zeros), length-drop 350 zeros, length-replicate {A = ℕ} 431 0)) in
    parts_written zeros present past refl is_350 is_81
    ∙ ap (λ front. front ++ past) (c.copy_from_slice.ensures.after ∙ c.write_present.ensures.present)
    ∙ ap (λ back. 2 ∷ (present_bytes (record { iksn = c.args.iksn; counter = c.args.counter; registers = c.args.registers.now; past = [] }) ++ back)) (c.copy_from_slice-2.ensures.after ∙ c.write_past.ensures)
