use Rattle.std.proofs.Common.{ℕ, List, ◌*◌, ◌/◌, ◌^◌, ◌-◌, length, take, drop, fold, ap, sym, ◌∙◌}
use Rattle.std.proofs.lemmas.List.{take-append-drop, take_rest}
use Rattle.std.proofs.lemmas.List.Sums.{fold-append}
use Rattle.duk_crc.specs.Crc32.{with_byte}
use Rattle.duk_crc.proofs.checksum.Division.with.Goals as goal

pub returns : goal.returns
returns c = λ before is.
    let bytes : List ℕ = c.args.bytes.now in
    let cut : ℕ = 8 * (length bytes / 8) in
    let start : ℕ = c.self.inside.remainder in
    c.with_rest.ensures
    ∙ ap (fold with_byte c.with_steps-remainder.result) (take_rest bytes cut)
    ∙ ap (λ (n : ℕ). fold with_byte n (drop cut bytes)) c.with_steps-remainder.ensures
    ∙ sym (fold-append with_byte start (take cut bytes) (drop cut bytes))
    ∙ ap (fold with_byte start) (take-append-drop cut bytes)
    ∙ ap (λ (n : ℕ). fold with_byte n bytes) (c.self.view_is ∙ is)
    ∙ sym (fold-append with_byte (2 ^ 32 - 1) before bytes)
