use Rattle.std.proofs.Common.{ℕ, List, ◌+◌, ◌-◌, ◌*◌, ◌≡◌, ◌++◌, take, drop, fold, ap, sym, ◌∙◌, arith}
use Rattle.std.proofs.Math.Seq.{take-add}
use Rattle.std.proofs.lemmas.List.Sums.{fold-append}
use Rattle.duk_crc.specs.Crc32.{with_byte}
use Rattle.duk_crc.proofs.checksum.with_steps.Goals as goal

pub loop-step-preserved : goal.loop-step-preserved
loop-step-preserved c =
    let bytes : List ℕ = c.args.bytes.now in
    let at : ℕ = 8 * c.loop-step.step in
    let joined : take (8 * (c.loop-step.step + 1)) bytes ≡ take at bytes ++ take (at + 8 - at) (drop at bytes) =
    (let more : 8 * (c.loop-step.step + 1) ≡ at + 8 = omega arith in ap (λ (n : ℕ). take n bytes) more)
    ∙ take-add at 8 bytes
    ∙ (let long : 8 ≡ at + 8 - at = omega arith in ap (λ (n : ℕ). take at bytes ++ take n (drop at bytes)) long) in
    c.with_eight-remainder.ensures
    ∙ ap (λ (n : ℕ). fold with_byte n (take (at + 8 - at) (drop at bytes))) c.loop-step.invariant
    ∙ sym (fold-append with_byte c.args.remainder (take at bytes) (take (at + 8 - at) (drop at bytes)))
    ∙ ap (fold with_byte c.args.remainder) (sym joined)
