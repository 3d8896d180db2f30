use Rattle.std.proofs.Common.{◌≡◌, ◌+◌, ◌-◌, ◌*◌, ℕ, take, drop, ap, ◌∙◌, arith}
use Rattle.duk_show.proofs.ImageParts.{registers_more}
use Rattle.duk_show.proofs.image.push_registers.Goals as goal

pub loop-place-preserved : goal.loop-place-preserved
loop-place-preserved c =
    let place = c.loop-place.place in
    let start : ℕ = 14 + 16 * place in
    let sixteen : (start + 16) - start ≡ 16 = omega arith in
    record {
      lines = registers_more c.args.show c.args.bytes.now c.array_of-register.result place c.args.lines.now.items c.loop-place.lines.items c.push_register.new.lines.items
          (omega (arith, c.loop-place-test.true)) c.loop-place.invariant.lines
          (c.array_of-register.ensures.bytes ∙ ap (λ (n : ℕ). take n (drop start c.args.bytes.now)) sixteen) c.push_register.ensures.line;
      length = omega (arith, c.loop-place.invariant.length, c.push_register.ensures.len);
    }
