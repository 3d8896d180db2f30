use Rattle.std.proofs.Common.{◌≡◌, ◌+◌, ◌-◌, ◌*◌, ◌++◌, codes, ℕ, List, take, drop, ap, sym, ◌∙◌, arith}
use Rattle.std.proofs.lemmas.List.{append-nil}
use Rattle.duk_commands.specs.Lines.{named_line}
use Rattle.duk_regs.specs.Image.{past_serial_in}
use Rattle.duk_tree.specs.Serial.{Serial, serial_of_bytes}
use Rattle.duk_show.proofs.ImageParts.{no_past, past_more}
use Rattle.duk_show.proofs.image.push_past.Goals as goal

pub loop-place-init : goal.loop-place-init
loop-place-init c = record {
  lines = sym (ap (λ (lines : List ℕ). c.args.lines.now.items ++ lines) (no_past c.args.bytes.now) ∙ append-nil c.args.lines.now.items);
  length = omega arith;
}

pub loop-place-preserved : goal.loop-place-preserved
loop-place-preserved c =
    let place = c.loop-place.place in
    let bytes = c.args.bytes.now in
    let start : ℕ = 351 + 10 * place in
    let ten : (start + 10) - start ≡ 10 = omega arith in
    let iksn : c.iksn.result ≡ (past_serial_in bytes place).iksn =
    c.iksn.ensures.value
    ∙ ap (λ (serial : Serial). serial.iksn) (c.from_bytes-ksn.ensures.value ∙ ap serial_of_bytes (c.array_of.ensures.bytes ∙ ap (λ (n : ℕ). take n (drop start bytes)) ten)) in
    let line = c.push_line.ensures.line ∙ ap (λ (b : List ℕ). c.loop-place.lines.items ++ named_line (codes "past") b) c.bytes.ensures.bytes in
    record {
      lines = past_more bytes place c.iksn.result c.args.lines.now.items c.loop-place.lines.items c.push_line.new.lines.items c.loop-place.invariant.lines iksn line;
      length = omega (arith, c.loop-place.invariant.length, c.push_line.ensures.len);
    }
