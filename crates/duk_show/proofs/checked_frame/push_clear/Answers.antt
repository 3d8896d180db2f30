use Rattle.std.proofs.Common.{◌++◌, codes, ap, sym, ◌∙◌}
use Rattle.duk_commands.specs.Lines.{named_line}
use Rattle.duk_show.specs.CheckedFrame.{clear_lines}
use Rattle.duk_show.proofs.checked_frame.push_clear.Goals as goal
use Rattle.duk_tdes.specs.Tdes.{tdes_decrypted}

pub returns-then-show : goal.returns-then-show
returns-then-show c =
    c.push_line.ensures.line
    ∙ ap (λ block. c.args.lines.now.items ++ named_line (codes "clear-pin-block") block)
    (c.tdes_decrypt-clear.ensures ∙ ap (λ key. tdes_decrypted key c.args.block) c.pin_key.ensures)
    ∙ ap (λ show. c.args.lines.now.items ++ clear_lines show c.args.key.now c.args.block) (sym c.if-show.true)
