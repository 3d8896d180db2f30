use Rattle.std.proofs.Common.{length, sym, ap, ◌∙◌, arith}
use Rattle.duk_commands.proofs.PaddingIsRead.{long_fits_none, read_over}
use Rattle.duk_commands.proofs.wrap.read_pad.Goals as goal

pub returns-then-size-gt-MOST_PADDING : goal.returns-then-size-gt-MOST_PADDING
returns-then-size-gt-MOST_PADDING c = λ padding key read fits. long_fits_none c.args.text.now padding key (omega arith) read fits

pub returns : goal.returns
returns c =
    read_over c.args.text.now c.decode_to_slice.new.out c.truncate.new.self.items (length c.as_mut_slice.result.now) c.decode_to_slice.result
    (c.decode_to_slice.auto.out ∙ ap length c.as_mut_slice.ensures.value) c.decode_to_slice.ensures.value (sym c.ok.ensures.value ∙ c.in_ok-ok.was)
