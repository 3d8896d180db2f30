use Rattle.std.proofs.Common.{◌∙◌, ap, arith}
use Rattle.duk_commands.proofs.SerialNumbers.{iksn_written}
use Rattle.duk_commands.proofs.issue.serial.iksn_at.Goals as goal

pub returns : goal.returns
returns c =
    c.iksn.ensures.value ∙ ap (λ s. s.iksn) c.from_bytes.ensures.value
    ∙ iksn_written _ c.args.first c.args.place c.write_uint128.new.buf _ (omega (arith, c.number.ensures.value, c.from.ensures)) c.number.ensures.iksn c.requires c.write_uint128.ensures
