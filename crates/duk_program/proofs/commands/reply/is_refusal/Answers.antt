use Rattle.std.proofs.Common.{sym, ◌∙◌}
use Rattle.duk_program.proofs.Refusals.{not_found, not_read}
use Rattle.duk_program.proofs.commands.reply.is_refusal.Goals as goal

pub returns-then-is_err : goal.returns-then-is_err
returns-then-is_err c =
    not_read c.serials.ensures.ten c.args.text.now c.decode_to_slice.new.out c.decode_to_slice.result c.decode_to_slice.ensures.value (sym c.is_err.ensures.value ∙ c.if-is_err.true)

pub returns-in-None : goal.returns-in-None
returns-in-None c =
    not_found c.serials.ensures.ten c.args.text.now c.decode_to_slice.new.out c.decode_to_slice.result c.decode_to_slice.ensures.value c.read_answer.result
    c.read_answer.ensures.every c.in-None.is
