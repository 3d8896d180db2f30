use Rattle.std.proofs.Common.{rules}
use Rattle.duk_host.proofs.reply.code_for.Goals as goal

pub returns-in-Ok : goal.returns-in-Ok
returns-in-Ok g c keys opened =
    let translated = c.translate.ensures.translated keys c.args.payment.now.request.ksn opened in
    search rules

pub returns-in-Err : goal.returns-in-Err
returns-in-Err g c keys opened =
    let refused = c.translate.ensures.refused keys c.args.payment.now.request.ksn opened in
    search rules
