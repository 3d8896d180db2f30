use Rattle.duk_host.proofs.host.Host.reply.Goals as goal

pub returns-clause-reply : goal.returns-clause-reply
returns-clause-reply g c =
    let opened = rw (← c.self.view_is) at c.requires.opened in
    rw (← c.self.view_is, c.new.ensures) (record {
      code = c.code_for-code.result;
      code_is = c.code_for-code.ensures c.self.inside.hsm opened;
      reply = c.reply_with.ensures.reply c.self.inside.hsm opened;
    })
