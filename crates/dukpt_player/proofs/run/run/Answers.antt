use Rattle.duk_calls.specs.Answer.{buffer}
use Rattle.dukpt_player.proofs.Refused.{refused_answers}
use Rattle.dukpt_player.proofs.run.run.Goals as goal

pub returns : goal.returns
returns c = refused_answers c.args.journal c.args.config.now c.args.script.now c.in-Err.why
    (buffer c.args.text.now c.args.length.now) (buffer c.tell.new.text c.tell.new.length)
    c.tell.result c.in-Err.ensures.refused c.tell.ensures
