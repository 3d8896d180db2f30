use Rattle.std.proofs.Common.{◌∙◌}
use Rattle.duk_play.proofs.NewEnds.{brought_up}
use Rattle.duk_play.proofs.opening.bring_up.Goals as goal

pub returns-in-Ok-clause-opened : goal.returns-in-Ok-clause-opened
returns-in-Ok-clause-opened g c =
    brought_up _ c.args.books.now c.run.new.books _ _ _ _ c.requires.starts c.requires.count
    (c.as_slice.ensures.value ∙ c.in_ok-events.ensures.events) c.in-Ok.ensures.run
