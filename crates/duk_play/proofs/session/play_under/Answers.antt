use Rattle.std.proofs.Common.{◌∙◌, ap, false, sym, true}
use Rattle.duk_play.proofs.PlayedScripts.{named_stores, on_ok, played_too}
use Rattle.duk_play.proofs.session.play_under.Goals as goal

pub returns-then-config-clause-done : goal.returns-then-config-clause-done
returns-then-config-clause-done g c =
    let named = sym (ap (λ config. config.disk) c.config.view_is) ∙ c.if-config.true in
    on_ok _ _ (played_too _ _ (named_stores c.args.config.now true named) _ _ _) c.play_on_disk.result c.play_on_disk.ensures.done

pub returns-else-config-clause-done : goal.returns-else-config-clause-done
returns-else-config-clause-done g c =
    let named = sym (ap (λ config. config.disk) c.config.view_is) ∙ c.if-config.false in
    on_ok _ _ (played_too _ _ (named_stores c.args.config.now false named) _ _ _) c.play_in_memory.result c.play_in_memory.ensures.done
