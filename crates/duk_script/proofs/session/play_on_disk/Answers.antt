use Rattle.std.proofs.Common.{true}
use Rattle.duk_script.specs.OnDisk.{on_disk}
use Rattle.duk_script.specs.Play.{ArePlayedOn, IsPlayed, PlayRefused, new_disk_world}
use Rattle.duk_script.specs.inner.Play.{EventsRefused, HaveOutcomes}
use Rattle.duk_script.proofs.PlayedScripts.{if_err, on_ok, played_from, played_too, refused_from}
use Rattle.duk_script.proofs.session.play_on_disk.Goals as goal

pub returns-clause-done : goal.returns-clause-done
returns-clause-done g c =
    let fewer = HaveOutcomes on_disk c.in_ok-world.world c.play_in.new.world in
    let more = ArePlayedOn true c.args.config.now in
    let old = g.W.Sink.known c.args.writer.now in
    let new = g.W.Sink.known c.play_in.new.writer in
    let follows = played_from on_disk (new_disk_world c.args.config.now) c.in_ok-world.world c.in_ok-world.ensures.starts c.in_ok-world.ensures.opened c.play_in.new.world in
    on_ok (IsPlayed fewer c.args.events.now old new) (IsPlayed more c.args.events.now old new) (played_too fewer more follows c.args.events.now old new) c.play_in.result c.play_in.ensures.done

pub returns-clause-refused : goal.returns-clause-refused
returns-clause-refused g c =
    let more = ArePlayedOn true c.args.config.now in
    let old = g.W.Sink.known c.args.writer.now in
    let new = g.W.Sink.known c.play_in.new.writer in
    let follows = refused_from on_disk (new_disk_world c.args.config.now) c.in_ok-world.world c.in_ok-world.ensures.starts c.in_ok-world.ensures.opened c.play_in.new.world c.args.events.now old new in
    if_err (EventsRefused on_disk c.in_ok-world.world c.play_in.new.world c.args.events.now old new) (PlayRefused more c.args.events.now old new) follows c.play_in.result c.play_in.ensures.refused
