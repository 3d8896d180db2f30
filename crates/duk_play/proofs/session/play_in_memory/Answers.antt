use Rattle.std.proofs.Common.{false}
use Rattle.duk_play.specs.Opening.{in_memory, new_memory_books}
use Rattle.duk_play.specs.Play.{ArePlayedOn, IsPlayed, PlayRefused}
use Rattle.duk_play.specs.inner.Play.{EventsRefused, HaveOutcomes}
use Rattle.duk_play.proofs.PlayedScripts.{if_err, on_ok, played_from, played_too, refused_from}
use Rattle.duk_play.proofs.session.play_in_memory.Goals as goal

pub returns-clause-done : goal.returns-clause-done
returns-clause-done g c =
    let fewer = HaveOutcomes in_memory c.in_ok-books.books c.play_in.new.books in
    let more = ArePlayedOn false c.args.config.now in
    let old = g.W.Sink.known c.args.writer.now in
    let new = g.W.Sink.known c.play_in.new.writer in
    let follows = played_from in_memory (new_memory_books c.args.config.now) c.in_ok-books.books c.in_ok-books.ensures.starts c.in_ok-books.ensures.opened c.play_in.new.books in
    on_ok (IsPlayed fewer c.args.events.now old new) (IsPlayed more c.args.events.now old new) (played_too fewer more follows c.args.events.now old new) c.play_in.result c.play_in.ensures.done

pub returns-clause-refused : goal.returns-clause-refused
returns-clause-refused g c =
    let more = ArePlayedOn false c.args.config.now in
    let old = g.W.Sink.known c.args.writer.now in
    let new = g.W.Sink.known c.play_in.new.writer in
    let follows = refused_from in_memory (new_memory_books c.args.config.now) c.in_ok-books.books c.in_ok-books.ensures.starts c.in_ok-books.ensures.opened c.play_in.new.books c.args.events.now old new in
    if_err (EventsRefused in_memory c.in_ok-books.books c.play_in.new.books c.args.events.now old new) (PlayRefused more c.args.events.now old new) follows c.play_in.result c.play_in.ensures.refused
