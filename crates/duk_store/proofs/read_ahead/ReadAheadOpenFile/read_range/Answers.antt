use Rattle.std.proofs.Common.{length, refl, ap, ◌∙◌}
use Rattle.duk_store.specs.Disk.{range_of}
use Rattle.duk_store.proofs.GivenAhead.{given_is_read_of}
use Rattle.duk_store.proofs.read_ahead.ReadAheadOpenFile.read_range.Goals as goal

pub returns-then-give-clause-read : goal.returns-then-give-clause-read
returns-then-give-clause-read g c honest =
    let state = g.F.OpenFile.state in
    given_is_read_of state c.self.inside.file c.args.self.now.file (ap (λ ahead. ahead.file) c.self.view_is) c.args.at c.give.new.bytes c.self.inside.window c.self.invariant.agrees
    (c.if-give.ensures.given refl) honest
    ∙ ap (λ count. range_of c.args.at count (state c.args.self.now.file).reads) c.give.ensures.length

-- the same of the window that was filled; what the file has stays
pub returns-then-give-2-clause-read : goal.returns-then-give-2-clause-read
returns-then-give-2-clause-read g c honest =
    let state = g.F.OpenFile.state in
    let after = c.self-then-bytes-lt-WINDOW_LENGTH in
    let filled = c.look_ahead.new.self in
    given_is_read_of state after.inside.file filled.file (ap (λ ahead. ahead.file) after.view_is) c.args.at c.give-then-bytes-lt-WINDOW_LENGTH.new.bytes after.inside.window
    after.invariant.agrees (c.if-give-2.ensures.given refl) (c.look_ahead.ensures.nature.honest.0 honest)
    ∙ ap (λ count. range_of c.args.at count (state filled.file).reads) (c.give-then-bytes-lt-WINDOW_LENGTH.ensures.length ∙ c.give.ensures.length)
    ∙ ap (range_of c.args.at (length c.args.bytes.now)) c.look_ahead.ensures.bytes.reads
