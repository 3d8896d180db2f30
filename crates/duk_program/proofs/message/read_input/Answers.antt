use Rattle.std.proofs.Common.{[], ◌<◌, append-nil, arith, length, refl, subst}
use Rattle.std.proofs.KnownBytes.{Consumes-kept, Consumes-nil}
use Rattle.duk_io.specs.Source.{AreBytesRead, IsBroken}
use Rattle.duk_program.proofs.message.read_input.Goals as goal

pub loop-init : goal.loop-init
loop-init g c = record { read = rw (c.new-bytes.ensures.items) (c.reads.ensures.none _); enough = omega arith }

pub returns-in_default-clause-unread : goal.returns-in_default-clause-unread
returns-in_default-clause-unread g c =
    let known = g.R.Source.known in
    let before = (known c.loop.input).contents in (
      c.loop.bytes.items,
      subst (IsBroken (known c.args.input.now) (known c.get.new.self)) (append-nil c.loop.bytes.items)
          (c.reads.ensures.broken_later _ _ _ c.loop.bytes.items [] c.loop.invariant.read
          (record { given = Consumes-kept before before (known c.get.new.self).contents [] (Consumes-nil before) c.in_default.ensures.bytes; failed = c.in_default.ensures.counted })),
    )

pub returns-then-count-eq0-clause-read : goal.returns-then-count-eq0-clause-read
returns-then-count-eq0-clause-read g c =
    let known = g.R.Source.known in
    let given = rw c.if-count-eq0.true at c.in-Ok.ensures.bytes in
    let room : 0 < length c.get.new.buffer = omega (arith, c.get.ensures.room) in
    record {
      read = subst (AreBytesRead (known c.args.input.now) (known c.get.new.self)) (append-nil c.loop.bytes.items)
          (c.reads.ensures.then _ _ _ c.loop.bytes.items [] c.loop.invariant.read (record { given = given.0; unfailed = c.in-Ok.ensures.counted }));
      over = given.1 refl room;
    }
