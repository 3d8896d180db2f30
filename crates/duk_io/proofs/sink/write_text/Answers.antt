use Rattle.std.proofs.Common.{rules}
use Rattle.std.proofs.lemmas.List.{take_rest}
use Rattle.duk_io.proofs.WritesInTurn.{written_more}
use Rattle.duk_io.proofs.sink.write_text.Goals as goal

pub loop-done-preserved : goal.loop-done-preserved
loop-done-preserved g c =
    let took = rw take_rest at c.in-Ok.ensures.bytes in (
      search rules,
      written_more _ _ _ c.args.text.now c.loop-done.done c.in-Ok.taken c.loop-done.invariant.1
          took (c.in-Ok.ensures.counted.1 c.if-taken-gt0.true),
    )
