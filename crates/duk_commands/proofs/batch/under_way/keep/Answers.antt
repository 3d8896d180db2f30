use Rattle.std.proofs.Common.{◌++◌, ◌∷◌, [], sym, ◌∙◌, length-append, arith}
use Rattle.std.proofs.lemmas.List.{take_all, take-append-le}
use Rattle.duk_commands.specs.inner.Batch.{line_room}
use Rattle.duk_commands.proofs.batch.under_way.keep.Goals as goal

pub returns-then-len-lt-LINE_ROOM : goal.returns-then-len-lt-LINE_ROOM
returns-then-len-lt-LINE_ROOM c =
    c.push.ensures.items ∙ sym (take_all line_room (c.args.line.now.items ++ c.args.byte ∷ []) (omega (arith, length-append c.args.line.now.items (c.args.byte ∷ []))))

pub returns-else-len-lt-LINE_ROOM : goal.returns-else-len-lt-LINE_ROOM
returns-else-len-lt-LINE_ROOM c =
    sym (take-append-le line_room c.args.line.now.items (c.args.byte ∷ []) (omega arith) ∙ take_all line_room c.args.line.now.items (omega arith))
