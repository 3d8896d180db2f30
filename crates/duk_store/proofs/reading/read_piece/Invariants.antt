use Rattle.duk_store.specs.inner.Reading.{IsPieceAt, ReadsOn}
use Rattle.duk_store.proofs.reading.read_piece.Given as goal

abbrev pub invariant-loop-index : goal.invariant-loop-index
invariant-loop-index g l =
    let format = g.F.Format.meaning l.format in
    ReadsOn format g.V.Visitor.takes l.fn.reading l.index (IsPieceAt format l.identity l.piece) l.fn.visitor l.visitor l.reading
