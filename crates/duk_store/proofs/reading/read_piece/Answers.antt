use Rattle.std.proofs.Common.{◌≡◌, ◌+◌, ◌-◌, ◌*◌, ◌<◌, ◌∙◌, ℕ, List, length, take, drop, arith, subst, sym}
use Rattle.std.proofs.lemmas.Result.{err_from_is_err_and}
use Rattle.duk_store.specs.Format.{FormatMeaning}
use Rattle.duk_store.specs.inner.Reading.{IsPieceAt, IsRecordAt}
use Rattle.duk_store.proofs.Places.{ends, record_in_piece, record_slice}
use Rattle.duk_store.proofs.ReadInTurn.{reads_none, reads_on, unread_on}
use Rattle.duk_store.proofs.reading.read_piece.Goals as goal

-- the record at a place in the piece is one of the whole
there : {I : Type 0} (format : FormatMeaning I) (identity said count index : ℕ) (piece : List ℕ) → said ≡ format.record_length → length piece ≡ format.record_length * count → index < count → (place : ℕ) (bytes : List ℕ)
    → IsPieceAt format identity piece place bytes → IsRecordAt format identity (take (said * index + said - said * index) (drop (said * index) piece)) (place + index) bytes
there format identity said count index piece is whole less place bytes stands =
    let long = format.record_length in
    let last = ends long index count less in
    let top : ℕ = long * count in
    subst (λ (n : ℕ). IsRecordAt format identity (take (n * index + n - n * index) (drop (n * index) piece)) (place + index) bytes) (sym is)
    (record_in_piece long place index piece bytes stands.0 (omega (arith, last, whole)) ∙ record_slice long index piece, stands.1)

pub loop-index-init : goal.loop-index-init
loop-index-init g c =
    let format = g.F.Format.meaning c.args.format.now in
    reads_none format g.V.Visitor.takes c.args.reading (IsPieceAt format c.args.identity c.args.piece.now) c.args.visitor.now

pub returns-in_err-reading-clause-refused : goal.returns-in_err-reading-clause-refused
returns-in_err-reading-clause-refused g c =
    let format = g.F.Format.meaning c.args.format.now in
    let p = err_from_is_err_and c.from_residual.result c.from_residual.ensures.1 in
    let long = format.record_length in
    let index = c.loop-index.index in
    let piece = c.args.piece.now in
    let said = c.record_length-long.result in
    let record_bytes : List ℕ = take (said * index + said - said * index) (drop (said * index) piece) in
    rw (p.1, p.2)
    (unread_on format g.V.Visitor.takes c.args.reading c.loop-index.reading index (IsPieceAt format c.args.identity piece) (IsRecordAt format c.args.identity record_bytes) c.args.visitor.now c.loop-index.visitor c.loop-index.invariant
    (there format c.args.identity said c.args.count index piece c.record_length-long.ensures c.requires.whole c.loop-index-test.true) g.V.Visitor.refuses c.in_err-reading.field-0.0 c.in_err-reading.ensures.refused)

pub loop-index-preserved : goal.loop-index-preserved
loop-index-preserved g c =
    let format = g.F.Format.meaning c.args.format.now in
    let long = format.record_length in
    let index = c.loop-index.index in
    let piece = c.args.piece.now in
    let said = c.record_length-long.result in
    let record_bytes : List ℕ = take (said * index + said - said * index) (drop (said * index) piece) in
    reads_on format g.V.Visitor.takes c.args.reading c.loop-index.reading index (IsPieceAt format c.args.identity piece) (IsRecordAt format c.args.identity record_bytes) c.args.visitor.now c.loop-index.visitor c.loop-index.invariant
    (there format c.args.identity said c.args.count index piece c.record_length-long.ensures c.requires.whole c.loop-index-test.true) 1 c.read_next.new.visitor c.in_ok-reading.reading c.in_ok-reading.ensures.read
