use Rattle.std.proofs.Common.{◌≡◌, ◌∙◌, ◌+◌, ◌*◌, ◌-◌, ◌≤◌, ℕ, arith, drop, length, length-drop, subst, take}
use Rattle.std.proofs.lemmas.List.{length-append, length-take-le}
use Rattle.std.proofs.lemmas.Result.{err_from_is_err_and}
use Rattle.duk_journal_copy.specs.inner.Copy.{AreRecordsCopied}
use Rattle.duk_journal_copy.proofs.CopiedRecords.{none_on, piece_not, piece_on}
use Rattle.duk_journal_copy.proofs.WrittenDisks.{outside_none, outside_then, outside_wider}
use Rattle.duk_journal_copy.proofs.copy.copy_records.Goals as goal

pub loop-place-init : goal.loop-place-init
loop-place-init g c =
    let old = g.D.Disk.meaning.state_of c.args.old.now in
    let new = g.E.Disk.meaning.state_of c.args.new.now in
    record {
      inside = omega arith;
      piece = c.requires.piece;
      so_far = none_on c.args.kept.version c.args.own c.args.identity old new (λ k.
          let long : length new.reads ≡ new.size = g.E.Disk.leaves_its_size c.args.new.now k new.reads (g.E.Disk.reads_may_stay c.args.new.now k) in
          omega (arith, long, c.requires.room));
      outside = outside_none 32 (32 * (1 + c.args.kept.count)) new;
    }

pub loop-place-preserved : goal.loop-place-preserved
loop-place-preserved g c =
    let i = c.loop-place.invariant in
    let old = g.D.Disk.meaning.state_of c.args.old.now in
    let old' = g.D.Disk.meaning.state_of c.loop-place.old in
    let old'' = g.D.Disk.meaning.state_of c.copy_piece.new.old in
    let new = g.E.Disk.meaning.state_of c.args.new.now in
    let new' = g.E.Disk.meaning.state_of c.loop-place.new in
    let new'' = g.E.Disk.meaning.state_of c.copy_piece.new.new in
    let place = c.loop-place.place in
    let count = c.min-count.result in
    let within : 32 * count ≤ length c.loop-place.piece = omega (arith, c.min-count.ensures, i.piece) in
    let whole : length (take (32 * count) c.loop-place.piece) ≡ 32 * count = length-take-le (32 * count) c.loop-place.piece within in
    record {
      inside = omega (arith, c.min-count.ensures, i.inside);
      piece = length-append c.copy_piece.new.records (drop (32 * count) c.loop-place.piece)
          ∙ omega (arith, c.copy_piece.ensures.length, whole, length-drop (32 * count) c.loop-place.piece, within, i.piece);
      so_far = piece_on c.args.kept.version c.args.own c.args.identity c.headers-headers.result place count old old' old'' new new' new''
          (λ k. g.E.Disk.leaves_its_size c.args.new.now k new.reads (g.E.Disk.reads_may_stay c.args.new.now k))
          c.headers-headers.ensures (omega (arith, c.min-count.ensures, i.inside, c.requires.room)) i.so_far c.in_ok-copy_piece.ensures.copied;
      outside = outside_then 32 (32 * (1 + c.args.kept.count)) new new' new'' i.so_far.nature i.outside
          (outside_wider 32 (32 * (1 + c.args.kept.count)) (32 * (1 + place)) (32 * (1 + place + count) - 32 * (1 + place)) new' new''
          (omega arith) (omega (arith, c.min-count.ensures, i.inside)) c.copy_piece.ensures.outside);
    }

pub returns-in_err-copy_piece-clause-failed : goal.returns-in_err-copy_piece-clause-failed
returns-in_err-copy_piece-clause-failed g c =
    let i = c.loop-place.invariant in
    let p = err_from_is_err_and c.from_residual.result c.from_residual.ensures.1 in
    rw (p.1, p.2) (piece_not c.args.kept c.args.own c.headers-headers.result c.loop-place.place c.min-count.result
    (g.D.Disk.meaning.state_of c.args.old.now) (g.D.Disk.meaning.state_of c.loop-place.old) (g.D.Disk.meaning.state_of c.copy_piece.new.old)
    (g.E.Disk.meaning.state_of c.args.new.now) (g.E.Disk.meaning.state_of c.loop-place.new) (g.E.Disk.meaning.state_of c.copy_piece.new.new)
    c.in_err-copy_piece.field-0.0 c.headers-headers.ensures (omega (arith, c.min-count.ensures, i.inside)) i.so_far.stays i.so_far.nature i.so_far.no_failure
    c.in_err-copy_piece.ensures.failed)

pub returns-in_err-copy_piece-clause-outside : goal.returns-in_err-copy_piece-clause-outside
returns-in_err-copy_piece-clause-outside g c =
    let i = c.loop-place.invariant in
    let new = g.E.Disk.meaning.state_of c.args.new.now in
    let new' = g.E.Disk.meaning.state_of c.loop-place.new in
    let new'' = g.E.Disk.meaning.state_of c.copy_piece.new.new in
    let place = c.loop-place.place in
    let count = c.min-count.result in
    outside_then 32 (32 * (1 + c.args.kept.count)) new new' new'' i.so_far.nature i.outside
    (outside_wider 32 (32 * (1 + c.args.kept.count)) (32 * (1 + place)) (32 * (1 + place + count) - 32 * (1 + place)) new' new''
    (omega arith) (omega (arith, c.min-count.ensures, i.inside)) c.copy_piece.ensures.outside)

pub returns-clause-copied : goal.returns-clause-copied
returns-clause-copied g c =
    let i = c.loop-place.invariant in
    let all : c.loop-place.place ≡ c.args.kept.count = omega (arith, i.inside, c.loop-place-test.false) in
    subst (λ (n : ℕ). AreRecordsCopied c.args.kept.version c.args.own c.args.identity 0 n
    (g.D.Disk.meaning.state_of c.args.old.now) (g.D.Disk.meaning.state_of c.loop-place.old)
    (g.E.Disk.meaning.state_of c.args.new.now) (g.E.Disk.meaning.state_of c.loop-place.new)) all i.so_far
