use Rattle.std.proofs.Common.{◌≡◌, ◌∙◌, ◌+◌, ◌-◌, ◌≤◌, ◌++◌, ℕ, List, ap, arith, replicate, take}
use Rattle.std.proofs.lemmas.List.{take-replicate}
use Rattle.duk_service.proofs.GrownFiles.{keeps_end, longer_then, more_zeros}
use Rattle.duk_service.proofs.grow_journal.append_zeros.Goals as goal

pub returns-in_err-append-clause-longer : goal.returns-in_err-append-clause-longer
returns-in_err-append-clause-longer g c =
    let state = g.E.FileEnd.state in
    let now = c.loop-left.invariant in
    let piece : ℕ = c.min-piece.result in
    longer_then (state c.args.end.now) (state c.loop-left.end) (state c.append.new.self) (take piece c.args.zeros.now) (c.args.count - c.loop-left.left) piece c.args.count
    (omega (arith, now.within, c.min-piece.ensures)) (ap (take piece) c.requires ∙ take-replicate piece 65536 0 (omega (arith, c.min-piece.ensures)))
    now.nature now.longer c.in_err-append.ensures.longer

pub loop-left-preserved : goal.loop-left-preserved
loop-left-preserved g c =
    let state = g.E.FileEnd.state in
    let now = c.loop-left.invariant in
    let piece : ℕ = c.min-piece.result in
    let done : ℕ = c.args.count - c.loop-left.left in
    let first = state c.args.end.now in
    let mid = state c.loop-left.end in
    let last = state c.append.new.self in
    let zeros : take piece c.args.zeros.now ≡ replicate piece 0 = ap (take piece) c.requires ∙ take-replicate piece 65536 0 (omega (arith, c.min-piece.ensures)) in
    let more : done + piece ≡ c.args.count - (c.loop-left.left - piece) = omega (arith, now.within, c.min-piece.ensures) in
    record {
      within = omega (arith, now.within);
      nature = keeps_end first mid last now.nature c.in_ok-append.ensures.nature;
      longer = longer_then first mid last (take piece c.args.zeros.now) done piece (c.args.count - (c.loop-left.left - piece)) (omega (arith, more)) zeros
          now.nature now.longer c.in_ok-append.ensures.longer;
      appended = λ honest. more_zeros first.reads mid.reads last.reads (take piece c.args.zeros.now) done piece zeros (now.appended honest)
          (c.in_ok-append.ensures.appended (now.nature.honest.0 honest))
          ∙ ap (λ (n : ℕ). first.reads ++ replicate n 0) more;
    }
