use Rattle.std.proofs.Common.{◌≡◌, ◌∙◌, ◌+◌, ◌≤◌, ap, arith, length, replicate, take}
use Rattle.std.proofs.lemmas.List.{length-replicate, take-replicate}
use Rattle.duk_journal_copy.proofs.WrittenDisks.{keeps_on, outside_then, outside_wider}
use Rattle.duk_journal_copy.proofs.WrittenLists.{zeros_on}
use Rattle.duk_journal_copy.proofs.blank.write_zeros.Goals as goal

pub loop-at-preserved : goal.loop-at-preserved
loop-at-preserved g c =
    let i = c.loop-at.invariant in
    let old = g.D.Disk.meaning.state_of c.args.disk.now in
    let mid = g.D.Disk.meaning.state_of c.loop-at.disk in
    let count = c.min-count.result in
    let at = c.loop-at.at in
    let zeros : take count c.args.zeros.now ≡ replicate count 0 =
    ap (take count) c.requires.zeros ∙ take-replicate count 65536 0 (omega (arith, c.min-count.ensures)) in
    let long : length (take count c.args.zeros.now) ≡ count = ap length zeros ∙ length-replicate count 0 in
    record {
      behind = omega (arith, i.behind);
      inside = omega (arith, c.min-count.ensures, i.inside);
      so_far = record {
        nature = keeps_on _ _ _ i.so_far.nature c.write_at.ensures.nature;
        no_failure = c.in_ok-write_at.ensures.no_failure ∙ i.so_far.no_failure;
        zeros = λ h.
            let honest = i.so_far.nature.honest.0 h in
            let size : length old.reads ≡ old.size = g.D.Disk.leaves_its_size c.args.disk.now h old.reads (g.D.Disk.reads_may_stay c.args.disk.now h) in
            let within : at + count ≤ length old.reads = omega (arith, size, c.min-count.ensures, i.inside, c.requires.inside) in
            c.in_ok-write_at.ensures.written honest
            ∙ zeros_on old.reads mid.reads c.args.from at count _ i.behind within zeros (i.so_far.zeros h);
      };
      outside = outside_then c.args.from c.args.to old mid (g.D.Disk.meaning.state_of c.write_at.new.self) i.so_far.nature i.outside
          (outside_wider c.args.from c.args.to at _ mid (g.D.Disk.meaning.state_of c.write_at.new.self) i.behind (omega (arith, long, c.min-count.ensures, i.inside)) c.write_at.ensures.torn);
    }
