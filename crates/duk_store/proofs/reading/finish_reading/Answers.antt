use Rattle.std.proofs.Common.{ℕ, arith, refl, subst}
use Rattle.duk_store.specs.inner.Reading.{HasReadGroups}
use Rattle.duk_store.proofs.RecordsRead.{all_behind, all_read, cut_group}
use Rattle.duk_store.proofs.reading.finish_reading.Goals as goal

pub returns-in-Behind-clause-whole : goal.returns-in-Behind-clause-whole
returns-in-Behind-clause-whole g c =
    let format = g.F.Format.meaning c.args.format.now in
    rw c.in-Behind.is (λ items records bytes size was. all_behind format c.in-Behind.kept records items bytes size was)

pub returns-then-left-eq0-clause-whole : goal.returns-then-left-eq0-clause-whole
returns-then-left-eq0-clause-whole g c =
    let format = g.F.Format.meaning c.args.format.now in
    let kept = c.in-Groups.kept in
    rw c.in-Groups.is (λ items records bytes size was. all_read format kept records items bytes size (subst (λ (left : ℕ). HasReadGroups format kept left items records bytes) c.if-left-eq0.true was))

pub returns-else-left-eq0-clause-refused : goal.returns-else-left-eq0-clause-refused
returns-else-left-eq0-clause-refused g c =
    let format = g.F.Format.meaning c.args.format.now in
    rw c.in-Groups.is (refl, λ items records bytes size was. cut_group format c.in-Groups.kept records items bytes c.requires.format c.in-Groups.left (omega arith) size was)
