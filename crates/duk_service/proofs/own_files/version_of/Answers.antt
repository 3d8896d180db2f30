use Rattle.std.proofs.Common.{subst}
use Rattle.std.proofs.lemmas.Result.{err_from_is_err_and}
use Rattle.duk_journal_copy.specs.declared.version.Version.TheVariants.{Two}
use Rattle.duk_service.specs.declared.left_records.Layout.TheVariants as layout
use Rattle.duk_service.specs.declared.left_records.Seen.{Seen}
use Rattle.duk_service.specs.inner.LeftRecords.{IsSeen}
use Rattle.duk_service.proofs.SeenDisks.{fails_then, neither_version, read_twice}
use Rattle.duk_service.proofs.own_files.version_of.Goals as goal

pub returns-in_err-look_at-in-OtherFront-clause-failed : goal.returns-in_err-look_at-in-OtherFront-clause-failed
returns-in_err-look_at-in-OtherFront-clause-failed g c =
    let p = err_from_is_err_and c.from_residual-in_err-look_at-in-OtherFront.result c.from_residual-in_err-look_at-in-OtherFront.ensures.1 in
    rw (p.1, p.2) (fails_then (g.D.Disk.meaning.state_of c.args.disk.now) (g.D.Disk.meaning.state_of c.look_at.new.disk) (g.D.Disk.meaning.state_of c.look_at-in-OtherFront.new.disk)
    c.in_err-look_at-in-OtherFront.field-0.0 c.look_at.ensures.nature c.in_ok-look_at.ensures.no_failure c.in_err-look_at-in-OtherFront.ensures.failed)

pub returns-in_default-2 : goal.returns-in_default-2
returns-in_default-2 g c =
    let old = g.D.Disk.meaning.state_of c.args.disk.now in
    let mid = g.D.Disk.meaning.state_of c.look_at.new.disk in
    let new = g.D.Disk.meaning.state_of c.look_at-in-OtherFront.new.disk in
    let first = c.look_at.ensures in
    let second = c.look_at-in-OtherFront.ensures in
    record {
      version = neither_version mid new c.in_ok-look_at-in-OtherFront.field-0 second.nature second.bytes
          (subst (λ (what : Seen). IsSeen (layout.Journal Two) mid what) c.in-OtherFront.is c.in_ok-look_at.ensures.seen)
          c.in_default-2.not-Left c.in_ok-look_at-in-OtherFront.ensures.seen;
      only_read = read_twice old mid new (record { nature = first.nature; arming = first.arming; bytes = first.bytes })
          (record { nature = second.nature; arming = second.arming; bytes = second.bytes });
      failed = tt;
    }
