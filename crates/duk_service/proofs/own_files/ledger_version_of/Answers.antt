use Rattle.duk_service.proofs.SeenDisks.{neither_ledger, read_twice}
use Rattle.duk_service.proofs.own_files.ledger_version_of.Goals as goal

pub returns-in_default-2 : goal.returns-in_default-2
returns-in_default-2 g c =
    let old = g.D.Disk.meaning.state_of c.args.disk.now in
    let mid = g.D.Disk.meaning.state_of c.look_at.new.disk in
    let new = g.D.Disk.meaning.state_of c.look_at-in_default.new.disk in
    let first = c.look_at.ensures in
    let second = c.look_at-in_default.ensures in
    record {
      version = neither_ledger mid new c.in_ok-look_at.field-0 c.in_ok-look_at-in_default.field-0 second.nature second.bytes
          c.in_default.not-Left c.in_ok-look_at.ensures.seen c.in_default-2.not-Left c.in_ok-look_at-in_default.ensures.seen;
      only_read = read_twice old mid new (record { nature = first.nature; arming = first.arming; bytes = first.bytes })
          (record { nature = second.nature; arming = second.arming; bytes = second.bytes });
      failed = tt;
    }
