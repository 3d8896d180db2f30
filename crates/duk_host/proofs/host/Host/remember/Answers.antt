use Rattle.std.proofs.Common.{refl}
use Rattle.duk_host.proofs.host.Host.remember.Goals as goal

pub returns : goal.returns
returns g c =
    let before = c.in-Some.field-0 in
    rw (← c.self.view_is) (record {
      before = before;
      after = record { used = before.used; recent = c.push.new.self };
      was_running = c.in-Some.is;
      rest = refl;
      used = refl;
      recent = c.push.ensures;
    })
