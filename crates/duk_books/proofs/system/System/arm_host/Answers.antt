use Rattle.std.proofs.Common.{refl}
use Rattle.duk_journal_host.specs.Host.{host_meaning_of}
use Rattle.duk_books.proofs.moves.HostAnswers.{still_judges}
use Rattle.duk_books.proofs.system.System.arm_host.Goals as goal

pub returns : goal.returns
returns g c =
    let meaning = host_meaning_of g.J.Journal.meaning g.I.Issuer.decides in
    rw (← c.self.view_is) (
      refl,
      refl,
      record {
        armed = c.arm.ensures.armed;
        stays = c.arm.ensures.stays;
        capacity = c.arm.ensures.capacity;
        ends = c.arm.ensures.ends;
        state = c.arm.ensures.state;
        judges = still_judges meaning c.self.inside.host c.arm.new.self c.arm.ensures.stays c.arm.ensures.state c.judges-2.ensures;
      },
      refl,
    )
