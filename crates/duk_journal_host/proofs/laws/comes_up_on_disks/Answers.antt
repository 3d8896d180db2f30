use Rattle.duk_journal_host.proofs.OnDisks.{goes_on, usable_on_disk}
use Rattle.duk_journal_host.proofs.laws.comes_up_on_disks.Goals as goal

pub returns-clause-goes_on : goal.returns-clause-goes_on
returns-clause-goes_on g c made last again answers usable run is = goes_on g.D.Disk.meaning g.I.Issuer.decides last again (c.comes_up.ensures.served made last answers usable run) is

pub returns-clause-usable : goal.returns-clause-usable
returns-clause-usable g c made last again answers usable run is = usable_on_disk g.D.Disk.meaning last again (c.comes_up.ensures.served made last answers usable run) is

pub returns-clause-host : goal.returns-clause-host
returns-clause-host g c made last again new answers usable run is =
    c.comes_up.ensures.host again new (usable_on_disk g.D.Disk.meaning last again (c.comes_up.ensures.served made last answers usable run) is)
