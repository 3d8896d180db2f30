use Rattle.duk_program.proofs.fault.Fault.tell.Goals as goal

pub returns-in-ConfigUnread : goal.returns-in-ConfigUnread
returns-in-ConfigUnread g c = rw c.in-ConfigUnread.is c.tell-in-ConfigUnread.ensures
