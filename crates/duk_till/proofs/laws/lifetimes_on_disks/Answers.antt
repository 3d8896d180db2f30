use Rattle.duk_till.proofs.laws.lifetimes_on_disks.Goals as goal

pub returns-clause-left : goal.returns-clause-left
returns-clause-left g c = λ calls history till bytes kept lifetime leaves keeps. c.lifetimes-2.ensures.found calls history till kept lifetime (bytes, leaves, keeps)
