use Rattle.duk_till.proofs.LifetimeOfTill.{TillLaws, alike_in_lifetime, begun_in_lifetime, ever_in_lifetime, found_in_lifetime, kept_in_lifetime}
use Rattle.duk_till.proofs.NewNumbers.{NumberLaws, numbers_in_lifetime}
use Rattle.duk_till.proofs.laws.lifetimes.Goals as goal
use Rattle.duk_till.proofs.laws.lifetimes.Goals.{After-found_again}

laws : (g : _) → After-found_again g → TillLaws
laws g c = record { one_reading = c.one_reading.ensures; fits = λ counter usable. (c.bits.ensures.usable counter usable).0 }

number_laws : (g : _) → After-found_again g → NumberLaws
number_laws g c = record { till = laws g c; left = c.found_again.ensures.left; of_key = c.found_again.ensures.of_key }

pub returns-clause-kept : goal.returns-clause-kept
returns-clause-kept g c = kept_in_lifetime (laws g c) g.C.Cell.meaning g.J.Cell.meaning

pub returns-clause-found : goal.returns-clause-found
returns-clause-found g c = found_in_lifetime (laws g c) g.C.Cell.meaning g.J.Cell.meaning

pub returns-clause-begun : goal.returns-clause-begun
returns-clause-begun g c = begun_in_lifetime (laws g c) g.C.Cell.meaning g.J.Cell.meaning

pub returns-clause-numbers : goal.returns-clause-numbers
returns-clause-numbers g c = numbers_in_lifetime (number_laws g c) g.C.Cell.meaning g.J.Cell.meaning

pub returns-clause-alike : goal.returns-clause-alike
returns-clause-alike g c = λ calls history till lifetime.
    alike_in_lifetime (laws g c) g.C.Cell.meaning g.J.Cell.meaning calls history till lifetime (numbers_in_lifetime (number_laws g c) g.C.Cell.meaning g.J.Cell.meaning calls history till lifetime)

pub returns-clause-ever : goal.returns-clause-ever
returns-clause-ever g c = λ calls history till last lifetime runs.
    ever_in_lifetime (laws g c) g.C.Cell.meaning g.J.Cell.meaning calls history till last lifetime (numbers_in_lifetime (number_laws g c) g.C.Cell.meaning g.J.Cell.meaning calls history till lifetime) runs
