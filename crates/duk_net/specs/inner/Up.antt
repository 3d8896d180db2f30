-- What only private functions and proofs say beside `Up.antt`: this project's own.
use Rattle.std.specs.Prelude.{ℕ}
use Rattle.duk_host.specs.declared.answered.Verdict.{Verdict}
use Rattle.duk_host.specs.declared.answered.Verdict.TheVariants.{Accepted, Refused, Repeated}
use Rattle.duk_net.specs.declared.outcome.Outcome.{Outcome}
use Rattle.duk_net.specs.declared.outcome.Outcome.TheVariants as outcome

-- what comes of what the host says of a request, in the answer of this number
abbrev pub verdict_outcome : ℕ → Verdict → Outcome
verdict_outcome n (Accepted ksn code) = outcome.Accepted n ksn code
verdict_outcome n (Repeated ksn code) = outcome.Repeated n ksn code
verdict_outcome n (Refused ksn reason) = outcome.Refused n ksn reason
