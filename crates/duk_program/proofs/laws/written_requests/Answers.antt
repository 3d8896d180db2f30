use Rattle.duk_program.proofs.WrittenRequests.{asks, only, taken}
use Rattle.duk_program.proofs.laws.written_requests.Goals as goal

pub returns : goal.returns
returns c = record {
  taken = λ program request form. taken request form program;
  asks = λ program request form. asks request form program;
  only = λ program request other form. only request form program other;
}
