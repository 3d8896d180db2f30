use Rattle.duk_host.proofs.RefusalsAreRead.{malformed_read, request_read}
use Rattle.duk_host.proofs.laws.refusals.Goals as goal

pub returns : goal.returns
returns c = record { malformed = malformed_read; request = request_read }
