use Rattle.duk_host.proofs.DecidedRequests.{PathLaws}
use Rattle.duk_host.proofs.SomeAnswer.{some_answer, some_service}
use Rattle.duk_host.proofs.laws.some_answer.Goals as goal

pub returns-clause-bytes : goal.returns-clause-bytes
returns-clause-bytes c =
    let paths : PathLaws = record { path = c.paths.ensures.path_of_counter; value = c.paths.ensures.value; usable = c.bits.ensures.usable } in
    some_answer paths

pub returns-clause-stream : goal.returns-clause-stream
returns-clause-stream c =
    let paths : PathLaws = record { path = c.paths.ensures.path_of_counter; value = c.paths.ensures.value; usable = c.bits.ensures.usable } in
    some_service paths c.streams.ensures.split
