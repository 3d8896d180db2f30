use Rattle.duk_host.proofs.AnswersOfService.{failed_service, read_up}
use Rattle.duk_host.proofs.laws.each_service.Goals as goal

pub returns-clause-ended : goal.returns-clause-ended
returns-clause-ended g c made old new input left rest found count restarted read = read_up _ made old found restarted new input left rest count read

pub returns-clause-failed : goal.returns-clause-failed
returns-clause-failed g c made old new input left found why restarted failed = failed_service _ made old found restarted new input left why failed
