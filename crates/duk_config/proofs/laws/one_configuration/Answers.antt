use Rattle.duk_config.proofs.OneConfiguration.{no_file_fault, one_file}
use Rattle.duk_config.proofs.OneFault.{one_fault}
use Rattle.duk_config.proofs.laws.one_configuration.Goals as goal

pub returns-clause-one : goal.returns-clause-one
returns-clause-one c = one_file

pub returns-clause-no_fault : goal.returns-clause-no_fault
returns-clause-no_fault c = no_file_fault

pub returns-clause-one_fault : goal.returns-clause-one_fault
returns-clause-one_fault c = one_fault
