use Rattle.dukpt.proofs.AnyFile.{any_file}
use Rattle.dukpt.proofs.main.Goals as goal

pub run_program-status-requires : goal.run_program-status-requires
run_program-status-requires c asked is = any_file asked
