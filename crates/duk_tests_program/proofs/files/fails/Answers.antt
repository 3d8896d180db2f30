use Rattle.duk_tests_program.proofs.AnyFile.{any_file}
use Rattle.duk_tests_program.proofs.files.fails.Goals as goal

pub of_command-requires : goal.of_command-requires
of_command-requires c asked = any_file asked
