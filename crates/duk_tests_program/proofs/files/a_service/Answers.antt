use Rattle.duk_tests_program.proofs.AnyFile.{any_file}
use Rattle.duk_tests_program.proofs.files.a_service.Goals as goal

pub serves-requires : goal.serves-requires
serves-requires g c asked = any_file asked

pub serves-requires-2 : goal.serves-requires-2
serves-requires-2 g c asked = any_file asked
