-- What only private functions and proofs say beside `Message.antt`: this project's own.
use Rattle.duk_program.specs.Message as spec
use Rattle.duk_program.specs.declared.message.Message.{Message}
use Rattle.duk_program.specs.declared.message.Message.TheVariants.{File, Input, Own}

-- where the bytes of a TEXT stand
abbrev pub message_in : Message → spec.Message
message_in (Own text) = spec.its_own text.now
message_in (File path) = spec.of_file path.now
message_in Input = spec.of_input
