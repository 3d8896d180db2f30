use Rattle.duk_program.proofs.WithoutACommand.{help_letter, help_argument, no_arguments, version_letter, version_argument}
use Rattle.duk_program.proofs.laws.arguments_without_a_command.Goals as goal

pub returns : goal.returns
returns c = record {
  none = no_arguments;
  version = version_argument;
  version_letter = version_letter;
  help = help_argument;
  help_letter = help_letter;
}
