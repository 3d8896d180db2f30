-- What arguments without a command come to.
use Rattle.std.proofs.Common.{◌≡◌, ◌∷◌, [], List, codes, refl}
use Rattle.clap.specs.Kinds.{Kinds}
use Rattle.clap.specs.Walk.{Text}
use Rattle.clap.specs.Words.{fault_of}
use Rattle.clap.specs.declared.error.kind.ErrorKind.TheVariants as kind
use Rattle.clap.proofs.OnLiterals.{clap_on_literals}
use Rattle.duk_program.specs.CommandLine.{command_line}

-- the arguments after any name of the program fail so
abbrev pub FailBy : List Text → Kinds → Type 0
FailBy arguments kinds = (program : Text) → fault_of command_line (program ∷ arguments) ≡ kinds

pub no_arguments : FailBy [] (kind.DisplayHelpOnMissingArgumentOrSubcommand ∷ [])
unfolding clap_on_literals
no_arguments program = refl

pub version_argument : FailBy (codes "--version" ∷ []) (kind.DisplayVersion ∷ [])
unfolding clap_on_literals
version_argument program = refl

pub version_letter : FailBy (codes "-V" ∷ []) (kind.DisplayVersion ∷ [])
unfolding clap_on_literals
version_letter program = refl

pub help_argument : FailBy (codes "--help" ∷ []) (kind.DisplayHelp ∷ [])
unfolding clap_on_literals
help_argument program = refl

pub help_letter : FailBy (codes "-h" ∷ []) (kind.DisplayHelp ∷ [])
unfolding clap_on_literals
help_letter program = refl
