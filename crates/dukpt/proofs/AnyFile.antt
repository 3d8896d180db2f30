-- Each file may be written and made.
use Rattle.std.specs.Prelude.{⊤, IfSome, None, Option, Some, codes, List, ℕ}
use Rattle.duk_arguments.specs.Request.{Written, value_in}
use Rattle.duk_arguments.specs.declared.name.CommandName.{CommandName}
use Rattle.duk_arguments.specs.declared.name.CommandName.TheVariants as name
use Rattle.duk_program.specs.Own.{MayMakeOwn, MayUseOwn, MayWriteOwn}

all : (file : Option (List ℕ)) → IfSome file (λ path. ⊤)
all None = tt
all (Some path) = tt

any_written : (command : CommandName) (asked : Written) → MayWriteOwn (λ path. ⊤) command asked
any_written name.Serve asked = (all (value_in (codes "log") asked), all (value_in (codes "journal") asked))
any_written name.GrowJournal asked = tt
any_written name.Issue asked = tt
any_written _ asked = tt

any_made : (command : CommandName) (asked : Written) → MayMakeOwn (λ path. ⊤) command asked
any_made name.NewLog asked = tt
any_made name.NewJournal asked = tt
any_made name.NewLedger asked = tt
any_made name.CopyJournal asked = tt
any_made name.CopyLedger asked = tt
any_made name.Issue asked = all (value_in (codes "out") asked)
any_made _ asked = tt

pub any_file : (asked : Written) → MayUseOwn (λ path. ⊤) (λ path. ⊤) asked
any_file asked = record { write = any_written asked.command asked; make = any_made asked.command asked }
