-- The files that a request is for (this project's own).
use Rattle.std.specs.Prelude.{⊤, IfSome, codes, List, ℕ}
use Rattle.duk_arguments.specs.Request.{Written, text_in, value_in}
use Rattle.duk_arguments.specs.declared.name.CommandName.{CommandName}
use Rattle.duk_arguments.specs.declared.name.CommandName.TheVariants as name

-- the file that a request opens to write it may be written: a service's log or journal, a ledger, or
-- a journal that is made larger
abbrev pub MayWriteOwn : (List ℕ → Type 0) → CommandName → Written → Type 0
MayWriteOwn may_write name.Serve asked = IfSome (value_in (codes "log") asked) may_write
    × IfSome (value_in (codes "journal") asked) may_write
MayWriteOwn may_write name.GrowJournal asked = may_write (text_in (codes "FILE") asked)
MayWriteOwn may_write name.Issue asked = may_write (text_in (codes "ledger") asked)
MayWriteOwn may_write _ asked = ⊤

-- the new file that a request makes may be made
abbrev pub MayMakeOwn : (List ℕ → Type 0) → CommandName → Written → Type 0
MayMakeOwn may_make name.NewLog asked = may_make (text_in (codes "FILE") asked)
MayMakeOwn may_make name.NewJournal asked = may_make (text_in (codes "FILE") asked)
MayMakeOwn may_make name.NewLedger asked = may_make (text_in (codes "FILE") asked)
MayMakeOwn may_make name.CopyJournal asked = may_make (text_in (codes "NEW") asked)
MayMakeOwn may_make name.CopyLedger asked = may_make (text_in (codes "NEW") asked)
MayMakeOwn may_make name.Issue asked = IfSome (value_in (codes "out") asked) may_make
MayMakeOwn may_make _ asked = ⊤

-- where this may be done to files, a request may write its file, and make its new one
pub record MayUseOwn (may_write may_make : List ℕ → Type 0) (asked : Written) : Type 0 where
  pub write : MayWriteOwn may_write asked.command asked
  pub make : MayMakeOwn may_make asked.command asked
