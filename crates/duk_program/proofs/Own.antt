-- What may be done to the files of a request.
use Rattle.std.proofs.Common.{[], ◌≡◌, ℕ, IfSome, List, codes, refl, slice_get, subst, sym}
use Rattle.std.specs.Prelude.{unwrap_or, false}
use Rattle.duk_program.specs.CommandLine.{row_of}
use Rattle.duk_arguments.specs.Request.{Written, text_in, texts_in, value_in}
use Rattle.duk_program.specs.References.{may_refer}
use Rattle.duk_arguments.specs.declared.name.CommandName.{CommandName}
use Rattle.duk_arguments.specs.declared.name.CommandName.TheVariants as name
use Rattle.duk_program.specs.Own.{MayMakeOwn, MayUseOwn, MayWriteOwn}

-- a request has the texts of another where no reference may stand
abbrev pub HasPlain : CommandName → Written → Written → Type 0
HasPlain command asked meant = (argument : List ℕ) → may_refer argument (row_of command) ≡ false
    → texts_in argument meant ≡ texts_in argument asked

module _ (may : List ℕ → Type 0) (asked meant : Written) where
  value : (argument : List ℕ) → texts_in argument meant ≡ texts_in argument asked
      → IfSome (value_in argument asked) may → IfSome (value_in argument meant) may
  value argument same = subst (λ (texts : List (List ℕ)). IfSome (slice_get texts 0) may) (sym same)

  text : (argument : List ℕ) → texts_in argument meant ≡ texts_in argument asked
      → may (text_in argument asked) → may (text_in argument meant)
  text argument same = subst (λ (texts : List (List ℕ)). may (unwrap_or (slice_get texts 0) [])) (sym same)

  write : (command : CommandName) → HasPlain command asked meant → MayWriteOwn may command asked → MayWriteOwn may command meant
  write name.Serve plain own =
      (value (codes "log") (plain (codes "log") refl) own.0, value (codes "journal") (plain (codes "journal") refl) own.1)
  write name.GrowJournal plain own = text (codes "FILE") (plain (codes "FILE") refl) own
  write name.Issue plain own = text (codes "ledger") (plain (codes "ledger") refl) own
  write _ plain own = tt

  make : (command : CommandName) → HasPlain command asked meant → MayMakeOwn may command asked → MayMakeOwn may command meant
  make name.NewLog plain own = text (codes "FILE") (plain (codes "FILE") refl) own
  make name.NewJournal plain own = text (codes "FILE") (plain (codes "FILE") refl) own
  make name.NewLedger plain own = text (codes "FILE") (plain (codes "FILE") refl) own
  make name.CopyJournal plain own = text (codes "NEW") (plain (codes "NEW") refl) own
  make name.CopyLedger plain own = text (codes "NEW") (plain (codes "NEW") refl) own
  make name.Issue plain own = value (codes "out") (plain (codes "out") refl) own
  make _ plain own = tt

-- a request of the same command with the same files may do the same
pub may_use : (may_write may_make : List ℕ → Type 0) (asked meant : Written) → meant.command ≡ asked.command → HasPlain asked.command asked meant
    → MayUseOwn may_write may_make asked → MayUseOwn may_write may_make meant
may_use may_write may_make asked meant same plain own = record {
  write = subst (λ command. MayWriteOwn may_write command meant) (sym same) (write may_write asked meant asked.command plain own.write);
  make = subst (λ command. MayMakeOwn may_make command meant) (sym same) (make may_make asked meant asked.command plain own.make);
}
