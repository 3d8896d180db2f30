-- What only private functions and proofs say beside `Entry.antt`: this project's own.
use Rattle.std.specs.Prelude.{◌≡◌, ℕ}
use Rattle.duk_journal.specs.Entry.{figure_of, kind_of, outcome_of}
use Rattle.duk_journal.specs.declared.entry.Decided.{Decided}

-- what a record says of what was decided
pub record IsWrittenAs (decided : Decided) (kind figure outcome : ℕ) : Type 0 where
  pub kind_is : kind_of decided ≡ kind
  pub figure_is : figure_of decided ≡ figure
  pub outcome_is : outcome_of decided ≡ outcome
