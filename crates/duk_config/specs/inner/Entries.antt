-- What only private functions and proofs say beside `Entries.antt`: this project's own.
use Rattle.std.specs.Prelude.{List}
use Rattle.std.specs.List.{All}
use Rattle.toml.specs.Data.{Data}

module _ {Entry : Type 0} (States : Data → Entry → Type 0) (Repeats : Entry → Entry → Type 0) where
  -- the value states this entry, which repeats none of these: what a private function of
  -- `read_config` answers
  pub record IsNextEntry (earlier : List Entry) (value : Data) (entry : Entry) : Type 0 where
    pub stated : States value entry
    pub new : All (λ other. ¬ Repeats other entry) earlier
