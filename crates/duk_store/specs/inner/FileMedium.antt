-- What only private functions and proofs say beside `FileMedium.antt`: this project's own.
use Rattle.std.specs.Prelude.{◌≡◌, ℕ, Bool, true}
use Rattle.duk_store.specs.Medium.{IsSizeOf, MediumState}

-- the size is that of the file, and no failure of the file is forgotten
pub record RemembersFailure (file : MediumState) (size : ℕ) (has_failed : Bool) : Type 0 where
  pub size_is : IsSizeOf size file
  pub kept : file.failed → has_failed ≡ true
