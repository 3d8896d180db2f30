-- What only private functions and proofs say beside `ReadAhead.antt`: this project's own.
use Rattle.std.specs.Prelude.{ℕ}
use Rattle.duk_store.specs.Medium.{IsSizeOf, MediumState}
use Rattle.duk_store.specs.inner.Window.{Agrees, WindowOf}

-- the size is that of the file, and what was read ahead is what the file has
pub record IsAhead (file : MediumState) (size : ℕ) (window : WindowOf) : Type 0 where
  pub size_is : IsSizeOf size file
  pub agrees : Agrees file window
