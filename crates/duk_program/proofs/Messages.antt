-- The bytes that a TEXT stands for, as they are read.
use Rattle.std.proofs.Common.{◌≡◌, ◌≤◌, List, None, Some, ap, length, ℕ}
use Rattle.duk_io.specs.Known.{Known}
use Rattle.duk_io.specs.Source.{AreBytesRead}
use Rattle.duk_program.specs.Message.{its_own, message_at, message_behind, message_of}
use Rattle.duk_program.specs.Secrets.{reference_in}

-- where they stand, by what is behind an `@`
pub own : (text : List ℕ) → reference_in text ≡ None → message_of text ≡ its_own text
own text is = ap (message_at text) is

pub behind : (text path : List ℕ) → reference_in text ≡ Some path → message_of text ≡ message_behind path
behind text path is = ap (message_at text) is

-- so many reads gave a byte each at least
pub record IsReadSoFar (before now : Known) (count : ℕ) (bytes : List ℕ) : Type 0 where
  pub read : AreBytesRead before now bytes
  pub enough : count ≤ length bytes
