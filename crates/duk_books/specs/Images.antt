-- What the two cells of a till find after a stop: this project's own.
use Rattle.std.specs.Prelude.{List, Some, None, All}
use Rattle.duk_regs.specs.Image.{IsImageOfVersion2}
use Rattle.duk_store.specs.Cell.{Kept}
use Rattle.duk_store.specs.StoreState.{FindsWithin}
use Rattle.duk_term.specs.Body.{image_in}
use Rattle.duk_till.specs.Image.{IsLastBody}
use Rattle.duk_till.specs.Till.{TillOf}
use Rattle.duk_till.specs.declared.last.Last.{Last}
use Rattle.duk_books.specs.Books.{Meanings}

-- nothing is kept, or a body whose image is of version 2
abbrev pub HasVersion2 : Kept → Type 0
HasVersion2 None = Unit {0}
HasVersion2 (Some body) = IsImageOfVersion2 (image_in body)

-- a till's terminal may find no other after a stop
abbrev pub FindsVersion2 : {C B J I : Type 0} → Meanings C B J I → TillOf C B → Type 0
FindsVersion2 m till = FindsWithin (m.cell.state_of till.terminal.cell) HasVersion2

-- so it is of each till
abbrev pub FindVersion2 : {C B J I : Type 0} → Meanings C B J I → List (TillOf C B) → Type 0
FindVersion2 m tills = All (FindsVersion2 m) tills

-- nothing is kept, or the body of a last purchase: its state, its number, an amount and a code, and
-- so no key
abbrev pub IsNothingOrLast : Kept → Type 0
IsNothingOrLast None = Unit {0}
IsNothingOrLast (Some body) = (last : Last) × IsLastBody body last

-- a till's book may find no other after a stop
abbrev pub FindsLast : {C B J I : Type 0} → Meanings C B J I → TillOf C B → Type 0
FindsLast m till = FindsWithin (m.book.state_of till.book) IsNothingOrLast

-- so it is of each till
abbrev pub FindLast : {C B J I : Type 0} → Meanings C B J I → List (TillOf C B) → Type 0
FindLast m tills = All (FindsLast m) tills
