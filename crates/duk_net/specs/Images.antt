-- Which images the terminals of a world find: this project's own.
use Rattle.std.specs.Prelude.{List, Some, None, All}
use Rattle.duk_regs.specs.Image.{IsImageOfVersion2}
use Rattle.duk_store.specs.Cell.{Kept}
use Rattle.duk_store.specs.StoreState.{FindsWithin}
use Rattle.duk_term.specs.Body.{image_in}
use Rattle.duk_term.specs.Terminal.{TerminalOf}
use Rattle.duk_net.specs.World.{Meanings}

-- nothing is kept, or a body whose image is of version 2
abbrev pub HasVersion2 : Kept → Type 0
HasVersion2 None = Unit {0}
HasVersion2 (Some body) = IsImageOfVersion2 (image_in body)

-- a terminal's cell may find no other after a stop
abbrev pub FindsVersion2 : {C L I : Type 0} → Meanings C L I → TerminalOf C → Type 0
FindsVersion2 m terminal = FindsWithin (m.cell.state_of terminal.cell) HasVersion2

-- so it is of each terminal
abbrev pub FindVersion2 : {C L I : Type 0} → Meanings C L I → List (TerminalOf C) → Type 0
FindVersion2 m terminals = All (FindsVersion2 m) terminals
