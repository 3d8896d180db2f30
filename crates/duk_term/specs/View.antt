-- What contracts see of a terminal's fields: this project's own.
use Rattle.duk_term.specs.Terminal.{TerminalOf}
use Rattle.duk_term.specs.declared.terminal.Terminal.TheInside.{Inside}

-- its cell and its state
abbrev pub terminal_view : {C : Type 0} → Inside C → TerminalOf C
terminal_view terminal = record { cell = terminal.cell; state = terminal.state }
