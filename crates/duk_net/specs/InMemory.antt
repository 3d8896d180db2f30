-- Worlds over stores in memory: this project's own.
use Rattle.duk_host.specs.Table.{CardTable, table_decision}
use Rattle.duk_store.specs.MemoryCell.{MemoryCell, memory_cell_meaning, new_cell}
use Rattle.duk_store.specs.MemoryLog.{MemoryLog, memory_log_meaning}
use Rattle.duk_term.specs.Terminal.{TerminalOf}
use Rattle.duk_term.specs.declared.state.State.TheVariants.{Stopped}
use Rattle.duk_net.specs.World.{Meanings, WorldOf, meanings_of}

-- a world over stores in memory, whose issuer decides by a table of cards
abbrev pub MemoryWorld : Type 0
MemoryWorld = WorldOf MemoryCell MemoryLog CardTable

-- what its stores and its issuer mean
abbrev pub in_memory : Meanings MemoryCell MemoryLog CardTable
in_memory = meanings_of memory_cell_meaning memory_log_meaning table_decision

-- a terminal as it is made over a new cell in memory
abbrev pub new_terminal : TerminalOf MemoryCell
new_terminal = record { cell = new_cell; state = Stopped }
