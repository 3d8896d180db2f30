-- How a run ends, as numbers: this project's own.
use Rattle.std.specs.Prelude.{ℕ}
use Rattle.dukpt_player.specs.declared.ending.Ending.{Ending}
use Rattle.dukpt_player.specs.declared.ending.Ending.TheVariants.{Played, BadConfig, NotAnEvent, NoMemory, NoRoom}

-- the number of an ending, as the page sees it
abbrev pub ending_number : Ending → ℕ
ending_number Played = 0
ending_number BadConfig = 1
ending_number (NotAnEvent line) = 2
ending_number NoMemory = 3
ending_number NoRoom = 4

-- the number of the line that is no event, counted from 1; else zero
abbrev pub ending_line : Ending → ℕ
ending_line (NotAnEvent line) = line
ending_line _ = 0
