-- The lines of the faults of `show` (this project's own).
use Rattle.std.specs.Prelude.{ℕ, List, ◌++◌, codes, decimal}
use Rattle.duk_block.specs.FaultName.{block_fault_name}
use Rattle.duk_commands.specs.Fault.{line_end}
use Rattle.duk_show.specs.FrameFault.{frame_fault_name}
use Rattle.duk_show.specs.ImageFault.{image_fault_name}
use Rattle.duk_show.specs.declared.fault.ShowFault.{ShowFault}
use Rattle.duk_show.specs.declared.fault.ShowFault.TheVariants.{BdkRefused, BlockRefused, FrameRefused, ImageRefused, InitialRefused, JournalRefused, JournalTooLong, JournalUnread, KindRefused, KsnRefused, LedgerRefused, LedgerTooLong, LedgerUnread, LogRefused, LogTooLong, LogUnread, OutOfMemory}

-- what is reported where the reading of a text of this kind stops: the place and the fault there
abbrev pub stopped_text : List ℕ → ℕ → List ℕ → List ℕ
stopped_text kind place why =
    kind ++ codes " refused at " ++ decimal place ++ codes ": " ++ why

-- what is reported of a fault
abbrev pub show_text : ShowFault → List ℕ
show_text KindRefused = codes "KIND refused"
show_text BdkRefused = codes "BDK refused"
show_text InitialRefused = codes "initial refused"
show_text KsnRefused = codes "KSN refused"
show_text (FrameRefused place why) = stopped_text (codes "frame") place (frame_fault_name why)
show_text (BlockRefused place why) = stopped_text (codes "block") place (block_fault_name why)
show_text (ImageRefused place why) = stopped_text (codes "image") place (image_fault_name why)
show_text LogUnread = codes "log: cannot read"
show_text LogTooLong = codes "log: too long"
show_text (LogRefused place) = stopped_text (codes "log") place (codes "Damaged")
show_text JournalUnread = codes "journal: cannot read"
show_text JournalTooLong = codes "journal: too long"
show_text (JournalRefused place) = stopped_text (codes "journal") place (codes "Damaged")
show_text LedgerUnread = codes "ledger: cannot read"
show_text LedgerTooLong = codes "ledger: too long"
show_text (LedgerRefused place) = stopped_text (codes "ledger") place (codes "Damaged")
show_text OutOfMemory = codes "out of memory"

-- the line of a fault
abbrev pub show_line : ShowFault → List ℕ
show_line fault = show_text fault ++ line_end
