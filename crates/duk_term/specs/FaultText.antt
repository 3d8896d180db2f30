-- The text of each fault of a terminal: this project's own.
use Rattle.std.specs.Prelude.{ℕ, List, ◌∷◌, ◌++◌, codes}
use Rattle.duk_block.specs.FaultName.{block_fault_name}
use Rattle.duk_store.specs.FaultName.{store_fault_name}
use Rattle.duk_term.specs.declared.fault.TermFault.{TermFault}
use Rattle.duk_term.specs.declared.fault.TermFault.TheVariants as fault

-- a fault's own name
abbrev pub term_fault_name : TermFault → List ℕ
term_fault_name fault.NotLoaded = codes "NotLoaded"
term_fault_name (fault.Block inside) = codes "Block"
term_fault_name fault.WrongUse = codes "WrongUse"
term_fault_name fault.Spent = codes "Spent"
term_fault_name fault.Stopped = codes "Stopped"
term_fault_name (fault.Store inside) = codes "Store"
term_fault_name fault.Malformed = codes "Malformed"
term_fault_name fault.NotPending = codes "NotPending"
term_fault_name fault.NotMine = codes "NotMine"
term_fault_name fault.BadMac = codes "BadMac"
term_fault_name fault.IksnSpent = codes "IksnSpent"
term_fault_name fault.LoadsSpent = codes "LoadsSpent"

-- the text of a fault, as each line that reports it writes it: its name, and after a space that of
-- the fault inside it
abbrev pub term_fault_text : TermFault → List ℕ
term_fault_text (fault.Block inside) = term_fault_name (fault.Block inside) ++ 32 ∷ block_fault_name inside
term_fault_text (fault.Store inside) = term_fault_name (fault.Store inside) ++ 32 ∷ store_fault_name inside
term_fault_text other = term_fault_name other
