-- The text of each fault of a till: this project's own.
use Rattle.std.specs.Prelude.{ℕ, List, ◌∷◌, ◌++◌, codes}
use Rattle.duk_store.specs.FaultName.{store_fault_name}
use Rattle.duk_term.specs.FaultText.{term_fault_text}
use Rattle.duk_till.specs.declared.fault.TillFault.{TillFault}
use Rattle.duk_till.specs.declared.fault.TillFault.TheVariants as fault

-- the text of a fault: that of the terminal's where it is one, and after the name of the store's a
-- space and its cause
abbrev pub till_fault_text : TillFault → List ℕ
till_fault_text fault.Stopped = codes "Stopped"
till_fault_text fault.Open = codes "Open"
till_fault_text fault.NothingOpen = codes "NothingOpen"
till_fault_text (fault.Terminal why) = term_fault_text why
till_fault_text (fault.Store why) = codes "Store" ++ 32 ∷ store_fault_name why
