-- The names of the faults of stores: this project's own.
use Rattle.std.specs.Prelude.{ℕ, List, codes}
use Rattle.duk_store.specs.declared.fault.StoreFault.{StoreFault}
use Rattle.duk_store.specs.declared.fault.StoreFault.TheVariants as fault

-- a fault's name, as each line that reports it writes it
abbrev pub store_fault_name : StoreFault → List ℕ
store_fault_name fault.Device = codes "Device"
store_fault_name fault.Stopped = codes "Stopped"
store_fault_name fault.Damaged = codes "Damaged"
store_fault_name fault.Worn = codes "Worn"
store_fault_name fault.NoMemory = codes "NoMemory"
