-- The text of each fault of the host: this project's own.
use Rattle.std.specs.Prelude.{ℕ, List, ◌∷◌, ◌++◌, codes}
use Rattle.duk_store.specs.FaultName.{store_fault_name}
use Rattle.duk_host.specs.declared.fault.HostFault.{HostFault}
use Rattle.duk_host.specs.declared.fault.HostFault.TheVariants as fault

-- a fault's own name
abbrev pub host_fault_name : HostFault → List ℕ
host_fault_name fault.NoMemory = codes "NoMemory"
host_fault_name (fault.Store inside) = codes "Store"
host_fault_name fault.Stopped = codes "Stopped"
host_fault_name fault.Read = codes "Read"
host_fault_name fault.Write = codes "Write"
host_fault_name fault.Truncated = codes "Truncated"
host_fault_name fault.TooLong = codes "TooLong"

-- the text of a fault, as each line that reports it writes it: its name, and after a space that of
-- the fault inside it
abbrev pub host_fault_text : HostFault → List ℕ
host_fault_text (fault.Store inside) = host_fault_name (fault.Store inside) ++ 32 ∷ store_fault_name inside
host_fault_text other = host_fault_name other
