-- What the line of a fault is made of.
use Rattle.std.proofs.Common.{◌≤◌, length, arith}
use Rattle.duk_block.specs.FaultName.{block_fault_name}
use Rattle.duk_block.specs.declared.fault.BlockFault.{BlockFault}
use Rattle.duk_block.specs.declared.fault.BlockFault.TheVariants as block
use Rattle.duk_store.specs.FaultName.{store_fault_name}
use Rattle.duk_store.specs.declared.fault.StoreFault.{StoreFault}
use Rattle.duk_store.specs.declared.fault.StoreFault.TheVariants as store
use Rattle.duk_term.specs.FaultText.{term_fault_name}
use Rattle.duk_term.specs.declared.fault.TermFault.{TermFault}
use Rattle.duk_term.specs.declared.fault.TermFault.TheVariants as term
use Rattle.duk_host.specs.FaultText.{host_fault_name}
use Rattle.duk_host.specs.declared.fault.HostFault.{HostFault}
use Rattle.duk_host.specs.declared.fault.HostFault.TheVariants as host
use Rattle.duk_config.specs.ConfigKeys.{key_name}
use Rattle.duk_config.specs.declared.fault.ConfigKey.{ConfigKey}
use Rattle.duk_config.specs.declared.fault.ConfigKey.TheVariants as key

-- the name of a key is short
pub short_name : (key : ConfigKey) → length (key_name key) ≤ 9
short_name key.Lmk = omega arith
short_name key.Zone = omega arith
short_name key.Loading = omega arith
short_name key.Terminals = omega arith
short_name key.Log = omega arith
short_name key.Stores = omega arith
short_name key.Bdk = omega arith
short_name key.Card = omega arith

-- the name of a key block's fault is short
pub short_block_name : (fault : BlockFault) → length (block_fault_name fault) ≤ 13
short_block_name block.Length = omega arith
short_block_name block.Version = omega arith
short_block_name block.HeaderField = omega arith
short_block_name block.OptionalBlock = omega arith
short_block_name block.Hex = omega arith
short_block_name block.Mac = omega arith
short_block_name block.Payload = omega arith
short_block_name block.PadLength = omega arith

-- the name of a store's fault is short
pub short_store_name : (fault : StoreFault) → length (store_fault_name fault) ≤ 8
short_store_name store.Device = omega arith
short_store_name store.Stopped = omega arith
short_store_name store.Damaged = omega arith
short_store_name store.Worn = omega arith
short_store_name store.NoMemory = omega arith

-- a terminal's fault has a short name
pub short_term_name : (fault : TermFault) → length (term_fault_name fault) ≤ 10
short_term_name term.NotLoaded = omega arith
short_term_name (term.Block inside) = omega arith
short_term_name term.WrongUse = omega arith
short_term_name term.Spent = omega arith
short_term_name term.Stopped = omega arith
short_term_name (term.Store inside) = omega arith
short_term_name term.Malformed = omega arith
short_term_name term.NotPending = omega arith
short_term_name term.NotMine = omega arith
short_term_name term.BadMac = omega arith
short_term_name term.IksnSpent = omega arith
short_term_name term.LoadsSpent = omega arith

-- the host's fault has a short name
pub short_host_name : (fault : HostFault) → length (host_fault_name fault) ≤ 9
short_host_name host.NoMemory = omega arith
short_host_name (host.Store inside) = omega arith
short_host_name host.Stopped = omega arith
short_host_name host.Read = omega arith
short_host_name host.Write = omega arith
short_host_name host.Truncated = omega arith
short_host_name host.TooLong = omega arith
