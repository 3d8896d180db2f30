-- The names of the faults of key blocks: this project's own.
use Rattle.std.specs.Prelude.{ℕ, List, codes}
use Rattle.duk_block.specs.declared.fault.BlockFault.{BlockFault}
use Rattle.duk_block.specs.declared.fault.BlockFault.TheVariants as fault

-- a fault's name, as each command and each line that reports it writes it
abbrev pub block_fault_name : BlockFault → List ℕ
block_fault_name fault.Length = codes "Length"
block_fault_name fault.Version = codes "Version"
block_fault_name fault.HeaderField = codes "HeaderField"
block_fault_name fault.OptionalBlock = codes "OptionalBlock"
block_fault_name fault.Hex = codes "Hex"
block_fault_name fault.Mac = codes "Mac"
block_fault_name fault.Payload = codes "Payload"
block_fault_name fault.PadLength = codes "PadLength"
